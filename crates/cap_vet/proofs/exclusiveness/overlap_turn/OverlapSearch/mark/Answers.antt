use Rattle.cap_spec.proofs.ProofNames.{rules, sym, ◌∙◌}
use Rattle.cap_vet.proofs.MarkingWalk.{known_marks, marks_known, still_overlaps, turn_on, turn_overlap}
use Rattle.cap_vet.proofs.exclusiveness.overlap_turn.OverlapSearch.mark.Goals as goal

pub mark_pointer-requires-clause-word : goal.mark_pointer-requires-clause-word
mark_pointer-requires-clause-word g c = search (rules, marks_known)

pub returns-then-is_some-clause-known : goal.returns-then-is_some-clause-known
returns-then-is_some-clause-known g c = λ seen a cost l k.
    still_overlaps _ _ _ c.args.self.now.marks _ (sym c.is_some.ensures ∙ c.if-is_some.true) k

pub returns-then-mark_pointer-clause-known : goal.returns-then-mark_pointer-clause-known
returns-then-mark_pointer-clause-known g c = λ seen a cost l k.
    let known = marks_known _ _ c.args.self.now.marks _ (sym c.is_some.ensures ∙ c.if-is_some.false) k in
    known_marks _ _ c.mark_pointer.new.self _ (sym c.is_some.ensures ∙ c.if-is_some.false) (record {
      fits = c.mark_pointer.ensures.fits;
      marked = turn_on seen a l known.marked (c.mark_pointer.ensures.taken c.if-mark_pointer.true);
    })

pub returns-clause-known : goal.returns-clause-known
returns-clause-known g c = λ seen a cost l k.
    let known = marks_known _ _ c.args.self.now.marks _ (sym c.is_some.ensures ∙ c.if-is_some.false) k in
    turn_overlap seen a l known.marked (c.mark_pointer.ensures.conflict c.if-mark_pointer.false)
