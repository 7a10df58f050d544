use Rattle.cap_spec.specs.Following.{to_null, to_object}
use Rattle.cap_spec.proofs.ProofNames.{arith, extent, kind, pos, refl, sym, ◌∙◌, ◌≢◌}
use Rattle.cap_difference.proofs.OtherObjects.{cap_differs, far_differs, object_not_copied}
use Rattle.cap_difference.proofs.PointerReasons.{capability_first, far_first, object_first, object_same}
use Rattle.cap_difference.proofs.SameObjects.{none_read, null_in_copy, object_in_copy}
use Rattle.cap_difference.proofs.ShapeKinds.{kind_at, kind_found, object_placed}
use Rattle.cap_difference.proofs.pointers.next_end.Goals as goal

pub returns-then-kind-eq2-clause-differs : goal.returns-then-kind-eq2-clause-differs
returns-then-kind-eq2-clause-differs g c =
    far_first _ c.args.s c.args.w c.args.end _ c.word-word.ensures (sym c.kind.ensures ∙ c.if-kind-eq2.true)

pub returns-in-Ok-Null-clause-ends : goal.returns-in-Ok-Null-clause-ends
returns-in-Ok-Null-clause-ends g c =
    let lead = rw c.in-Ok-Null.field-0-is at c.in-Ok-Null.ensures.ok in (0, (_, to_null, lead, refl), omega arith)

pub returns-in-Ok-Cap-clause-differs : goal.returns-in-Ok-Cap-clause-differs
returns-in-Ok-Cap-clause-differs g c =
    capability_first _ c.args.s c.args.w c.args.end _ c.word-word.ensures (λ z. c.if-kind-eq2.false (c.kind.ensures ∙ z)) _ _
    (rw c.in-Ok-Cap.field-0-is at c.in-Ok-Cap.ensures.ok)

pub returns-then-kind-eq2-clause-not_copied : goal.returns-then-kind-eq2-clause-not_copied
returns-then-kind-eq2-clause-not_copied g c =
    far_differs _ c.args.s c.args.w c.args.end _ c.word-word.ensures (sym c.kind.ensures ∙ c.if-kind-eq2.true)

pub returns-in-Ok-Null-clause-copied : goal.returns-in-Ok-Null-clause-copied
returns-in-Ok-Null-clause-copied g c = λ first start.
    null_in_copy _ c.args.s c.args.w c.args.end _ _ c.word-word.ensures (λ z. c.if-kind-eq2.false (c.kind.ensures ∙ z))
    (rw c.in-Ok-Null.field-0-is at c.in-Ok-Null.ensures.ok) first

pub returns-in-Ok-Cap-clause-not_copied : goal.returns-in-Ok-Cap-clause-not_copied
returns-in-Ok-Cap-clause-not_copied g c =
    cap_differs _ c.args.s c.args.w c.args.end _ _ _ c.word-word.ensures (λ z. c.if-kind-eq2.false (c.kind.ensures ∙ z))
    (rw c.in-Ok-Cap.field-0-is at c.in-Ok-Cap.ensures.ok)

pub returns-in-Some : goal.returns-in-Some
returns-in-Some g c =
    let x = c.in-Ok-Target.target in
    let (q, tag, f) = rw c.in-Ok-Target.field-0-is at c.in-Ok-Target.ensures.ok in
    let found = kind_found x.shape f in
    let first = c.in-Some.ensures x.pads q tag x.charge (kind_at x.shape) f.object found.shape in
    let near : kind c.word-word.result ≢ 2 = λ z. c.if-kind-eq2.false (c.kind.ensures ∙ z) in
    record {
      ends = tt;
      same = tt;
      differs = object_first _ c.args.s c.args.w c.args.end _ c.word-word.ensures near x.pads x.segment x.start q tag (kind_at x.shape) found _ first;
      copied = tt;
      not_copied =
          object_not_copied _ c.args.s c.args.w c.args.end _ x.pads x.segment x.start q tag x.words x.charge x.shape _ c.word-word.ensures
          near f first.holds;
    }

pub returns-in-None : goal.returns-in-None
returns-in-None g c =
    let x = c.in-Ok-Target.target in
    let (q, tag, f) = rw c.in-Ok-Target.field-0-is at c.in-Ok-Target.ensures.ok in
    let found = kind_found x.shape f in
    let none = c.in-None.ensures x.pads q tag x.charge (kind_at x.shape) f.object found.shape in
    let near : kind c.word-word.result ≢ 2 = λ z. c.if-kind-eq2.false (c.kind.ensures ∙ z) in
    record {
      ends = (0, (x.pads, to_object x.segment (pos x.start) q, f.finds.leads, sym c.if-target-eq0.true ∙ f.object.words), omega arith);
      same = object_same _ c.args.s c.args.w c.args.end _ c.word-word.ensures near x.pads x.segment x.start q tag (kind_at x.shape) found none;
      differs = tt;
      copied =
          object_in_copy _ c.args.s c.args.w c.args.end c.args.end _ x.pads x.segment x.start q tag x.words x.charge x.shape c.word-word.ensures
          c.word-word.type_inv near f
          (none_read _ c.args.s c.args.w x.pads x.segment x.start q tag x.words x.charge x.shape f c.if-target-eq0.true) none
          (omega (arith, c.if-target-eq0.true));
      not_copied = tt;
    }

pub returns-in-None-2 : goal.returns-in-None-2
returns-in-None-2 g c =
    let x = c.in-Ok-Target.target in
    let (q, tag, f) = rw c.in-Ok-Target.field-0-is at c.in-Ok-Target.ensures.ok in
    let found = kind_found x.shape f in
    let none = c.in-None-2.ensures x.pads q tag x.charge (kind_at x.shape) f.object found.shape in
    let some : extent q ≢ 0 = λ z. c.if-target-eq0.false (f.object.words ∙ z) in
    let placed = object_placed _ c.args.end _ x.segment x.start q tag (kind_at x.shape) found.shape some none in
    let near : kind c.word-word.result ≢ 2 = λ z. c.if-kind-eq2.false (c.kind.ensures ∙ z) in
    record {
      ends = (
        extent q,
        (x.pads, to_object x.segment (pos x.start) q, f.finds.leads, refl),
        omega (arith, c.from.ensures, c.from-in-None-2.ensures, placed, f.object.words),
      );
      same = object_same _ c.args.s c.args.w c.args.end _ c.word-word.ensures near x.pads x.segment x.start q tag (kind_at x.shape) found none;
      differs = tt;
      copied =
          object_in_copy _ c.args.s c.args.w c.args.end _ _ x.pads x.segment x.start q tag x.words x.charge x.shape c.word-word.ensures
          c.word-word.type_inv near f c.read_list.ensures none (omega (arith, c.from.ensures, c.from-in-None-2.ensures, placed));
      not_copied = tt;
    }
