use Rattle.cap_spec.proofs.Disjoint.Places.{no_pads, pads_inside}
use Rattle.cap_spec.proofs.Frames.Messages.{one_word}
use Rattle.cap_spec.proofs.ProofNames.{List, [], ap, arith, inl, inr, length, refl, subst, sym, ℕ, ◌+◌, ◌<◌, ◌==◌}
use Rattle.cap_spec.proofs.ProofNames.{◌∙◌, ◌≡◌, segment_of, pads_of, far_segment, kind, pad, two, rules}
use Rattle.cap_ptr.specs.declared.forms.Pointer.TheVariants.{Far}
use Rattle.cap_vet.specs.MarkSteps.{HasBits, MarksPlaces}
use Rattle.cap_vet.proofs.Pads.{many_pads, pad_places}
use Rattle.cap_vet.proofs.Pointing.{marks_none}
use Rattle.cap_vet.proofs.exclusiveness.marks.Marks.mark_pads.Goals.{else-two, then-two}
use Rattle.cap_vet.proofs.exclusiveness.marks.Marks.mark_pads.Goals as goal

pub mark_words-requires : goal.mark_words-requires
mark_words-requires g c =
    let m = g.M.Segments.segments c.args.message.now in
    let f = c.in-Far.ensures.form in
    let r = pads_inside m c.args.s c.args.w _ c.word.result _ c.requires.leads.2 c.word.ensures f.0 in
    let n : c.if-two.pads ≡ 1 + two c.word.result = many_pads c.word.result c.if-two.pads c.in-Far.two f.1
    (elim c.if-two.branch [ then-two w ↦ inl (w.if-two.true, w.pads-is) | else-two w ↦ inr (w.if-two.false, w.pads-is) ]) in
    let e : length (segment_of m c.in-Far.segment) ≡ length (segment_of m (far_segment c.word.result)) = ap (λ (u : ℕ). length (segment_of m u)) f.3 in
    let there : c.in-Far.segment < length m = subst (λ (u : ℕ). u < length m) (sym f.3) r.0 in
    (m, record { fits = c.requires.word.fits; exists = there; inside = omega (arith, r.1, f.2, n, e) })

pub returns-after-two : goal.returns-after-two
returns-after-two g c = λ p has.
    let m = g.M.Segments.segments c.args.message.now in
    let f = c.in-Far.ensures.form in
    let r = pads_inside m c.args.s c.args.w _ c.word.result _ c.requires.leads.2 c.word.ensures f.0 in
    let n : c.if-two.pads ≡ 1 + two c.word.result = many_pads c.word.result c.if-two.pads c.in-Far.two f.1
    (elim c.if-two.branch [ then-two w ↦ inl (w.if-two.true, w.pads-is) | else-two w ↦ inr (w.if-two.false, w.pads-is) ]) in
    let e : length (segment_of m c.in-Far.segment) ≡ length (segment_of m (far_segment c.word.result)) = ap (λ (u : ℕ). length (segment_of m u)) f.3 in
    let there : c.in-Far.segment < length m = subst (λ (u : ℕ). u < length m) (sym f.3) r.0 in
    let bits : HasBits m c.args.self.now c.in-Far.segment c.in-Far.pad c.if-two.pads =
    record { fits = c.requires.word.fits; exists = there; inside = omega (arith, r.1, f.2, n, e) } in
    subst (λ (u : List (ℕ × ℕ)). MarksPlaces m c.args.self.now c.mark_words.new.self u c.mark_words.result)
    (pad_places c.word.result c.in-Far.segment c.in-Far.pad c.if-two.pads f.0 f.3 f.2 n ∙ ap pads_of
    (one_word m c.args.s c.args.w c.word.result p c.word.ensures has)) (c.mark_words.ensures m bits)

pub returns-in_default : goal.returns-in_default
returns-in_default g c = λ p has.
    let m = g.M.Segments.segments c.args.message.now in
    let e = one_word m c.args.s c.args.w p c.word.result has c.word.ensures in
    let none : pads_of p ≡ [] = no_pads p (λ far. let own : kind c.word.result ≡ 2 = ap kind (sym e) ∙ far in
    c.in_default.not-Far (two c.word.result == 1) (pad c.word.result) (far_segment c.word.result)
    (sym (c.of.ensures.one_form (Far (two c.word.result == 1) (pad c.word.result) (far_segment c.word.result)) (own, refl, refl, refl)))) in record {
      fits = c.requires.word.fits;
      taken = search (rules, marks_none);
      conflict = λ e. absurd (cc e);
    }
