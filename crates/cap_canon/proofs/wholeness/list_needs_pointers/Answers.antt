use Rattle.cap_spec.proofs.ProofNames.{ap, arith, inl, inr, subst, ◌*◌, ◌+◌, ◌-◌, ◌<◌, ◌≡◌, HasWord, kind}
use Rattle.cap_canon.proofs.WholeObjects.{elements_empty, elements_short, elements_whole, isnt_null_word}
use Rattle.cap_canon.proofs.wholeness.list_needs_pointers.Goals as goal

pub returns-then-pointers-eq0-clause-yes : goal.returns-then-pointers-eq0-clause-yes
returns-then-pointers-eq0-clause-yes g c = λ _ es c' d h. elements_empty (g.M.Segments.segments c.args.message.now) c.args.s c.args.start _ _ es c' d c.if-pointers-eq0.true h

pub returns-clause-yes : goal.returns-clause-yes
returns-clause-yes g c = λ y es c' d h.
    let a = c.args in
    let m = g.M.Segments.segments a.message.now in
    let some : 0 < a.pointers = omega (arith, c.if-pointers-eq0.false) in
    let needed = c.is_needed.ensures.yes y in
    let (k, lt, has, before) = c.first_set.ensures.some needed.0 in
    let e : a.start + (a.data_words + (a.pointers - 1)) + k * (a.data_words + a.pointers) ≡ a.start + k *
    (a.data_words + a.pointers) + a.data_words + (a.pointers - 1) = omega arith in
    let at = subst (λ i. HasWord m a.s i c.first_set.result) e has in
    elements_whole m a.s a.start _ _ _ k es c' d some lt (λ u c'' d' x. isnt_null_word m a.s _ _ u c'' d' at needed.0 needed.1 x) h

pub returns-clause-no : goal.returns-clause-no
returns-clause-no g c = λ n.
    let a = c.args in
    let some : 0 < a.pointers = omega (arith, c.if-pointers-eq0.false) in
    elim (c.is_needed.ensures.no n) [
      | inl z ↦ inl (λ es c' d h same.
          let zeros = c.first_set.ensures.none z in
          omega (arith, elements_short _ a.s a.start _ _ _ es c' d some zeros h, same, some))
      | inr far ↦
          let set = c.first_set.ensures.some (λ z. (let e : kind c.first_set.result ≡ kind 0 = ap kind z in omega (arith, e, far))) in
          inr (some, set.0, set.1, (c.first_set.result, set.2, far))
    ]
