use Rattle.cap_spec.proofs.ProofNames.{arith, inl, inr, subst, ◌+◌, ◌-◌, ◌<◌, HasWord, rules}
use Rattle.cap_canon.proofs.WholeObjects.{isnt_null_word, row_short, row_whole}
use Rattle.cap_canon.proofs.wholeness.needs_row.Goals as goal

pub returns-clause-yes : goal.returns-clause-yes
returns-clause-yes g c = search (rules, row_whole, isnt_null_word)

pub returns-clause-no : goal.returns-clause-no
returns-clause-no g c = λ n.
    let m = g.M.Segments.segments c.args.message.now in
    let some : 0 < c.args.pointers = omega (arith, c.if-pointers-eq0.false) in
    elim (c.is_needed.ensures.no n) [
      | inl z ↦ inl (λ ts c' d h same.
          let zero = subst (λ x. HasWord m c.args.s (c.args.start + (c.args.pointers - 1)) x) z c.word.ensures in
          omega (arith, row_short m c.args.s c.args.start c.args.pointers ts c' d some zero h, same, some))
      | inr far ↦ inr (some, (c.word.result, c.word.ensures, far))
    ]
