use Rattle.cap_spec.proofs.ProofNames.{refl, subst, sym, ◌%◌, ◌*◌, ◌/◌, ◌^◌, ◌∙◌, ◌≡◌, ◌≢◌, IsTrue, ap, ne_eqb, not, ℕ}
use Rattle.cap_difference.specs.Reasons.{last_bits}
use Rattle.cap_spec.proofs.Lemmas.{one_word}
use Rattle.std.proofs.Common.{nat_eq}
use Rattle.cap_difference.proofs.lists.has_bits_after.Goals as goal

-- Whether a number isn't zero.
isnt_zero : (x : ℕ) → IsTrue (not (nat_eq x 0)) → x ≢ 0
isnt_zero x h z = let k = subst (λ u. IsTrue (not (nat_eq u 0))) z h in cc

zero_isnt : (x : ℕ) → x ≢ 0 → IsTrue (not (nat_eq x 0))
zero_isnt x n = ap not (ne_eqb x 0 n)

pub returns : goal.returns
returns g c =
    let m = g.M.Segments.segments c.args.message.now in
    let x = c.args.list in
    let bits : c.from.result * c.from-2.result % 64 ≡ last_bits x.code x.count = rw (c.from.ensures, c.element_bits.ensures.value, c.from-2.ensures) refl in
    let at = rw c.requires.words at c.word-last.ensures in (
      (λ yes. record {
        last = c.word-last.result;
        some = λ z. c.if-bits-eq0.false (bits ∙ z);
        has = at;
        set = subst (λ u. c.word-last.result / 2 ^ u ≢ 0) bits (isnt_zero _ yes);
      }),
      (λ h. zero_isnt _ (subst (λ u. c.word-last.result / 2 ^ u ≢ 0) (sym bits)
          (subst (λ u. u / 2 ^ last_bits x.code x.count ≢ 0) (one_word m x.segment _ h.last c.word-last.result h.has at) h.set))),
    )
