-- Enough for every copy, no copy, enough for this one, and a new buffer.
use Rattle.cap_spec.proofs.Bytes.Plain.{length_plain}
use Rattle.cap_spec.proofs.ProofNames.{Err, ap, arith, length, refl, sym, ℕ, ◌*◌, ◌∙◌, ◌≡◌, layout, trim, plain_text}
use Rattle.cap_canon.specs.CopyOvers.{enough, made, no_copy, refused}
use Rattle.cap_canon.proofs.Copies.{copy_charged, has_copy}
use Rattle.cap_canon.proofs.over.make_enough.Goals as goal

pub returns-then-fits_any-clause-makes : goal.returns-then-fits_any-clause-makes
returns-then-fits_any-clause-makes g c =
    let k = c.report.ensures.accepted in
    let words = layout (trim k.0) in
    let fits = c.fits_any.ensures.0 c.if-fits_any.true in
    let h = has_copy _ _ _ k.1 fits.0 in
    let few = copy_charged _ k.0 _ _ words k.1.within.denotes h in
    enough words h (omega (arith, few, length_plain words, fits.1, c.len.ensures)) refl refl

pub returns-in-Err-clause-makes : goal.returns-in-Err-clause-makes
returns-in-Err-clause-makes g c =
    let h = c.in-Err.ensures.err in
    no_copy h.0 h.1 h.3 (ap Err h.2) refl

pub returns-then-len-count-clause-makes : goal.returns-then-len-count-clause-makes
returns-then-len-count-clause-makes g c =
    let h = c.in-Ok.ensures.ok in
    let long : length (plain_text h.0) ≡ 8 * c.in-Ok.words = length_plain h.0 ∙ ap (λ (k : ℕ). 8 * k) (sym h.2) in
    enough h.0 h.1 (omega (arith, long, c.if-len-count.true, c.len-2.ensures)) refl refl

pub returns-in-Ok-replace_zeros-clause-makes : goal.returns-in-Ok-replace_zeros-clause-makes
returns-in-Ok-replace_zeros-clause-makes g c =
    let h = c.in-Ok.ensures.ok in
    let long : length (plain_text h.0) ≡ 8 * c.in-Ok.words = length_plain h.0 ∙ ap (λ (k : ℕ). 8 * k) (sym h.2) in
    made h.0 h.1 (omega (arith, long, c.if-len-count.false, c.len-2.ensures)) refl (c.in-Ok-replace_zeros.ensures.ok ∙ sym long)

pub returns-in-Err-replace_zeros-clause-makes : goal.returns-in-Err-replace_zeros-clause-makes
returns-in-Err-replace_zeros-clause-makes g c =
    let h = c.in-Ok.ensures.ok in
    let long : length (plain_text h.0) ≡ 8 * c.in-Ok.words = length_plain h.0 ∙ ap (λ (k : ℕ). 8 * k) (sym h.2) in
    refused h.0 h.1 (omega (arith, long, c.if-len-count.false, c.len-2.ensures)) refl c.in-Err-replace_zeros.ensures.err

pub returns-in-Ok-replace_zeros-clause-exact : goal.returns-in-Ok-replace_zeros-clause-exact
returns-in-Ok-replace_zeros-clause-exact g c = λ _. c.in-Ok-replace_zeros.ensures.exact ∙ sym c.in-Ok-replace_zeros.ensures.ok
