-- Enough for every copy, a capability, too little capacity, and enough for this copy.
use Rattle.cap_spec.proofs.Bytes.Plain.{length_plain}
use Rattle.cap_spec.proofs.ProofNames.{Err, ap, arith, length, refl, sym, ℕ, ◌*◌, ◌∙◌, ◌≡◌, layout, trim, plain_text}
use Rattle.cap_canon.specs.CopyBuffers.{has_capability, too_small}
use Rattle.cap_canon.specs.declared.fault.BufferFault.TheVariants.{BufferTooSmall}
use Rattle.cap_canon.proofs.Buffers.{buffer_fault}
use Rattle.cap_canon.proofs.Copies.{copy_charged, has_copy}
use Rattle.cap_canon.proofs.buffer.check_buffer.Goals as goal

pub returns-then-fits_any-clause-ok : goal.returns-then-fits_any-clause-ok
returns-then-fits_any-clause-ok g c =
    let k = c.report.ensures.accepted in
    let fits = c.fits_any.ensures.0 c.if-fits_any.true in
    let words = layout (trim k.0) in
    let h = has_copy _ _ _ k.1 fits.0 in
    let few = copy_charged _ k.0 _ _ words k.1.within.denotes h in
    (words, h, omega (arith, few, fits.1))

pub returns-in-Err-HasCapability-clause-err : goal.returns-in-Err-HasCapability-clause-err
returns-in-Err-HasCapability-clause-err g c = λ old long.
    (let h = rw c.in-Err-HasCapability.field-0-is at c.in-Err-HasCapability.ensures.err in
    has_capability h.0 h.1 h.3 (ap (λ f. Err (buffer_fault f)) h.2) refl)

pub returns-then-len-needed-clause-err : goal.returns-then-len-needed-clause-err
returns-then-len-needed-clause-err g c = λ old same.
    (let h = c.in-Ok.ensures.ok in
    let long : length (plain_text h.0) ≡ 8 * c.in-Ok.words = length_plain h.0 ∙ ap (λ (k : ℕ). 8 * k) (sym h.2) in
    too_small h.0 h.1 (omega (arith, long, same, c.if-len-needed.true)) (ap (λ (k : ℕ). Err (BufferTooSmall k)) (sym long)) refl)
