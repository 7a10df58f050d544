-- The table that was written is that of the message.
use Rattle.cap_spec.proofs.Bytes.Plain.{length_plain}
use Rattle.cap_spec.proofs.ProofNames.{ap, arith, length, take, ℕ, ◌*◌, ◌+◌, ◌/◌, ◌∙◌, ◌≡◌, table_of}
use Rattle.cap_frame.specs.Bytes.{cut}
use Rattle.cap_calls.proofs.PackedFrames.{table_size}
use Rattle.cap_calls.proofs.calls.pack_message.PackingCall.on.Goals as goal

pub returns : goal.returns
returns c =
    let v = c.args.view.now in
    let m = cut v.sizes.now v.bytes.now in
    let n = c.table_into-length.result in
    let long : length (take n c.table_into-length.new.table) ≡ 8 * (length m / 2 + 1) =
    ap length c.table_into-length.ensures.bytes ∙ (length_plain (table_of m) ∙ ap (λ (k : ℕ). 8 * k) (table_size m)) in
    (c.packed.ensures.reports c.args._words c.args._limits.depth, omega (arith, c.packed.ensures.few, long))
