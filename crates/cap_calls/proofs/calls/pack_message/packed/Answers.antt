-- The lengths of the texts fit.
use Rattle.cap_spec.proofs.ProofNames.{ap, arith, rules, sum, ◌+◌, ◌<◌, ◌^◌, ◌≡◌, sizes_of}
use Rattle.cap_frame.specs.Bytes.{cut}
use Rattle.cap_frame.proofs.InOneBuffer.{held_sizes}
use Rattle.cap_calls.proofs.calls.pack_message.packed.Goals as goal

pub overflow_add-count : goal.overflow_add-count
overflow_add-count c =
    let v = c.args.message.now in
    let few : sum (sizes_of (cut v.sizes.now v.bytes.now)) ≡ sum v.sizes.now = ap sum (held_sizes v.sizes.now v.bytes.now v.inside) in
    let fits : c.pack_into.result + c.segments_length.result < 2 ^ 64 =
    omega (arith, c.pack_into.ensures.few, c.requires.short, c.segments_length.ensures.few, few, v.small) in
    search rules
