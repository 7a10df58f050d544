use Rattle.cap_spec.proofs.Bytes.Plain.{length_plain}
use Rattle.cap_spec.proofs.ProofNames.{ap, arith, length, ◌∙◌, ◌≡◌, plain_text, word_bytes}
use Rattle.cap_pack.proofs.Written.{take-plain}
use Rattle.cap_pack.proofs.encoding.encode_plain.Goals as goal

pub returns-clause-encoded : goal.returns-clause-encoded
returns-clause-encoded c =
    let first : c.copy_from_slice.new.self ≡ word_bytes c.args.first = c.copy_from_slice.ensures.after ∙ c.bytes_of.ensures.value in
    let rest : c.write_u64_into.new.dst ≡ plain_text c.args.more.now = c.write_u64_into.ensures in
    take-plain c.args.text.now (word_bytes c.args.first) _ (plain_text c.args.more.now) _ c.args.len _ _ (length c.args.more.now) _ (omega arith)
    (ap length first) (omega arith)
    (omega (arith, length_plain c.args.more.now)) first rest
