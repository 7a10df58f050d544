use Rattle.cap_spec.proofs.ProofNames.{ap, ◌*◌, ◌∙◌, take_rest, little_number}
use Rattle.cap_pack.proofs.GroupTexts.{word_placed}
use Rattle.cap_pack.proofs.buffers.word_at.Goals as goal

pub returns : goal.returns
returns c = c.read_u64.ensures ∙ ap (little_number 8) (take_rest c.args.bytes.now (8 * c.args.place)) ∙ word_placed c.args.bytes.now c.args.place c.requires
