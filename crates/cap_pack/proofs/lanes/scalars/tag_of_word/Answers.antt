use Rattle.cap_pack.proofs.WordTags.{word_tag_by_bits}
use Rattle.cap_pack.proofs.lanes.scalars.tag_of_word.Goals as goal

pub returns : goal.returns
returns c = word_tag_by_bits c.args.word c.present_bits.result c.present_bits.ensures
