use Rattle.cap_pack.proofs.Shuffles.{gathered, ones_of_tag}
use Rattle.cap_pack.proofs.lanes.gather.Goals as goal

pub returns-clause-count : goal.returns-clause-count
returns-clause-count c = ones_of_tag c.args.word c.tag_of_word-tag.result c.tag_of_word-tag.ensures

pub returns-clause-bytes : goal.returns-clause-bytes
returns-clause-bytes c = gathered c.args.word c.tag_of_word-tag.result c.squeezed.result c.tag_of_word-tag.ensures c.squeezed.ensures
