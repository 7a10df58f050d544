use Rattle.cap_pack.proofs.Shuffles.{ones_of_tag}
use Rattle.cap_pack.proofs.lanes.vectors.count_present.Goals as goal

pub returns-clause-count : goal.returns-clause-count
returns-clause-count c = ones_of_tag c.args.word c.tag_of_word.result c.tag_of_word.ensures
