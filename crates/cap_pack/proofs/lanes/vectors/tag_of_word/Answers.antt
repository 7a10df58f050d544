use Rattle.cap_pack.proofs.Tags.{tag_by_lanes}
use Rattle.cap_pack.proofs.lanes.vectors.tag_of_word.Goals as goal

pub returns : goal.returns
returns c = tag_by_lanes c.args.word c.lanes_of_word.result c.lanes_of_word.ensures
