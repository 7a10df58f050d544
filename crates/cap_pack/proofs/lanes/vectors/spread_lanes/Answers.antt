use Rattle.cap_pack.proofs.Shuffles.{spread_by_places, spread_ok}
use Rattle.cap_pack.proofs.lanes.vectors.spread_lanes.Goals as goal

pub swizzle : goal.swizzle
swizzle c = spread_ok c.spread_places.result c.lanes_of.result c.args.tag c.spread_places.ensures c.lanes_of.ensures

pub returns : goal.returns
returns c = spread_by_places c.args.bytes c.spread_places.result c.lanes_of.result c.args.tag c.spread_places.ensures c.lanes_of.ensures
