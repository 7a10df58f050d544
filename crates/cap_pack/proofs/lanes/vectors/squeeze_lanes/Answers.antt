use Rattle.cap_spec.proofs.ProofNames.{refl, word_bytes}
use Rattle.cap_pack.proofs.Shuffles.{squeeze_by_places, squeeze_ok}
use Rattle.cap_pack.proofs.lanes.vectors.squeeze_lanes.Goals as goal

pub swizzle : goal.swizzle
swizzle c = squeeze_ok c.squeeze_places.result c.lanes_of-places.result c.args.tag c.squeeze_places.ensures c.lanes_of-places.ensures

pub returns : goal.returns
returns c =
    squeeze_by_places (word_bytes c.args.word) c.lanes_of_word.result c.squeeze_places.result c.lanes_of-places.result c.args.tag refl
    c.lanes_of_word.ensures c.requires c.squeeze_places.ensures c.lanes_of-places.ensures
