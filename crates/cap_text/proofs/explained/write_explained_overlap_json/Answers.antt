use Rattle.std.proofs.Common.{◌∙◌}
use Rattle.cap_text.proofs.explained.write_explained_overlap_json.Goals as goal

pub returns : goal.returns
returns g c = rw (c.text.ensures.lines ∙ c.refused_object.ensures) at c.write_bytes.ensures
