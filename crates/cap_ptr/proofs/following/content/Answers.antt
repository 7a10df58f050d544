use Rattle.cap_spec.proofs.ProofNames.{arith, sym, ◌∙◌, IsOnePad, rules}
use Rattle.cap_ptr.proofs.Pads.{content-lead, content-not_far, content-tag_kind, content-tag_offset}
use Rattle.cap_ptr.proofs.following.content.Goals as goal

pub returns-then-not-is_one_pad : goal.returns-then-not-is_one_pad
returns-then-not-is_one_pad g c = search (rules, content-not_far)

pub returns-then-kind-gt1 : goal.returns-then-kind-gt1
returns-then-kind-gt1 g c = search (rules, content-tag_kind)

pub returns-then-middle-ne0 : goal.returns-then-middle-ne0
returns-then-middle-ne0 g c = search (rules, content-tag_offset)

pub returns : goal.returns
returns g c = λ s w p h.
    let one : IsOnePad c.args.far = c.is_one_pad.ensures.0 c.if-not-is_one_pad.false in
    c.target_at.ensures s w
    (content-lead _ s w p c.args.far c.args.tag h c.far_segment-segment.result c.from.result c.far_segment-segment.ensures
    (c.from.ensures ∙ c.pad.ensures) one (omega (arith, c.kind.ensures)) (sym c.middle.ensures ∙ c.if-middle-ne0.false))
