use Rattle.cap_spec.proofs.ProofNames.{pos, refl, ◌+ℤ◌, ◌+◌, signed_offset_of}
use Rattle.cap_ptr.proofs.Pads.{object-lead, wrong-before}
use Rattle.cap_ptr.proofs.following.object.Goals as goal

pub returns-in_default : goal.returns-in_default
returns-in_default g c = λ s w h.
    let m = g.M.Segments.segments c.args.message.now in
    let start = pos (c.args.place + 1) +ℤ signed_offset_of c.args.word in
    wrong-before m s w c.args.pads c.args.segment start c.args.word
    (object-lead m s w c.args.pads c.args.segment c.args.place c.args.word start h c.requires.object c.requires.not_null refl)
    c.requires.exists c.in_default.ensures.none

pub returns : goal.returns
returns g c = λ s w h.
    c.target_at.ensures s w
    (object-lead _ s w c.args.pads c.args.segment c.args.place c.args.word _ h c.requires.object c.requires.not_null c.in-Some.ensures.some)
