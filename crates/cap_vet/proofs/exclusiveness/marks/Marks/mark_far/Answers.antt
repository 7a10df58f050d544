use Rattle.cap_spec.proofs.ProofNames.{arith, rules}
use Rattle.cap_spec.proofs.Frames.Messages.{HasWord-at}
use Rattle.cap_vet.proofs.Pointing.{marks_both, marks_first}
use Rattle.cap_vet.proofs.UsedPlaces.{used_leads}
use Rattle.cap_vet.proofs.exclusiveness.marks.Marks.mark_far.Goals as goal

pub mark_pads-requires-clause-leads : goal.mark_pads-requires-clause-leads
mark_pads-requires-clause-leads g c =
    let has = HasWord-at (g.M.Segments.segments c.args.message.now) c.args.s c.args.w (search rules) in
    used_leads (c.requires.object.used has.0 has.1)

pub mark_words-requires : goal.mark_words-requires
mark_words-requires g c =
    let has = HasWord-at (g.M.Segments.segments c.args.message.now) c.args.s c.args.w (omega (arith, c.requires.word.inside)) in
    search (rules, has)

pub returns-then-not-mark_pads : goal.returns-then-not-mark_pads
returns-then-not-mark_pads g c =
    let has = HasWord-at (g.M.Segments.segments c.args.message.now) c.args.s c.args.w (search rules) in
    marks_first _ (c.requires.object.used has.0 has.1) (rw c.if-not-mark_pads.true at (c.mark_pads.ensures has.0 has.1))

pub returns : goal.returns
returns g c =
    let has = HasWord-at (g.M.Segments.segments c.args.message.now) c.args.s c.args.w (search rules) in
    let pads = rw c.if-not-mark_pads.false at (c.mark_pads.ensures has.0 has.1) in
    marks_both (c.requires.object.used has.0 has.1) pads
    (c.mark_words.ensures _ (record { fits = pads.fits; exists = c.requires.object.exists; inside = c.requires.object.inside }))
