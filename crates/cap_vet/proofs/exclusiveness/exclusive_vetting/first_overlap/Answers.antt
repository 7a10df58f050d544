use Rattle.cap_vet.proofs.MarkingWalk.{ends_marking}
use Rattle.cap_walk.proofs.OneReport.{not_both_within}
use Rattle.cap_vet.proofs.exclusiveness.exclusive_vetting.first_overlap.Goals as goal

pub returns-in-Ok : goal.returns-in-Ok
returns-in-Ok g c =
    let k = c.in-Ok.ensures.ok.1 in
    ends_marking _ k.0 c.in-Ok.firsts.overlap k.1 k.2.0

pub unreachable-requires : goal.unreachable-requires
unreachable-requires g c =
    not_both_within (g.M.Segments.segments c.args.message.now) 268435456 256 c.greatest.ensures.words c.greatest.ensures.depth
    c.requires.accepted.1 (rw c.in-Err-Refused.field-0-is at c.in-Err-Refused.ensures.err)
