use Rattle.cap_spec.proofs.ProofNames.{arith, length, rules, ◌≡◌, IsMessage}
use Rattle.cap_vet.proofs.Ranges.{one_start}
use Rattle.cap_vet.proofs.exclusiveness.exclusive_vetting.mark_message.Goals as goal

pub mark_all-requires-clause-fits : goal.mark_all-requires-clause-fits
mark_all-requires-clause-fits g c =
    let message : IsMessage (g.M.Segments.segments c.args.message.now) = search rules in
    let one : length (g.M.Segments.segments c.args.message.now) ≡ 1 = omega (arith, c.count.ensures, c.if-count-eq1.true) in
    record { known = one_start (g.M.Segments.segments c.args.message.now) message one; enough = c.requires.enough }
