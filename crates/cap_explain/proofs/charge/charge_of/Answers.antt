use Rattle.cap_walk.specs.Limits.{depth_of, words_of}
use Rattle.cap_explain.proofs.Charges.{no_charge}
use Rattle.cap_explain.proofs.charge.charge_of.Goals as goal

pub returns-in_default : goal.returns-in_default
returns-in_default g c = λ h. (
  tt,
  no_charge (g.M.Segments.segments c.args.message.now) (words_of c.args.limits) (depth_of c.args.limits) c.args.refusal.now h
      c.in_default.not-WordLimit,
)
