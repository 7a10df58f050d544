-- The digits that were read are those of the number.
use Rattle.cap_spec.proofs.ProofNames.{rules}
use Rattle.std.proofs.Common.{arith, sym, ◌∙◌}
use Rattle.cap_path.specs.PathReading.{no_end}
use Rattle.cap_path.proofs.ReadSteps.{first_digit, next_digit}
use Rattle.cap_path.proofs.reading.number_at.Goals as goal

pub loop-end-init : goal.loop-end-init
loop-end-init c = search (rules, first_digit)

pub returns-in-None-2-clause-bad : goal.returns-in-None-2-clause-bad
returns-in-None-2-clause-bad c =
    no_end c.loop-end.number c.loop-end.invariant.0 (omega arith) c.loop-end.invariant.1 c.if-text-end-eq47.false
    (sym c.longer_number.ensures ∙ c.in-None.is)

pub loop-end-preserved : goal.loop-end-preserved
loop-end-preserved c = search (rules, next_digit)
