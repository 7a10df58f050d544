-- The tables that were filled cut what is after the table in front.
use Rattle.cap_spec.proofs.ProofNames.{take_rest}
use Rattle.cap_spec.proofs.ProofNames.{rules}
use Rattle.cap_frame.proofs.AfterTable.{enough}
use Rattle.cap_frame.proofs.framed.Framed.view.Goals as goal

pub over-requires-clause-inside : goal.over-requires-clause-inside
over-requires-clause-inside c = search (rules, take_rest, enough)
