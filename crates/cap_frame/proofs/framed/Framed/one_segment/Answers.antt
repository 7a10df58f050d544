-- One segment is after a table of one word.
use Rattle.cap_spec.proofs.ProofNames.{take_rest}
use Rattle.cap_spec.proofs.ProofNames.{rules}
use Rattle.cap_frame.proofs.AfterTable.{one_reported, segments_are}
use Rattle.cap_frame.proofs.framed.Framed.one_segment.Goals as goal

pub returns-then-self-ne1-clause-one : goal.returns-then-self-ne1-clause-one
returns-then-self-ne1-clause-one c = search (rules, segments_are)

pub returns-clause-segments : goal.returns-clause-segments
returns-clause-segments c = search (rules, one_reported, take_rest)
