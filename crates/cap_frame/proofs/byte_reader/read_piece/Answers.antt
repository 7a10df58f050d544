-- The words of a piece are after those that were read before.
use Rattle.cap_spec.proofs.ProofNames.{rules}
use Rattle.cap_frame.proofs.InOneBuffer.{piece_in}
use Rattle.cap_frame.proofs.byte_reader.read_piece.Goals as goal

pub returns-in-Ok-true-clause-ok : goal.returns-in-Ok-true-clause-ok
returns-in-Ok-true-clause-ok g c = search (rules, piece_in)
