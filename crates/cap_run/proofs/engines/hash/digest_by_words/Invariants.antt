-- The hasher has taken the bytes of the words so far.
use Rattle.std.proofs.Common.{take}
use Rattle.sha2.specs.Hashers.{Holds256}
use Rattle.cap_spec.specs.Messages.{segment_of}
use Rattle.cap_spec.specs.Plain.{plain_text}
use Rattle.cap_run.proofs.engines.hash.digest_by_words.Given as goal

abbrev pub invariant-words : goal.invariant-words
invariant-words g l = Holds256 l.hasher (plain_text (take l.at (segment_of (g.M.Segments.segments l.message) 0)))
