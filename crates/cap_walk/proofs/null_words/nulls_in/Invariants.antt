use Rattle.std.proofs.Common.{length}
use Rattle.cap_walk.proofs.NullRows.{NullsBefore}
use Rattle.cap_walk.proofs.null_words.nulls_in.Given as goal

abbrev pub invariant-words : goal.invariant-words
invariant-words l = NullsBefore l.row l.rest

abbrev pub decreases-words : goal.decreases-words
decreases-words l = length l.rest
