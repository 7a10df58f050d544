use Rattle.cap_difference.specs.ReadWords.{HasWords}
use Rattle.cap_difference.proofs.reading.read_each.Given as goal

abbrev pub invariant-words : goal.invariant-words
invariant-words g l = HasWords (g.M.Segments.segments l.message) l.segment l.start l.k
