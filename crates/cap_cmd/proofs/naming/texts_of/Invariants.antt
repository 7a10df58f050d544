-- The names so far are copies of the texts so far.
use Rattle.std.proofs.Common.{map, string_bytes, take, ◌≡◌}
use Rattle.cap_cmd.proofs.naming.texts_of.Given as goal

abbrev pub invariant-loop-text : goal.invariant-loop-text
invariant-loop-text l = map string_bytes l.names.items ≡ map (λ s. s.now) (take l.text-index l.texts)
