use Rattle.std.proofs.Common.{All, length, map, take, ◌<◌, ◌^◌}
use Rattle.cap_frame.proofs.message.WordMessage.new.Given as goal

abbrev pub invariant-loop-words : goal.invariant-loop-words
invariant-loop-words l = All (λ segment. length segment < 2 ^ 32) (take l.words-index (map (λ v. v.items) l.words-items))
