use Rattle.cap_spec.proofs.Verdicts.OneVerdict.{denoted_not_wrong}
use Rattle.cap_canon.proofs.trimming.is_null_at.Goals as goal
use Rattle.cap_spec.proofs.Frames.Messages.{HasWord-inside, HasWord-segment}
use Rattle.cap_spec.proofs.Paths.Arrivals.{lead_word}
use Rattle.cap_spec.proofs.ProofNames.{List, length, ℕ, ◌<◌, segment_of, Denotes, Tree, rules}
use Rattle.cap_spec.proofs.Trees.OneTree.{formed}

-- A word that denotes a tree is there.
there : (m : List (List ℕ)) (s w : ℕ) (t : Tree) (c d : ℕ) → Denotes m s w t c d
    → (s < length m) × (w < length (segment_of m s))
there m s w t c d h =
    let f = formed m s w t c d h in
    let p = lead_word m s w f.k f.r f.leads in
    (HasWord-segment m s w p.0 p.1, HasWord-inside m s w p.0 p.1)

pub unreachable-requires : goal.unreachable-requires
unreachable-requires g c = search (rules, denoted_not_wrong)

pub word-word-requires-clause-exists : goal.word-word-requires-clause-exists
word-word-requires-clause-exists g c = let (t, x, d, h) = c.requires in (there _ _ _ t x d h).0

pub word-word-requires-clause-inside : goal.word-word-requires-clause-inside
word-word-requires-clause-inside g c = let (t, x, d, h) = c.requires in (there _ _ _ t x d h).1

pub follow-requires-clause-exists : goal.follow-requires-clause-exists
follow-requires-clause-exists g c = let (t, x, d, h) = c.requires in (there _ _ _ t x d h).0

pub follow-requires-clause-inside : goal.follow-requires-clause-inside
follow-requires-clause-inside g c = let (t, x, d, h) = c.requires in (there _ _ _ t x d h).1
