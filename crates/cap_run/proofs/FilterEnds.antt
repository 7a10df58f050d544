-- How a filter ended that refused no message.
use Rattle.std.proofs.Common.{Bool, List, [], ap, arith, refl, ℕ, ◌++◌, ◌∙◌, ◌∷◌, ◌≡◌, rules}
use Rattle.cap_run.specs.RunNames.{ReadsUntil, ReadsToEnd, Reported, messages_of, one_refused, refused_in, Counted}
use Rattle.cap_run.specs.declared.engines.stream.Counted.TheVariants.{Refused}
use Rattle.cap_words.specs.declared.sources.WordSource as source

-- a refused message counts as one
one_counts : one_refused Refused ≡ 1
one_counts = refl

-- also after others
last_counts : (front : List Reported) (t : Reported) → t.counted ≡ Refused → refused_in (front ++ t ∷ []) ≡ 0 → ⊥
last_counts [] t same e = grind (arith, ap (λ (c : Counted). one_refused c) same ∙ one_counts, e)
last_counts (a ∷ front) t same e = last_counts front t same (grind (arith, e))

-- with no message refused, the stream was read to its end
pub reads_whole : {S : Type 0} (gs : source.Ghosts S) (limit : ℕ) (old new : S) (stop : Bool) (ts : List Reported)
    → refused_in ts ≡ 0 → ReadsUntil gs stop limit old new ts → ReadsToEnd gs limit old new (messages_of ts)
reads_whole gs limit old new stop ts e h = search (rules, last_counts)
