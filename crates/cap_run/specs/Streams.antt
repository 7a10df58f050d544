-- What reading the messages of a stream says of its source before and after (profile). g has the
-- members of the source's type.
use Rattle.std.specs.List.{AllByRecursion}
use Rattle.std.specs.Prelude.{List, OnSome, Some, [], false, sum, true, ℕ, ◌∷◌, ◌≡◌, ◌≤◌}
use Rattle.cap_spec.specs.Frames.{Stream, sizes_of}
use Rattle.cap_words.specs.ByteIo.{Works}
use Rattle.cap_frame.specs.Taking.{Takes}
use Rattle.cap_words.specs.declared.sources.WordSource as source

module _ {S : Type 0} (g : source.Ghosts S) where
  -- Words were taken that are frames of these messages, one after the other and each within the
  -- limit, and no more.
  pub record ReadsStream (limit : ℕ) (old new : S) (ms : List (List (List ℕ))) : Type 0 where
    pub own : List ℕ
    pub takes : Takes g old new own
    pub stream : Stream own ms
    pub within : AllByRecursion (λ m. sum (sizes_of m) ≤ limit) ms
    pub broken : g.broken new ≡ g.broken old
    pub failures : g.failures new ≡ g.failures old

  -- There were no more words, and the input ended between words, at this place.
  pub record EndsStream (old new : S) : Type 0 where
    pub none : OnSome (g.words old) ((g.words old ≡ Some []) × (g.is_cut old ≡ false)
        × (g.places old ≡ g.place new ∷ []))
    pub ended : g.ended new ≡ true
    pub works : Works (g.broken old) (g.broken new) (g.failures old) (g.failures new)

  -- All words of the source are frames of these messages, each within the limit. They were read,
  -- and the source ended.
  pub record ReadsToEnd (limit : ℕ) (old new : S) (ms : List (List (List ℕ))) : Type 0 where
    pub own : List ℕ
    pub all : OnSome (g.words old) ((g.words old ≡ Some own) × (g.is_cut old ≡ false))
    pub stream : Stream own ms
    pub within : AllByRecursion (λ m. sum (sizes_of m) ≤ limit) ms
    pub ended : g.ended new ≡ true
    pub works : Works (g.broken old) (g.broken new) (g.failures old) (g.failures new)
