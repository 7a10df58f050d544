-- The messages of a stream, read one after the other.
use Rattle.cap_spec.proofs.Bytes.Lists.{all_append}
use Rattle.cap_spec.proofs.Frames.Streams.{stream_append, stream_none, stream_one}
use Rattle.cap_spec.proofs.ProofNames.{Bool, List, OnSome, Option, Some, [], append-nil, false, refl, subst, sum, sym}
use Rattle.cap_spec.proofs.ProofNames.{ℕ, ◌++◌, ◌∷◌, ◌≡◌, ◌≤◌, Consumes, sizes_of, rules}
use Rattle.cap_words.specs.ByteIo.{Works}
use Rattle.cap_frame.specs.Reading.{TakesFrame}
use Rattle.cap_frame.proofs.Taking.{takes_both, takes_none}
use Rattle.cap_run.specs.Streams.{EndsStream, ReadsStream, ReadsToEnd}
use Rattle.cap_words.specs.declared.sources.WordSource as source

some_is : (xs ys : List ℕ) → ◌≡◌ {A = Option (List ℕ)} (Some xs) (Some ys) → xs ≡ ys
some_is xs ys e = cc

-- known words that were all taken
pub all_taken : (a b : Option (List ℕ)) (own : List ℕ) (c d : Bool) (P Q : Type 0) → Consumes a b own → OnSome a ((d ≡ c) × P)
    → OnSome b ((b ≡ Some []) × (d ≡ false) × Q) → OnSome a ((a ≡ Some own) × (c ≡ false))
all_taken h k own c d g a t s e = search (rules, some_is, append-nil)

module _ {S : Type 0} (g : source.Ghosts S) where
  -- nothing was read yet
  pub reads_none : (limit : ℕ) (s : S) → ReadsStream g limit s s []
  reads_none limit s = record { own = []; takes = takes_none g s; stream = stream_none; within = tt; broken = refl; failures = refl }

  -- one message was read
  pub reads_one : (limit : ℕ) (old new : S) (m : List (List ℕ)) → TakesFrame g limit old new m
      → Works (g.broken old) (g.broken new) (g.failures old) (g.failures new)
      → ReadsStream g limit old new (m ∷ [])
  reads_one limit old new m t w = search (rules, stream_one)

  -- it is one that a call named
  pub reads_named : (limit : ℕ) (old new : S) (held : List (List ℕ)) → (m : List (List ℕ)) × TakesFrame g limit old new m × (held ≡ m)
      → Works (g.broken old) (g.broken new) (g.failures old) (g.failures new) → ReadsStream g limit old new (held ∷ [])
  reads_named limit old new held t w = subst (λ m. ReadsStream g limit old new (m ∷ [])) (sym t.2) (reads_one limit old new t.0 t.1 w)

  -- some messages were read, and then others
  pub reads_both : (limit : ℕ) (old mid new : S) (ms ns : List (List (List ℕ))) → ReadsStream g limit old mid ms → ReadsStream g limit mid new ns
      → ReadsStream g limit old new (ms ++ ns)
  reads_both limit old mid new ms ns r s =
      search (rules, takes_both g old mid new r.own s.own r.takes s.takes, stream_append r.own s.own ms ns r.stream s.stream, all_append (λ m. sum (sizes_of m) ≤ limit) ms ns r.within s.within)

  -- the stream ended after these messages
  pub reads_all : (limit : ℕ) (old mid new : S) (ms : List (List (List ℕ))) → ReadsStream g limit old mid ms
      → EndsStream g mid new → ReadsToEnd g limit old new ms
  reads_all limit old mid new ms r e = search (rules, all_taken)
