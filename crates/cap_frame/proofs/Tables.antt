-- Reading the table of segments word by word.
use Rattle.std.proofs.lemmas.Grind.{flat_map-append}
use Rattle.cap_spec.proofs.Lemmas.{all_append, length_halves}
use Rattle.cap_spec.proofs.ProofNames.{List, [], arith, flat_map, length, length-append, length-take, refl, take}
use Rattle.cap_spec.proofs.ProofNames.{take_all, ℕ, ◌%◌, ◌*◌, ◌++◌, ◌+◌, ◌/◌, ◌<◌, ◌^◌, ◌∷◌, ◌≡◌, AllByRecursion}
use Rattle.cap_spec.proofs.ProofNames.{halves, IsWord, rules}
use Rattle.cap_frame.specs.FrameNames.{SourceFault, IsUsable, ReadsInput, Stops, Takes}
use Rattle.cap_frame.proofs.Taking.{Took, took_more, took_stop}
use Rattle.cap_words.specs.declared.sources.WordSource as source

-- the numbers of a table: those of its further words, after the high half of its first
abbrev pub after : ℕ → List ℕ → List ℕ
after first more = first / 2 ^ 32 ∷ flat_map halves more

pub length_after : (first : ℕ) (more : List ℕ) → length (after first more) ≡ 1 + 2 * length more
length_after first more = omega (arith, length_halves more)

module _ {X : Type 0} (g : source.Ghosts X) where
  -- This many further words of a table were read, and these sizes found in them.
  pub record TableSoFar (first many : ℕ) (old now : X) (sizes : List ℕ) : Type 0 where
    pub more : List ℕ
    pub length_is : length more ≡ many
    pub took : Took g old now more
    pub fit : AllByRecursion IsWord more
    pub sizes_are : sizes ≡ take (first % 2 ^ 32 + 1) (after first more)

  -- one more word
  pub table_more : (first many : ℕ) (old now new : X) (sizes longer : List ℕ) (word : ℕ) → word < 2 ^ 64 → many < (first % 2 ^ 32 + 1) / 2
      → TableSoFar first many old now sizes → Takes g now new (word ∷ []) → ReadsInput g now new → IsUsable g now new
      → longer ≡ take (first % 2 ^ 32 + 1) (sizes ++ halves word) → TableSoFar first (many + 1) old new longer
  table_more first many old now new sizes longer word w h t takes reads usable e = search (
    rules,
    length-append t.more (word ∷ []),
    took_more g old now new t.more (word ∷ []) (t.more ++ word ∷ []) refl t.took takes reads usable,
    all_append IsWord t.more (word ∷ []) t.fit (w, tt),
    take_all (first % 2 ^ 32 + 1) (after first t.more) (omega (arith, length_after first t.more, t.length_is)),
    length_after first t.more,
    flat_map-append halves t.more (word ∷ []),
  )

  -- there is capacity for one more number at least
  pub table_capacity : (first many : ℕ) (old now : X) (sizes : List ℕ) → many < (first % 2 ^ 32 + 1) / 2 → TableSoFar first many old now sizes
      → length sizes < first % 2 ^ 32 + 1
  table_capacity first many old now sizes h t = search (rules, length_after first t.more, length-take (first % 2 ^ 32 + 1) (after first t.more))

  -- the source stopped
  pub table_stops : (first many : ℕ) (old now new : X) (sizes : List ℕ) (fault : SourceFault) → many < (first % 2 ^ 32 + 1) / 2
      → TableSoFar first many old now sizes → Stops g 1 now new fault → Stops g ((first % 2 ^ 32 + 1) / 2) old new fault
  table_stops first many old now new sizes fault h t s = search (rules, took_stop)
