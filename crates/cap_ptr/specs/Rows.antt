-- What a pointer word alone says about its object (standard: Structs, Lists).
use Rattle.std.specs.Prelude.{List, ℕ, ◌+◌, ◌<◌, ◌^◌, ◌≡◌, ◌≤◌, ◌⊎◌}
use Rattle.cap_spec.specs.SpecNames.{Finds, code, extent, kind, list_size, pointer_size}
use Rattle.cap_ptr.specs.declared.near.Row.{Row}

-- the word q describes an object that has no tag and is charged its words alone; it has n pointers
abbrev pub HasPointers : ℕ → ℕ → Type 0
HasPointers q n =
    ((kind q ≡ 0) × (n ≡ pointer_size q))
    ⊎ (((kind q ≡ 1) × (code q ≡ 6) × (n ≡ list_size q))
    ⊎ ((kind q ≡ 1) × (0 < code q) × (code q < 6) × (n ≡ 0)))

-- The word q at s:w leads to an object in its segment, which has these words, the pointers last.
pub record FindsRow (m : List (List ℕ)) (s w q : ℕ) (r : Row) : Type 0 where
  pub finds : Finds m s w 0 s r.start q
  pub words : r.words ≡ extent q
  pub few : r.words ≤ 2 ^ 29
  pub pointers : HasPointers q r.pointer_count
  pub pointers_last : r.pointers_start + r.pointer_count ≡ r.start + r.words
