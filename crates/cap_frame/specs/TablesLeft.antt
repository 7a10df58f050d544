-- What is known of the table of a message that isn't read (profile).
use Rattle.std.specs.Prelude.{IfSome, List, None, Option, Some, [], length, sum, ℕ, ◌%◌, ◌*◌, ◌++◌, ◌+◌, ◌/◌, ◌<◌, ◌^◌, ◌∷◌, ◌≡◌, ◌⊎◌}
use Rattle.cap_spec.specs.Frames.{IsTable}
use Rattle.cap_frame.specs.Fronts.{table_words}
use Rattle.cap_frame.specs.declared.fault.FrameFault.{FrameFault}
use Rattle.cap_frame.specs.declared.fault.FrameFault.TheVariants.{Device, Memory, Spent, TooLarge, TooManySegments}
use Rattle.cap_frame.specs.declared.fault.FrameFault.TheVariants.{Truncated}
use Rattle.cap_frame.specs.declared.table.TableSums.{TableSums}

-- There is no word, or the words end inside a table, of n div 2 + 1 words.
abbrev pub LacksTable : List ℕ → Type 0
LacksTable words = (words ≡ []) ⊎ ((first : ℕ) × (rest : List ℕ) × (words ≡ first ∷ rest)
    × (length rest < (first % 2 ^ 32 + 1) / 2))

-- The words begin with a table of these sizes.
abbrev pub BeginsTable : List ℕ → List ℕ → Type 0
BeginsTable words sizes = (table : List ℕ) × (rest : List ℕ) × (words ≡ table ++ rest) × IsTable table sizes

-- the sizes of the table, or no sizes where it isn't whole
abbrev pub HasSizes : List ℕ → List ℕ → Type 0
HasSizes words [] = LacksTable words
HasSizes words (size ∷ sizes) = BeginsTable words (size ∷ sizes)

-- what is kept of sizes: how many they are, their sum, and the bytes of the table and of the words
abbrev pub sums_of : List ℕ → Option TableSums
sums_of [] = None
sums_of (size ∷ sizes) = Some (record {
  segments = length (size ∷ sizes);
  words = sum (size ∷ sizes);
  bytes = 8 * (table_words (length (size ∷ sizes)) + sum (size ∷ sizes));
})

-- What is kept of the table at the start of these words, if it is whole.
abbrev pub KeepsTable : List ℕ → Option TableSums → Type 0
KeepsTable words table = (sizes : List ℕ) × HasSizes words sizes × (table ≡ sums_of sizes)

-- What is kept of the table after a fault, by the words where they are known.
abbrev pub LeavesTable : FrameFault → Option (List ℕ) → Option TableSums → Type 0
LeavesTable (TooManySegments count) words table = table ≡ None
LeavesTable (TooLarge n) words table = IfSome words (λ ws. KeepsTable ws table)
LeavesTable (Truncated byte) words table = IfSome words (λ ws. KeepsTable ws table)
LeavesTable Device words table = table ≡ None
LeavesTable Memory words table = table ≡ None
LeavesTable Spent words table = table ≡ None
