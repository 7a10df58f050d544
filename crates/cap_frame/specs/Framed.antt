-- What contracts see of a framed message at the start of borrowed bytes (profile).
use Rattle.std.specs.Prelude.{Err, IsOkAnd, IsSomeAnd, List, None, Ok, Option, Result, Some, [], drop, length, ℕ, ◌*◌}
use Rattle.std.specs.Prelude.{◌+◌, ◌<◌, ◌≡◌, ◌≤◌}
use Rattle.cap_spec.specs.SpecNames.{IsPartial, plain_is_cut, plain_words}
use Rattle.cap_frame.specs.Bytes.{cut}
use Rattle.cap_frame.specs.Fronts.{IsFront, GivesLarge, GivesMany, Needs, sizes_given, table_words}
use Rattle.cap_frame.specs.declared.fault.FrontFault.{FrontFault}
use Rattle.cap_frame.specs.declared.fault.FrontFault.TheVariants.{TooLarge, TooManySegments, Truncated}
use Rattle.cap_frame.specs.declared.framed.Framed.{Framed}
use Rattle.cap_frame.specs.declared.segment_tables.SegmentTables.{SegmentTables}

-- the size of each segment
abbrev pub framed_sizes : Framed → List ℕ
framed_sizes f = sizes_given f.count (plain_words f.bytes.now)

-- the words of each segment
abbrev pub framed_segments : Framed → List (List ℕ)
framed_segments f = cut (framed_sizes f) (drop (8 * table_words f.count) f.bytes.now)

-- how many bytes the frame has
abbrev pub frame_bytes : Framed → ℕ
frame_bytes f = 8 * (table_words f.count + f.words)

-- the sizes in the tables
abbrev pub sizes_held : SegmentTables → List ℕ
sizes_held tables = tables.sizes.items

-- what each result says about the bytes
abbrev pub ReportsFront : ℕ → List ℕ → Result (Option Framed) FrontFault → Type 0
ReportsFront limit bytes (Ok None) = bytes ≡ []
ReportsFront limit bytes (Ok (Some f)) = IsFront limit bytes (framed_segments f) (frame_bytes f)
ReportsFront limit bytes (Err (TooManySegments count)) = GivesMany bytes count
ReportsFront limit bytes (Err (TooLarge words)) = GivesLarge limit bytes words
ReportsFront limit bytes (Err (Truncated needed)) = IsPartial limit (plain_words bytes) (plain_is_cut bytes)
    × Needs (plain_words bytes) needed × (length bytes < needed) × (needed ≤ 8 * limit + 2056)

-- And the other way round: the bytes decide the result.
pub record DecidesFront (limit : ℕ) (bytes : List ℕ) (result : Result (Option Framed) FrontFault) : Type 0 where
  -- A prefix of them frames a message within the limit.
  pub whole : (m : List (List ℕ)) (n : ℕ) → IsFront limit bytes m n
      → IsOkAnd result (λ r. IsSomeAnd r (λ f. (framed_segments f ≡ m) × (frame_bytes f ≡ n)))
  -- There are none.
  pub empty : bytes ≡ [] → result ≡ Ok None
  -- The first word gives too many segments.
  pub many : (count : ℕ) → GivesMany bytes count → result ≡ Err (TooManySegments count)
  -- The table is whole and past the limit.
  pub large : (words : ℕ) → GivesLarge limit bytes words → result ≡ Err (TooLarge words)
  -- They end inside a message.
  pub cut_short : (needed : ℕ) → IsPartial limit (plain_words bytes) (plain_is_cut bytes)
      → Needs (plain_words bytes) needed → result ≡ Err (Truncated needed)
