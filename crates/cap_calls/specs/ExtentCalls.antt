-- What the call for the segments of a frame returns and writes, from the bytes and the capacity alone
-- (profile; standard: Serialization Over a Stream).
use Rattle.std.specs.Prelude.{List, length, slice_index_or, slice_range, ℕ, ◌*◌, ◌+◌, ◌<◌, ◌≡◌, ◌≤◌}
use Rattle.cap_spec.specs.SpecNames.{segment_of, plain_words}
use Rattle.cap_frame.specs.Fronts.{IsFront}
use Rattle.cap_calls.specs.CallFindings.{ReportsCall, Returns}
use Rattle.cap_calls.specs.CallNodes.{offset_of}
use Rattle.cap_calls.specs.CallReports.{none_report}
use Rattle.cap_calls.specs.declared.answer.Answer.{Answer}
use Rattle.cap_calls.specs.declared.answer.Answer.TheVariants.{BufferTooSmall, Good}
use Rattle.cap_calls.specs.declared.extent.CallExtent.{CallExtent}
use Rattle.cap_calls.specs.declared.found.Found.{Found}
use Rattle.cap_calls.specs.declared.limits.CallLimits.{CallLimits}
use Rattle.cap_calls.specs.declared.report.CallReport.{CallReport}

-- the value in place of an element that a buffer doesn't have
abbrev pub no_extent : CallExtent
no_extent = record { offset = 0; length = 0 }

-- where segment s of a message is in its frame, in bytes
abbrev pub extent_of : List (List ℕ) → ℕ → CallExtent
extent_of m s = record { offset = offset_of m s 0; length = 8 * length (segment_of m s) }

-- of a message of n segments, apart from its frame
abbrev pub extents_found : Answer → ℕ → Found
extents_found a n = record { answer = a; count = n; report = none_report }

-- The first elements are those of the first `count` segments, and the others are as they were.
pub record HasExtents (m : List (List ℕ)) (count : ℕ) (old new : List CallExtent) : Type 0 where
  pub size : length new ≡ length old
  pub each : (s : ℕ) → s < count → slice_index_or new s no_extent ≡ extent_of m s
  pub rest : (s : ℕ) → count ≤ s → slice_index_or new s no_extent ≡ slice_index_or old s no_extent

-- Of a message, for a buffer that held `old`, and then holds `new`: where each of its segments is, if the buffer has the
-- capacity.
pub data FindsExtents (old new : List CallExtent) (m : List (List ℕ)) (f : Found) : Type 0 where
  too_small : length old < length m → f ≡ extents_found BufferTooSmall (length m) → new ≡ old
      → FindsExtents old new m f
  written : length m ≤ length old → f ≡ extents_found Good (length m) → HasExtents m (length m) old new
      → FindsExtents old new m f

-- Of the frame that the bytes start with.
abbrev pub ReportsExtents : CallLimits → List ℕ → List CallExtent → Answer → ℕ → List CallExtent → CallReport → Type 0
ReportsExtents l bytes old a n new r =
    (f : Found) × ReportsCall (new ≡ old) (λ m words depth g. FindsExtents old new m g) l bytes f × Returns f a r
    × (n ≡ f.count)

-- The words of each segment of the message that the bytes start with are the bytes at its extent.
abbrev pub AreSegmentWords : ℕ → List ℕ → List CallExtent → Type 0
AreSegmentWords limit bytes extents = (m : List (List ℕ)) (n s : ℕ) → IsFront limit bytes m n → s < length m
    → (let e = slice_index_or extents s no_extent in
    plain_words (slice_range bytes e.offset (e.offset + e.length)) ≡ segment_of m s)
