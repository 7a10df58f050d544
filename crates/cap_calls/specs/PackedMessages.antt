-- What the call that packs a message returns and writes, from the bytes and the buffer alone
-- (profile).
use Rattle.std.specs.Prelude.{List, length, sum, ℕ, ◌*◌, ◌+◌, ◌≡◌, ◌≤◌}
use Rattle.cap_spec.specs.SpecNames.{sizes_of, packed_frame}
use Rattle.cap_frame.specs.Fronts.{table_words}
use Rattle.cap_calls.specs.CallFindings.{Returns}
use Rattle.cap_calls.specs.CallReports.{none_report}
use Rattle.cap_calls.specs.Calls.{ReportsMessage}
use Rattle.cap_calls.specs.PackCalls.{ReportsText}
use Rattle.cap_calls.specs.declared.answer.Answer.{Answer}
use Rattle.cap_calls.specs.declared.found.Found.{Found}
use Rattle.cap_calls.specs.declared.limits.CallLimits.{CallLimits}
use Rattle.cap_calls.specs.declared.report.CallReport.{CallReport}

-- of a message, for a buffer that held `old`, and then holds `new`
abbrev pub Packs : List ℕ → List ℕ → List (List ℕ) → ℕ → ℕ → Found → Type 0
Packs old new m words depth f = ReportsText (packed_frame m) old f.answer f.count new × (f.report ≡ none_report)

-- the same, and the text has at most ten bytes for each word of the frame
abbrev pub PacksShort : List ℕ → List ℕ → List (List ℕ) → ℕ → ℕ → Found → Type 0
PacksShort old new m words depth f = Packs old new m words depth f
    × (f.count ≤ 10 * (table_words (length m) + sum (sizes_of m)))

-- Of the message that the bytes are, or by the form start with: n bytes are the length of
-- its packed text.
abbrev pub ReportsPackMessage : CallLimits → List ℕ → List ℕ → Answer → ℕ → List ℕ → CallReport → Type 0
ReportsPackMessage l bytes old a n new r =
    (f : Found) × ReportsMessage (new ≡ old) (Packs old new) l bytes f × Returns f a r × (n ≡ f.count)
