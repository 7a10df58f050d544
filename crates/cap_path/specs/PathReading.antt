-- What is read of a step of a path, and where the number of one is bad (profile).
use Rattle.std.specs.Prelude.{Bool, List, None, Option, Some, decimal, false, if◌then◌else◌, length, nat_le, nat_lt}
use Rattle.std.specs.Prelude.{slice_index, take, ℕ, ◌&&◌, ◌*◌, ◌++◌, ◌+◌, ◌-◌, ◌<◌, ◌==◌, ◌≡◌, ◌≢◌, ◌≤◌}
use Rattle.cap_spec.specs.PathTexts.{IsStep, step_text}
use Rattle.cap_spec.specs.declared.Step.{Step}

abbrev pub is_digit : ℕ → Bool
is_digit b = nat_le 48 b && nat_le b 57

-- n with one more digit, if n isn't 0 and the result is at most `most`
abbrev pub longer_number : ℕ → ℕ → ℕ → Option ℕ
longer_number n digit most = if n == 0 then None else
    (if nat_lt most (10 * n + digit) then None else Some (10 * n + digit))

-- n with this byte as one more digit
abbrev pub number_with : ℕ → ℕ → ℕ → Option ℕ
number_with n b most = if is_digit b then longer_number n (b - 48) most else None

-- this number is at a place of a text, and its digits end there, at the end of the text or before a slash
pub record IsNumberAt (text : List ℕ) (from most n end : ℕ) : Type 0 where
  pub few : n ≤ most
  pub some : from < end
  pub inside : end ≤ length text
  pub encodes : take end text ≡ take from text ++ decimal n
  pub ends : end < length text → slice_index text end ≡ 47

-- no such number is at a place of a text: none goes on with this byte of the text
pub data IsBadNumber (text : List ℕ) (from most at : ℕ) : Type 0 where
  -- it has no digit
  no_digit : at ≡ from → (at < length text → is_digit (slice_index text at) ≡ false) → IsBadNumber text from most at
  -- its digits don't go on, and don't end
  no_end : (n : ℕ) → n ≤ most → at < length text → take at text ≡ take from text ++ decimal n
      → slice_index text at ≢ 47 → number_with n (slice_index text at) most ≡ None → IsBadNumber text from most at

-- this step is at a slash of a text, and its text ends there, at the end of the text or before a slash
pub record IsStepAt (text : List ℕ) (slash : ℕ) (step : Step) (end : ℕ) : Type 0 where
  pub fits : IsStep step
  pub some : slash < end
  pub inside : end ≤ length text
  pub encodes : take end text ≡ take slash text ++ step_text step
  pub ends : end < length text → slice_index text end ≡ 47
