-- Sizes with units, as options take them, in words of 8 bytes (profile).
use Rattle.std.specs.Prelude.{List, None, Option, Some, [], codes, if◌then◌else◌, min, option_map, ℕ, ◌*◌, ◌+◌, ◌-◌, ◌^◌, ◌∷◌}
use Rattle.std.specs.Char.{is_ascii_digit}
use Rattle.std.specs.Str.{bytes_eq}

-- a number, or 2^64 - 1 if it is more
abbrev pub capped_number : ℕ → ℕ
capped_number n = min n (2 ^ 64 - 1)

-- the decimal digits that a text begins with
abbrev pub digits_of : List ℕ → List ℕ
digits_of [] = []
digits_of (b ∷ text) = if is_ascii_digit b then b ∷ digits_of text else []

-- what comes after them
abbrev pub after_digits : List ℕ → List ℕ
after_digits [] = []
after_digits (b ∷ text) = if is_ascii_digit b then after_digits text else b ∷ text

-- the number of decimal digits that come after those of a number
abbrev pub number_after : ℕ → List ℕ → ℕ
number_after n [] = n
number_after n (d ∷ digits) = number_after (n * 10 + (d - 48)) digits

-- the words of a unit
abbrev pub unit_words : List ℕ → Option ℕ
unit_words unit = if bytes_eq unit (codes "kB") then Some 125 else
    (if bytes_eq unit (codes "MB") then Some 125000 else
    (if bytes_eq unit (codes "GB") then Some 125000000 else
    (if bytes_eq unit (codes "KiB") then Some 128 else
    (if bytes_eq unit (codes "MiB") then Some 131072 else
    (if bytes_eq unit (codes "GiB") then Some 134217728 else None)))))

-- the words of a size: a number and a unit
abbrev pub words_of_size : List ℕ → List ℕ → Option ℕ
words_of_size [] unit = None
words_of_size (d ∷ digits) unit = option_map (λ words. number_after 0 (d ∷ digits) * words) (unit_words unit)

abbrev pub size_words : List ℕ → Option ℕ
size_words text = words_of_size (digits_of text) (after_digits text)
