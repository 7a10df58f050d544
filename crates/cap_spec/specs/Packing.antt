-- The one packed encoding that is written (profile).
use Rattle.std.specs.Prelude.{List, [], drop, filter, if◌then◌else◌, length, min, nat_le, not, suc, take, take_while}
use Rattle.std.specs.Prelude.{zero, ℕ, ◌*◌, ◌++◌, ◌+◌, ◌-◌, ◌==◌, ◌∷◌}
use Rattle.cap_spec.specs.Plain.{plain_text, word_bytes}

-- how many bytes are zero, and how many of a word's
abbrev pub zeros_in : List ℕ → ℕ
zeros_in [] = 0
zeros_in (b ∷ bytes) = (if b == 0 then 1 else 0) + zeros_in bytes

abbrev pub zero_bytes : ℕ → ℕ
zero_bytes x = zeros_in (word_bytes x)

-- how long the front of zero words is, and that of words with at most one zero byte
abbrev pub zero_run : List ℕ → ℕ
zero_run ws = length (take_while (λ x. x == 0) ws)

abbrev pub full_run : List ℕ → ℕ
full_run ws = length (take_while (λ x. nat_le (zero_bytes x) 1) ws)

-- a tag that marks the bytes that aren't zero
abbrev pub tag_of : List ℕ → ℕ
tag_of [] = 0
tag_of (b ∷ bytes) = (if b == 0 then 0 else 1) + 2 * tag_of bytes

-- how many words the group in front takes
abbrev pub group_size : List ℕ → ℕ
group_size [] = 0
group_size (w ∷ ws) =
    if w == 0 then min 256 (zero_run (w ∷ ws)) else
    (if zero_bytes w == 0 then (1 + min 255 (full_run ws)) else 1)

-- the group that encodes a word and n further words
abbrev pub group_text : ℕ → ℕ → List ℕ → List ℕ
group_text w n more =
    if w == 0 then 0 ∷ n ∷ [] else
    (if zero_bytes w == 0 then (255 ∷ (word_bytes w ++ n ∷ plain_text more)) else (tag_of (word_bytes w) ∷ filter (λ b. not (b == 0)) (word_bytes w)))

-- the text of at most as many groups as the number
abbrev pub pack_in : ℕ → List ℕ → List ℕ
pack_in zero ws = []
pack_in (suc n) [] = []
pack_in (suc n) (w ∷ ws) =
    group_text w (group_size (w ∷ ws) - 1) (take (group_size (w ∷ ws) - 1) ws) ++ pack_in n (drop (group_size (w ∷ ws) - 1) ws)

-- the packed text of words
abbrev pub pack_text : List ℕ → List ℕ
pack_text ws = pack_in (length ws) ws
