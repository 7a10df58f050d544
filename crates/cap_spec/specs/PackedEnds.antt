-- How far packed bytes are read at each word that they give (profile).
use Rattle.std.specs.Prelude.{List, [], drop, if◌then◌else◌, length, nat_lt, replicate, slice_index, suc, take, zero, ℕ}
use Rattle.std.specs.Prelude.{◌++◌, ◌+◌, ◌==◌, ◌∷◌}
use Rattle.cap_spec.specs.Plain.{capped}
use Rattle.cap_spec.specs.Unpacking.{IsGroup, given_of, group_length, marked, marks, plain, zeros}

-- the ends of n literal words, of which the first starts at byte `at`
abbrev pub word_ends : ℕ → ℕ → List ℕ
word_ends at zero = []
word_ends at (suc n) = capped (at + 8) ∷ word_ends (at + 8) n

-- The position after each word of a group that starts at byte `at`. It is the end of the group's
-- head, except for a word after the head of a run of literal words. For that it is the end of the
-- word.
abbrev pub group_ends : {bytes words : List ℕ} → ℕ → IsGroup bytes words → List ℕ
group_ends at (zeros n few text encoded) = replicate (1 + n) (capped (at + 2))
group_ends at (plain x more first all few text encoded) = capped (at + 10) ∷ word_ends (at + 10) (length more)
group_ends at (marked tag present some few all marks text encoded) = capped (at + (1 + length present)) ∷ []

-- the same of the group at the start of the bytes, by its head as far as it is there
abbrev pub front_ends : ℕ → List ℕ → List ℕ
front_ends at [] = []
front_ends at (tag ∷ bytes) =
    if tag == 0 then replicate (1 + slice_index bytes 0) (capped (at + 2)) else
    (if tag == 255 then (capped (at + 10) ∷ word_ends (at + 10) (slice_index bytes 8)) else (capped (at + (1 + marks 8 tag)) ∷ []))

-- the position after each word that bytes give, and last that of the whole input, in at most as
-- many groups as the first number
abbrev pub ends_in : ℕ → ℕ → List ℕ → List ℕ
ends_in zero at bytes = capped at ∷ []
ends_in (suc n) at bytes =
    if nat_lt (length bytes) (group_length bytes) then (take (length (given_of bytes)) (front_ends at bytes) ++ capped (at + length bytes) ∷ []) else
    (front_ends at bytes ++ ends_in n (at + group_length bytes) (drop (group_length bytes) bytes))

-- The position after each word that packed bytes give, when they start at byte `at`, and last that
-- of the whole input. A position stops at 2 ^ 64 - 1.
abbrev pub packed_ends : ℕ → List ℕ → List ℕ
packed_ends at bytes = ends_in (length bytes) at bytes
