-- The places that the lanes of a shuffle take their bytes from. 128 is no place, and gives a zero (standard: Packing).
use Rattle.std.specs.Prelude.{List, [], if◌then◌else◌, replicate, suc, zero, ℕ, ◌%◌, ◌++◌, ◌+◌, ◌-◌, ◌/◌, ◌==◌, ◌∷◌}
use Rattle.cap_spec.specs.Unpacking.{marks}

-- for each of the lowest n bits of a tag, the next place from k on if the bit is set, else none
abbrev pub spread_from : ℕ → ℕ → ℕ → List ℕ
spread_from zero tag k = []
spread_from (suc n) tag k = (if tag % 2 == 0 then 128 else k) ∷ spread_from n (tag / 2) (k + tag % 2)

-- the places, counted from k on, of those of the lowest n bits that are set
abbrev pub marked_from : ℕ → ℕ → ℕ → List ℕ
marked_from zero tag k = []
marked_from (suc n) tag k = (if tag % 2 == 0 then [] else k ∷ []) ++ marked_from n (tag / 2) (k + 1)

-- for each byte of a word its place after the tag, or none if it is zero
abbrev pub spread_row : ℕ → List ℕ
spread_row tag = spread_from 8 tag 0

-- the places of the bytes of a word that its tag marks, and then none
abbrev pub squeeze_row : ℕ → List ℕ
squeeze_row tag = marked_from 8 tag 0 ++ replicate (8 - marks 8 tag) 128
