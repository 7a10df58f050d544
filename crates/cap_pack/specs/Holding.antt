-- The open group of a packer: its words so far, and the bytes that encode them (profile).
use Rattle.std.specs.Prelude.{List, [], length, replicate, take, ℕ, ⊤, ◌++◌, ◌∷◌, ◌≡◌, ◌⊎◌}
use Rattle.cap_spec.specs.Packing.{full_run, pack_text, zero_bytes, zero_run}
use Rattle.cap_spec.specs.Plain.{plain_text, word_bytes}
use Rattle.cap_pack.specs.declared.group.Group.{Group}
use Rattle.cap_pack.specs.declared.group.Group.TheVariants.{Empty, Plain, Zeros}

-- the words of the group
abbrev pub held : Group → List ℕ → List ℕ
held Empty words = []
held (Zeros more) words = 0 ∷ replicate more 0
held (Plain first more) words = first ∷ take more words

-- how many zero bytes the word has that a run of words as they are begins with
abbrev pub first_zeros : Group → ℕ
first_zeros Empty = 0
first_zeros (Zeros more) = 0
first_zeros (Plain first more) = zero_bytes first

-- the bytes of the group, as far as it goes
abbrev pub group_bytes : Group → List ℕ → List ℕ
group_bytes Empty words = []
group_bytes (Zeros more) words = 0 ∷ more ∷ []
group_bytes (Plain first more) words = 255 ∷ (word_bytes first ++ length (take more words) ∷ plain_text (take more words))

-- words that one open group holds: none, zero words, or a word without a zero byte and words with at most one
abbrev pub IsRun : List ℕ → Type 0
IsRun [] = ⊤
IsRun (w ∷ ws) = ((w ≡ 0) × (zero_run ws ≡ length ws)) ⊎ ((zero_bytes w ≡ 0) × (full_run ws ≡ length ws))

-- whatever follows these words, this text encodes them but for those that are left
abbrev pub Encodes : List ℕ → List ℕ → List ℕ → Type 0
Encodes all text left = (ws : List ℕ) → pack_text (all ++ ws) ≡ text ++ pack_text (left ++ ws)
