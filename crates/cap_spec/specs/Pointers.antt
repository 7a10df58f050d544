-- The six forms of a pointer word, and their fields (standard: Structs, Lists, Inter-Segment Pointers, Capabilities).
use Rattle.std.specs.Prelude.{if◌then◌else◌, ℕ, ◌*◌, ◌+◌, ◌/◌, ◌==◌, ◌≡◌, ◌≢◌}
use Rattle.cap_spec.specs.Words.{field}

-- bits 0 and 1: 0 a struct, 1 a list, 2 a far pointer, 3 a capability
abbrev pub kind : ℕ → ℕ
kind p = field p 0 2

-- bits 2 to 31, without a sign
abbrev pub middle : ℕ → ℕ
middle p = field p 2 30

-- of a struct, or of the tag of a composite list
abbrev pub data_size : ℕ → ℕ
data_size p = field p 32 16

abbrev pub pointer_size : ℕ → ℕ
pointer_size p = field p 48 16

-- of a list
abbrev pub code : ℕ → ℕ
code p = field p 32 3

abbrev pub list_size : ℕ → ℕ
list_size p = field p 35 29

-- of a far pointer
abbrev pub two : ℕ → ℕ
two p = field p 2 1

abbrev pub pad : ℕ → ℕ
pad p = field p 3 29

abbrev pub far_segment : ℕ → ℕ
far_segment p = field p 32 32

-- of a capability
abbrev pub cap_index : ℕ → ℕ
cap_index p = field p 32 32

abbrev pub IsFar : ℕ → Type 0
IsFar p = kind p ≡ 2

abbrev pub IsReserved : ℕ → Type 0
IsReserved p = (kind p ≡ 3) × (middle p ≢ 0)

abbrev pub IsCap : ℕ → Type 0
IsCap p = (kind p ≡ 3) × (middle p ≡ 0)

abbrev pub IsStruct : ℕ → Type 0
IsStruct p = (kind p ≡ 0) × (p ≢ 0)

abbrev pub IsList : ℕ → Type 0
IsList p = kind p ≡ 1

-- the bits of one element, at the codes below 6
abbrev pub element_bits : ℕ → ℕ
element_bits c = if c == 0 then 0 else (if c == 1 then 1 else (if c == 2 then 8 else (if c == 3 then 16 else (if c == 4 then 32 else 64))))

-- the words of a list, without a tag
abbrev pub list_words : ℕ → ℕ → ℕ
list_words c size =
    if c == 7 then size else
    (if c == 6 then size else ((element_bits c * size + 63) / 64))

-- how many words the object of a struct or list pointer takes, a tag with it
abbrev pub extent : ℕ → ℕ
extent q = if kind q == 0 then data_size q + pointer_size q else (if code q == 7 then 1 + list_size q else list_words (code q) (list_size q))
