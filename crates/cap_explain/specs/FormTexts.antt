-- The texts of pointer words, by their forms and fields (profile).
use Rattle.std.specs.Prelude.{List, codes, decimal, if◌then◌else◌, nat_lt, ℕ, ◌++◌, ◌+◌, ◌-◌, ◌==◌, ◌^◌, ◌∷◌}
use Rattle.cap_spec.specs.Pointers.{cap_index, code, data_size, far_segment, kind, list_size, middle, pad, pointer_size}
use Rattle.cap_spec.specs.Pointers.{two}

-- a segment and a word
abbrev pub segment_word_text : ℕ → ℕ → List ℕ
segment_word_text s w = decimal s ++ 58 ∷ decimal w

-- the difference of two numbers, with its sign
abbrev pub signed_difference : ℕ → ℕ → List ℕ
signed_difference a b = if nat_lt a b then 45 ∷ decimal (b - a) else decimal (a - b)

-- what the 30 bits of an offset, read without a sign, are too large by
abbrev pub excess : ℕ → ℕ
excess bits = if nat_lt bits (2 ^ 29) then 0 else 2 ^ 30

abbrev pub offset_text : ℕ → List ℕ
offset_text p = codes ", offset " ++ signed_difference (middle p) (excess (middle p))

abbrev pub sizes_text : ℕ → List ℕ
sizes_text p =
    codes ", data words " ++ decimal (data_size p) ++ codes ", pointers " ++ decimal (pointer_size p)

-- the elements of a list of this code
abbrev pub elements_name : ℕ → List ℕ
elements_name c =
    if c == 0 then codes "list of empty elements" else
    (if c == 1 then codes "list of bits" else
    (if c == 2 then codes "list of bytes" else
    (if c == 3 then codes "list of 2 bytes each" else
    (if c == 4 then codes "list of 4 bytes each" else
    (if c == 5 then codes "list of 8 bytes each" else
    (if c == 6 then codes "list of pointers" else codes "list of structs"))))))

-- what the size of a list of this code counts
abbrev pub size_name : ℕ → List ℕ
size_name c = if c == 7 then codes ", words " else codes ", elements "

abbrev pub list_text : ℕ → List ℕ
list_text p = elements_name (code p) ++ offset_text p ++ size_name (code p) ++ decimal (list_size p)

abbrev pub far_text : ℕ → List ℕ
far_text p = codes "far pointer to " ++ segment_word_text (far_segment p) (pad p) ++ codes ", pad words "
    ++ decimal (two p + 1)

abbrev pub other_text : ℕ → List ℕ
other_text p =
    if middle p == 0 then codes "capability, index " ++ decimal (cap_index p) else codes "reserved"

-- the form of a pointer word and its fields
abbrev pub form_text : ℕ → List ℕ
form_text p =
    if p == 0 then codes "null" else
    (if kind p == 0 then codes "struct" ++ offset_text p ++ sizes_text p else
    (if kind p == 1 then list_text p else (if kind p == 2 then far_text p else other_text p)))

-- of the first word of a list of structs. In a tag the bits of an offset count the elements
abbrev pub tag_text : ℕ → List ℕ
tag_text p =
    if kind p == 0 then codes "struct, elements " ++ decimal (middle p) ++ sizes_text p else
    (codes "not a struct tag: " ++ form_text p)
