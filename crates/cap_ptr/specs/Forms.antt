-- The six forms of a pointer word (standard: Structs, Lists, Inter-Segment Pointers, Capabilities).
use Rattle.std.specs.Prelude.{if◌then◌else◌, neg_ℤ, pos, ℕ, ℤ, ◌<ℤ◌, ◌<◌, ◌==◌, ◌^◌, ◌≡◌, ◌≢◌, ◌≤ℤ◌, ◌⊎◌}
use Rattle.cap_spec.specs.Pointers.{IsCap, IsFar, IsList, IsReserved, IsStruct, cap_index, code, data_size, far_segment}
use Rattle.cap_spec.specs.Pointers.{kind, list_size, middle, pad, pointer_size, two}
use Rattle.cap_spec.specs.Words.{IsWord, signed_offset_of}
use Rattle.cap_ptr.specs.declared.forms.Pointer.{Pointer}
use Rattle.cap_ptr.specs.declared.forms.Pointer.TheVariants.{Cap, Far, List, Null, Reserved, Struct}

-- the word has this form, with these fields
abbrev pub HasForm : ℕ → Pointer → Type 0
HasForm w Null = w ≡ 0
HasForm w (Struct offset data_words pointers) = IsStruct w × (offset ≡ signed_offset_of w) × (data_words ≡ data_size w) × (pointers ≡ pointer_size w)
HasForm w (List offset c size) = IsList w × (offset ≡ signed_offset_of w) × (c ≡ code w) × (size ≡ list_size w)
HasForm w (Far both place segment) = IsFar w × (both ≡ (two w == 1)) × (place ≡ pad w) × (segment ≡ far_segment w)
HasForm w (Cap index) = IsCap w × (index ≡ cap_index w)
HasForm w (Reserved word) = IsReserved w × (word ≡ w)

-- the one form of a word
abbrev pub pointer_of : ℕ → Pointer
pointer_of w =
    if w == 0 then Null else
    (if kind w == 0 then Struct (signed_offset_of w) (data_size w) (pointer_size w) else
    (if kind w == 1 then List (signed_offset_of w) (code w) (list_size w) else
    (if kind w == 2 then Far (two w == 1) (pad w) (far_segment w) else
    (if middle w == 0 then Cap (cap_index w) else Reserved w))))

-- an offset has 30 bits
abbrev pub IsOffset : ℤ → Type 0
IsOffset offset = (neg_ℤ (pos (2 ^ 29)) ≤ℤ offset) × (offset <ℤ pos (2 ^ 29))

-- the fields fit their bits, a struct isn't all zeros, and a reserved word is one
abbrev pub IsPointer : Pointer → Type 0
IsPointer Null = Unit {0}
IsPointer (Struct offset data_words pointers) = IsOffset offset × (data_words < 2 ^ 16) × (pointers < 2 ^ 16)
    × ((offset ≢ pos 0) ⊎ ((data_words ≢ 0) ⊎ (pointers ≢ 0)))
IsPointer (List offset c size) = IsOffset offset × (c < 2 ^ 3) × (size < 2 ^ 29)
IsPointer (Far both place segment) = (place < 2 ^ 29) × (segment < 2 ^ 32)
IsPointer (Cap index) = index < 2 ^ 32
IsPointer (Reserved word) = IsWord word × IsReserved word
