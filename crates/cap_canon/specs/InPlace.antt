-- What is already in segment 0 at the place that a copy gives it (profile).
use Rattle.std.specs.Prelude.{ℕ, ⊤, ◌+◌, ◌<◌, ◌≡◌}
use Rattle.cap_canon.specs.declared.objects.Object.{Object}
use Rattle.cap_canon.specs.declared.objects.Object.TheVariants.{Cap, Null, Pointers, Scalars, Struct, Structs}

-- where the pointer words of an object are; a copy has the object's own words from end on
abbrev pub LiesIn : ℕ → Object → Type 0
LiesIn end Null = ⊤
LiesIn end (Cap index) = ⊤
LiesIn end (Struct x) = 0 < x.pointers_left → (x.segment ≡ 0) × (x.start + x.data_words ≡ end + x.data_left)
LiesIn end (Scalars t b c n words) = ⊤
LiesIn end (Pointers t b n) = (t ≡ 0) × (b ≡ end)
LiesIn end (Structs n x) = (x.segment ≡ 0) × (x.start ≡ end + 1) × (x.data_words ≡ x.data_left) × (x.pointers ≡ x.pointers_left)
