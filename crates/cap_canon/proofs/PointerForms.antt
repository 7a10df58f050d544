-- The pointer words of a copy have the forms of what they lead to.
use Rattle.cap_spec.proofs.Canonical.PointerFields.{cap_fields, list_fields, struct_fields}
use Rattle.cap_spec.proofs.ProofNames.{arith, false, lt-ltb, pos, ℕ, ◌*◌, ◌+◌, ◌<◌, ◌==◌, ◌^◌, ◌≡◌, nat_tests}
use Rattle.cap_spec.proofs.ProofNames.{list_word, struct_word, middle, signed_offset_of, rules}
use Rattle.cap_ptr.specs.Forms.{pointer_of}
use Rattle.cap_ptr.specs.declared.forms.Pointer.TheVariants.{Cap, List, Struct}

-- an offset that isn't negative
offset_ahead : (q offset : ℕ) → middle q ≡ offset → offset < 2 ^ 29 → signed_offset_of q ≡ pos offset
offset_ahead q offset e h = search (rules, lt-ltb)

pub not_null : (q : ℕ) → 0 < q → (q == 0) ≡ false
not_null q h = grind (arith, nat_tests)

pub struct_form : (offset d p : ℕ) → offset < 2 ^ 29 → d < 2 ^ 16 → p < 2 ^ 16 → 0 < d + p → pointer_of (struct_word offset d p) ≡ Struct (pos offset) d p
struct_form offset d p o ds ps some = search (rules, struct_fields, offset_ahead, not_null)

pub list_form : (offset c n : ℕ) → offset < 2 ^ 29 → c < 8 → n < 2 ^ 29 → pointer_of (list_word offset c n) ≡ List (pos offset) c n
list_form offset c n o cs ns = search (rules, list_fields, offset_ahead, not_null)

pub cap_form : (i : ℕ) → i < 2 ^ 32 → pointer_of (3 + 2 ^ 32 * i) ≡ Cap i
cap_form i h = search (rules, cap_fields, not_null)
