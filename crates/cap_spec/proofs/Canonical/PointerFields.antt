-- The fields of the pointer words of a layout.
use Rattle.cap_spec.proofs.ProofNames.{arith, cond, ltb, negsuc, pos, suc, sym, ℕ, ◌*◌, ◌+ℤ◌, ◌+◌, ◌-◌, ◌<◌, ◌^◌, ◌≡◌}
use Rattle.cap_spec.proofs.ProofNames.{list_word, struct_word, cap_index, code, data_size, kind, list_size, middle}
use Rattle.cap_spec.proofs.ProofNames.{pointer_size, signed_offset_of, common_steps, rules}

-- of a struct's pointer, or of a tag
pub record StructFields (q offset d p : ℕ) : Type 0 where
  pub kind : kind q ≡ 0
  pub middle : middle q ≡ offset
  pub data_words : data_size q ≡ d
  pub pointers : pointer_size q ≡ p

pub struct_fields : (offset d p : ℕ) → offset < 2 ^ 30 → d < 2 ^ 16 → p < 2 ^ 16
    → StructFields (struct_word offset d p) offset d p
struct_fields offset d p ho hd hp = search rules

-- of a list's pointer
pub record ListFields (q offset c n : ℕ) : Type 0 where
  pub kind : kind q ≡ 1
  pub middle : middle q ≡ offset
  pub code : code q ≡ c
  pub size : list_size q ≡ n

pub list_fields : (offset c n : ℕ) → offset < 2 ^ 30 → c < 8 → n < 2 ^ 29 → ListFields (list_word offset c n) offset c n
list_fields offset c n ho hc hn = search rules

-- of a capability's pointer
pub record CapFields (q i : ℕ) : Type 0 where
  pub kind : kind q ≡ 3
  pub middle : middle q ≡ 0
  pub index : i ≡ cap_index q

pub cap_fields : (i : ℕ) → i < 2 ^ 32 → CapFields (3 + 2 ^ 32 * i) i
cap_fields i h = record { kind = omega arith; middle = omega arith; index = omega arith }

-- where an object begins whose offset is in these bits
pub start_after : (q a b offset : ℕ) → middle q ≡ offset → offset < 2 ^ 29 → b ≡ a + 1 + offset
    → pos b ≡ pos (a + 1) +ℤ signed_offset_of q
start_after q a b offset e h f = grind (arith, common_steps)

-- one less than one more
one_back : (a : ℕ) → cond (ltb (a + 1) 1) (negsuc (1 - suc (a + 1))) (pos (a + 1 - 1)) ≡ pos a
one_back a = grind (arith, common_steps)

-- a struct without words begins where its pointer is
pub start_before : (a : ℕ) → pos a ≡ pos (a + 1) +ℤ signed_offset_of (2 ^ 32 - 4)
start_before a = sym (one_back a)
