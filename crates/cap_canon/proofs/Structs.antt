-- Structs in a row, appended to a copy one after the other.
use Rattle.cap_spec.proofs.ProofNames.{List, ap, append_assoc, arith, length, length-append, suc, ℕ, ◌*◌, ◌++◌, ◌+◌}
use Rattle.cap_spec.proofs.ProofNames.{◌-◌, ◌<◌, ◌≡◌, ◌≤◌, words_from, segment_of, rules}
use Rattle.cap_spec.proofs.Trees.DenotedTrees.{range_length}
use Rattle.cap_canon.specs.Filling.{elements_from, parts_words}
use Rattle.cap_canon.specs.Objects.{IsFewer}
use Rattle.cap_canon.specs.declared.objects.Part.{Part}

-- the first i were appended, and the next one is at word b
pub record StructsSoFar (m : List (List ℕ)) (x : Part) (b count i : ℕ) (old now : List ℕ) (space : ℕ) : Type 0 where
  pub place : b ≡ x.start + i * (x.data_words + x.pointers)
  pub rest : now ++ elements_from m x.segment b x.data_words x.pointers x.data_left x.pointers_left (count - i) ≡ old ++ parts_words m x count
  pub capacity : length now + (count - i) * (x.data_left + x.pointers_left) ≤ space

-- the next one lies inside
pub struct_inside : {m : List (List ℕ)} {x : Part} {b count i : ℕ} {old now : List ℕ} {space : ℕ} → i < count
    → x.start + count * (x.data_words + x.pointers) ≤ length (segment_of m x.segment)
    → StructsSoFar m x b count i old now space → b + (x.data_words + x.pointers) ≤ length (segment_of m x.segment)
struct_inside lt h k = search rules

pub structs_more : {m : List (List ℕ)} {x : Part} {b count i : ℕ} {old now next : List ℕ} {space more : ℕ} → i < count → IsFewer x
    → b + (x.data_words + x.pointers) ≤ length (segment_of m x.segment)
    → next ≡ now ++ (words_from m x.segment b x.data_left ++ words_from m x.segment (b + x.data_words) x.pointers_left) → space ≤ more
    → StructsSoFar m x b count i old now space → StructsSoFar m x (b + (x.data_words + x.pointers)) count (i + 1) old next more
structs_more {x = x} {b = b} {count = count} {i = i} lt fewer h e g k =
    let n : count - i ≡ suc (count - (i + 1)) = omega (arith, lt) in
    let place : b + (x.data_words + x.pointers) ≡ b + x.data_words + x.pointers = omega arith in
    let rest = rw n at k.rest in
    let capacity = rw n at k.capacity in record {
      place = omega (arith, k.place);
      rest = search (rules, append_assoc, place, e);
      capacity = omega (arith, capacity, range_length, ap length e, length-append {A = ℕ}, fewer, h, g);
    }
