-- What the words of an object say of its place and its charge.
use Rattle.cap_spec.specs.declared.Reason.TheVariants.{OutOfSegment}
use Rattle.cap_spec.proofs.Pointers.Following.{wrong-out}
use Rattle.cap_spec.proofs.ProofNames.{List, arith, if◌then◌else◌, inr, length, pos, refl, ℕ, ◌*◌, ◌+◌, ◌<◌, ◌==◌}
use Rattle.cap_spec.proofs.ProofNames.{◌^◌, ◌≡◌, ◌≤◌, ints, IsComposite, Wrong, extra, HasWord, segment_of, data_size}
use Rattle.cap_spec.proofs.ProofNames.{extent, kind, list_size, middle, pointer_size, rules}
use Rattle.cap_spec.proofs.Trees.Charges.{extent_structs}
use Rattle.cap_ptr.specs.Reaching.{LeadsTo}
use Rattle.cap_ptr.specs.Shapes.{FindsObject, IsShape}
use Rattle.cap_ptr.specs.declared.shapes.Shape.{Shape}
use Rattle.cap_ptr.specs.declared.shapes.Shape.TheVariants.{Structs}

-- the elements of a composite list without words are charged one each
extra-composite : (q tag : ℕ) → IsComposite q → extra q tag ≡ (if (data_size tag + pointer_size tag) == 0 then middle tag else 0)
extra-composite q tag (k, c) = rw (k, c) refl

module _ (m : List (List ℕ)) (s w k t b q : ℕ) (leads : LeadsTo m s w k t b q) (there : t < length m) where
  -- an object that goes past its segment's end is outside
  pub wrong-past : length (segment_of m t) < b + extent q → Wrong m s w OutOfSegment
  wrong-past h = wrong-out m s w k t (pos b) q leads (there, inr (omega (arith, ints)))

  -- a list of structs whose elements lie inside it is found
  pub found-structs : (tag size count d p none n c : ℕ) → k ≤ 2 → b + extent q ≤ length (segment_of m t) → IsComposite q → HasWord m t b tag
      → size ≡ list_size q → kind tag ≡ 0 → count ≡ middle tag → d ≡ data_size tag → p ≡ pointer_size tag
      → middle tag * (data_size tag + pointer_size tag) ≤ size → none ≡ (if (data_size tag + pointer_size tag) == 0 then middle tag else 0)
      → none ≤ middle tag → n ≡ 1 + size → c ≡ k + 1 + size + none → FindsObject m s w k t b q tag n c (Structs size count d p)
  found-structs tag size count d p none n c few inside composite has size_is struct count_is d_is p_is fits none_is at_most n_is c_is =
      let fits' : middle tag * (data_size tag + pointer_size tag) ≤ list_size q = rw (← size_is) fits in
      search (rules, extent_structs, extra-composite)

  -- another object that lies inside its segment is found
  pub found-plain : (none n c : ℕ) (x : Shape) → k ≤ 2 → ¬ IsComposite q → n ≡ extent q → n ≤ 2 ^ 29 → b + n ≤ length (segment_of m t)
      → none ≡ extra q 0 → none < 2 ^ 29 → c ≡ k + n + none → IsShape q 0 x → FindsObject m s w k t b q 0 n c x
  found-plain none n c x few plain n_is below inside none_is few_none c_is shape = record {
    finds = record { leads = leads; inside = record { exists = there; inside = omega arith; composite = λ y. absurd (plain y) } };
    object = record { tagged = λ y. absurd (plain y); words = n_is; charge = omega arith; small = omega arith; shape = shape };
  }
