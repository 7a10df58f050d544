-- Paths that go on at the elements of a list of structs.
use Rattle.cap_spec.proofs.ProofNames.{List, Ok, Some, [], append_assoc, arith, length, mul-le-mul_right, refl, subst}
use Rattle.cap_spec.proofs.ProofNames.{ℕ, ◌*◌, ◌++◌, ◌+◌, ◌<◌, ◌∷◌, ◌≡◌, ◌≤◌, ◌^◌, segment_of, IsMessage, Spot, StepsTo, element}
use Rattle.cap_spec.proofs.ProofNames.{word, IsDeepAt, rules}
use Rattle.cap_spec.proofs.Frames.Messages.{short_segment}
use Rattle.cap_vet.specs.GivenPaths.{LeadsToElements}
use Rattle.cap_vet.specs.VetNames.{Step, Item, Ptr, Arrives, element_of, FindsNear, HasNoFaultBy, GivesAfter, IsPathEnd}
use Rattle.cap_vet.specs.VetNames.{Demands, Arrival, Found, PathStart, View, PathEnd, To}
use Rattle.cap_vet.specs.declared.nodes.struct_elements.StructElements.{StructElements}
use Rattle.cap_vet.proofs.Charging.{arrives_element, arrives_word}
use Rattle.cap_vet.proofs.PathLax.{adds_strict}
use Rattle.cap_vet.proofs.GivenPaths.{something_given, end_as}
use Rattle.cap_vet.proofs.Stepping.{element_goes, pointer_goes}
use Rattle.cap_frame.specs.declared.segments.Segments as segments

-- what the path to element i arrives at, from the list at `at`
abbrev element_spot : {M : Type 0} {g : segments.Ghosts M} → StructElements M g → ℕ → Spot
element_spot e i = element e.segment (e.first + i * (e.data_words + e.pointers)) e.data_words e.pointers

abbrev element_arrival : {M : Type 0} {g : segments.Ghosts M} → Arrival → StructElements M g → ℕ → Arrival
element_arrival at e i = record at {
  found = element_of e.segment (e.first + i * (e.data_words + e.pointers)) e.data_words e.pointers;
  level = at.level + 1;
}

-- and what the path to a pointer of it arrives at
abbrev pointer_arrival : Arrival → Found → ℕ → Arrival
pointer_arrival at f cost =
    record { found = f; level = at.level + 1; consumed = at.consumed + cost; pointers = at.pointers + 1; lax = at.lax }

module _ {M : Type 0} {g : segments.Ghosts M} (m : List (List ℕ)) (start : PathStart M g) (e : StructElements M g) (v : View M g)
    (are : LeadsToElements m start e) (exists : e.segment < length m) (i : ℕ) (lt : i < e.count)
    (inside : e.first + i * (e.data_words + e.pointers) + e.data_words + e.pointers ≤ length (segment_of m e.segment)) where
  element_arrives : (first : List Step) → IsPathEnd m start.words start.depth first start.end
      → Arrives m start.words start.depth (first ++ Item i ∷ []) (element_spot e i) (element_arrival are.at e i)
  element_arrives first end =
      let there = subst (λ (x : PathEnd). IsPathEnd m start.words start.depth first x) are.end end in
      let goes : StepsTo m there.0 (Item i) (element_spot e i) =
      rw (are.segment, are.first) (element_goes m there.0 e.data_words e.pointers there.1.found are.kind lt) in
      search (rules, arrives_element, there)

  -- A path on that arrives where the view is, without a lax pointer more, gives the view.
  gives : (rest : List Step) (a : Spot) (at : Arrival) → at.lax ≡ are.at.lax → v.found ≡ at.found
      → ((first : List Step) → IsPathEnd m start.words start.depth first start.end
      → Arrives m start.words start.depth (first ++ Item i ∷ rest) a at)
      → GivesAfter m start (Item i) rest (Ok (Some v))
  gives rest a at lax found leads = λ demands words depth first is.
      let path = first ++ Item i ∷ rest in
      let none : HasNoFaultBy demands (length m) at.lax =
      rw lax (subst (λ (d : Demands). HasNoFaultBy d (length m) are.at.lax) is.under are.strict) in
      something_given demands m words depth path at v found (end_as m path (To at) is.limit is.deepest
      (a, leads first is.end)) none

  pub element_given : v.found ≡ element_of e.segment (e.first + i * (e.data_words + e.pointers)) e.data_words e.pointers
      → GivesAfter m start (Item i) [] (Ok (Some v))
  element_given found =
      gives [] (element_spot e i) (element_arrival are.at e i) refl found (λ first end. element_arrives first end)

  -- From an element its pointer arrives there.
  pointer_arrives : (j w cost : ℕ) → j < e.pointers → w ≡ e.first + i * (e.data_words + e.pointers) + e.data_words + j
      → FindsNear m e.left e.depth e.segment w e.level v.found cost
      → (first : List Step) → IsPathEnd m start.words start.depth first start.end
      → Arrives m start.words start.depth (first ++ Item i ∷ Ptr j ∷ []) (word e.segment w)
      (pointer_arrival (element_arrival are.at e i) v.found cost)
  pointer_arrives j w cost few is near first end =
      let at = element_arrival are.at e i in
      let a = element_arrives first end in
      let goes = pointer_goes m (element_spot e i) e.data_words a.found refl few is in
      let level : e.level ≡ at.level + 1 = omega (arith, are.level) in
      let shallow : IsDeepAt m start.depth e.segment w (at.level + 1) → ⊥ =
      subst (λ x. IsDeepAt m x e.segment w (at.level + 1) → ⊥) are.depth (subst (λ x. IsDeepAt m e.depth e.segment w x → ⊥) level near.shallow) in
      rw (← append_assoc first (Item i ∷ []) (Ptr j ∷ [])) (arrives_word m (first ++ Item i ∷ []) (element_spot e i)
      at (Ptr j) at.lax a goes near.found near.costs (omega (arith, near.within, are.left)) shallow
      (adds_strict m e.segment w (at.pointers + 1) at.lax near.strict))

  pub pointer_given : (j w cost : ℕ) → j < e.pointers → w ≡ e.first + i * (e.data_words + e.pointers) + e.data_words + j
      → FindsNear m e.left e.depth e.segment w e.level v.found cost
      → GivesAfter m start (Item i) (Ptr j ∷ []) (Ok (Some v))
  pointer_given j w cost few is near =
      gives _ _ _ refl refl (λ first end. pointer_arrives j w cost few is near first end)

-- Each element lies among the words of all of them.
pub element_within : (first n d p i last : ℕ) → first + n * (d + p) ≤ last → i < n → first + i * (d + p) + d + p ≤ last
element_within first n d p i last h lt = search (rules, mul-le-mul_right)

-- So the number of each word of it has at most 32 bits.
pub element_small : {M : Type 0} {g : segments.Ghosts M} (e : StructElements M g) (i x a b : ℕ)
    → IsMessage (g.segments e.message.now) → i < x → x ≡ e.count → a ≡ e.data_words → b ≡ e.pointers
    → e.first + i * (a + b) + a + b < 2 ^ 32
element_small {M} {g} e i x a b is lt n d p =
    let few = short_segment (g.segments e.message.now) e.segment is e.exists in
    let within = element_within e.first e.count e.data_words e.pointers i _ e.inside (omega (arith, lt, n)) in
    rw (d, p) (omega (arith, few, within))
