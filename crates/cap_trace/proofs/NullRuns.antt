-- A search goes on over null words of a row.
use Rattle.cap_spec.proofs.Lemmas.{Before-irreflexive, one_used}
use Rattle.cap_spec.proofs.ProofNames.{HasWord, IsOneOf, List, [], arith, length, refl, segment_of, subst, sym, suc, word, zero, ℕ}
use Rattle.cap_spec.proofs.ProofNames.{◌++◌, ◌+◌, ◌<◌, ◌∙◌, ◌∷◌, ◌≡◌, ◌≤◌, Before}
use Rattle.std.proofs.Common.{inl, inr, ◌-◌}
use Rattle.std.proofs.lemmas.Bool.{cases_lt}
use Rattle.cap_ptr.specs.declared.shapes.Followed.TheVariants.{Null}
use Rattle.cap_trace.specs.Branches.{form_spot}
use Rattle.cap_trace.specs.EarlierPointers.{NoneUses, UsesOneAt}
use Rattle.cap_trace.specs.TraceNames.{Branch, Form, HasCome, IsRow, Pointers, Step, Struct, Structs, WordPlace, path_of, place_of}
use Rattle.cap_trace.specs.TraceNames.{skipped}
use Rattle.cap_trace.proofs.Branches.{branches_split, last_more, path_with, row_fits, word_taken}
use Rattle.cap_trace.proofs.Coming.{passed_over, took_word}
use Rattle.cap_trace.proofs.Common.{followed_used}
use Rattle.cap_trace.proofs.Nulls.{nothing_below, null_leads}
use Rattle.cap_trace.proofs.Onward.{apart_in_order}
use Rattle.cap_trace.proofs.Returns.{element_no_word, few_taken}
use Rattle.cap_trace.proofs.Sharing.{still_none}

-- A null word uses no word.
null_unused : (m : List (List ℕ)) (s w : ℕ) (places : List (ℕ × ℕ)) → HasWord m s w 0 → UsesOneAt m s w places → ⊥
null_unused m s w places null (used, o, (x, i, j)) =
    subst (λ (u : List (ℕ × ℕ)). IsOneOf x u)
    (one_used m s w used [] o (followed_used m s w 0 (Null 0) null (null_leads m s w null))) i

-- Where the search is at a word, its last branch is a row, from which this word was taken.
pub at_row : (m : List (List ℕ)) (depth n : ℕ) (fs : List Branch) (f : Branch) (here : WordPlace)
    → HasCome m depth n (fs ++ f ∷ []) here → IsRow f.form × (here ≡ place_of f)
at_row m depth n fs f here h = by_form f.form (sym (last_more (word 0 0) fs (f ∷ [])) ∙ h.last)
  where
    same_place : (s w : ℕ) → word s w ≡ word here.segment here.at → here ≡ record { segment = s; at = w }
    same_place s w e =
        let segment : s ≡ here.segment = cc in
        let at : w ≡ here.at = cc in rw (segment, at) refl

    by_form : (form : Form) → form_spot form f (f.taken - 1) ≡ word here.segment here.at → IsRow form × (here ≡ place_of f)
    by_form Struct e = (tt, same_place f.segment (f.start + (f.taken - 1)) e)
    by_form Pointers e = (tt, same_place f.segment (f.start + (f.taken - 1)) e)
    by_form Structs e = absurd (element_no_word Structs f (f.taken - 1) here.segment here.at refl e)

-- Its words lie inside their segment.
pub come_row : (m : List (List ℕ)) (depth n : ℕ) (fs : List Branch) (f : Branch) (here : WordPlace)
    → HasCome m depth n (fs ++ f ∷ []) here
    → (f.taken ≤ f.count) × (f.start + f.count ≤ length (segment_of m f.segment)) × (f.segment < length m) × (length fs < depth)
come_row m depth n fs f here h =
    let b = (branches_split m depth 1 fs (f ∷ []) h.stack).1.0 in (
      few_taken f.form f b.counted,
      row_fits m depth _ f (at_row m depth n fs f here h).0 b,
      b.exists,
      omega (arith, b.shallow),
    )

-- If it has words left, some were taken.
some_taken : (m : List (List ℕ)) (depth n : ℕ) (fs : List Branch) (f : Branch) (here : WordPlace)
    → HasCome m depth n (fs ++ f ∷ []) here → IsRow f.form → f.taken < f.count → 0 < f.taken
some_taken m depth n fs f here h row less = elim (cases_lt 0 f.taken) [
  | inl some ↦ some
  | inr none ↦
      let before : Before (path_of (fs ++ f ∷ [])) (path_of (fs ++ skipped f 1 ∷ [])) =
      apart_in_order _ _ (rw (word_taken fs f row less) at h.trail.apart).0 in
      let e : f.taken + 1 - 1 ≡ f.taken - 1 = omega (arith, none) in
      let same : path_of (fs ++ skipped f 1 ∷ []) ≡ path_of (fs ++ f ∷ []) =
      path_with fs (skipped f 1) ∙ rw e (sym (path_with fs f)) in
      absurd (Before-irreflexive (path_of (fs ++ f ∷ [])) (subst (λ (u : List Step). Before (path_of (fs ++ f ∷ [])) u) same before))
]

-- Over one null word it goes on to the next word of the row.
module _ (m : List (List ℕ)) (depth n : ℕ) (fs : List Branch) (f : Branch) (row : IsRow f.form) (less : f.taken < f.count)
    (null : HasWord m f.segment (place_of f).at 0) (h : HasCome m depth n (fs ++ f ∷ []) (place_of f)) where
  over_null : HasCome m depth (n + 1) (fs ++ skipped f 1 ∷ []) (place_of (skipped f 1))
  over_null =
      took_word m depth n fs f
      (passed_over m depth n (fs ++ f ∷ []) (place_of f) h (nothing_below m depth 0 _ _ _ (null_leads m _ _ null))) row less

  none_over_null : (places : List (ℕ × ℕ)) → NoneUses m places (path_of (fs ++ f ∷ []))
      → NoneUses m places (path_of (fs ++ skipped f 1 ∷ []))
  none_over_null places none =
      still_none m depth n _ _ (place_of f) (place_of (skipped f 1)) places h over_null none (null_unused m _ _ places null)

-- The search has come to the last word taken from g, and over the words since these branches none used a word.
abbrev pub GoesTo : List (List ℕ) → ℕ → List Branch → ℕ → List Branch → Branch → Type 0
GoesTo m depth old n fs g =
    HasCome m depth n (fs ++ g ∷ []) (place_of g)
    × ((places : List (ℕ × ℕ)) → NoneUses m places (path_of old) → NoneUses m places (path_of (fs ++ g ∷ [])))

-- Over k of them it goes on by k words.
pub over_nulls : (m : List (List ℕ)) (depth n : ℕ) (fs : List Branch) (f : Branch) (k : ℕ) → IsRow f.form
    → f.taken + k ≤ f.count → ((j : ℕ) → j < k → HasWord m f.segment ((place_of f).at + j) 0)
    → HasCome m depth n (fs ++ f ∷ []) (place_of f) → GoesTo m depth (fs ++ f ∷ []) (n + k) fs (skipped f k)
over_nulls m depth n fs f zero row few null h =
    let same : f.taken + 0 ≡ f.taken = omega arith in
    let count : n + 0 ≡ n = omega arith in
    subst (λ (u : ℕ). GoesTo m depth (fs ++ f ∷ []) u fs (skipped f 0)) (sym count)
    (subst (λ (t : ℕ). GoesTo m depth (fs ++ f ∷ []) n fs (record f { taken = t })) (sym same) (h, λ places none. none))
over_nulls m depth n fs f (suc k) row few null h =
    let g = skipped f k in
    let (come, none) = over_nulls m depth n fs f k row (omega (arith, few)) (λ j less. null j (omega (arith, less))) h in
    let some = some_taken m depth n fs f (place_of f) h row (omega (arith, few)) in
    let at : (place_of f).at + k ≡ (place_of g).at = omega (arith, some) in
    let here : HasWord m f.segment (place_of g).at 0 = subst (λ (u : ℕ). HasWord m f.segment u 0) at (null k (omega arith)) in
    let less : g.taken < g.count = omega (arith, few) in
    let same : f.taken + k + 1 ≡ f.taken + suc k = omega arith in
    let count : n + k + 1 ≡ n + suc k = omega arith in
    subst (λ (u : ℕ). GoesTo m depth (fs ++ f ∷ []) u fs (skipped f (suc k))) count
    (subst (λ (t : ℕ). GoesTo m depth (fs ++ f ∷ []) (n + k + 1) fs (record f { taken = t })) same (
      over_null m depth (n + k) fs g row less here come,
      λ places first. none_over_null m depth (n + k) fs g row less here come places (none places first),
    ))

-- So it is of null words from where the search is.
pub over_nulls_here : (m : List (List ℕ)) (depth n : ℕ) (fs : List Branch) (f : Branch) (here : WordPlace) (k : ℕ)
    → f.taken + k ≤ f.count → ((j : ℕ) → j < k → HasWord m here.segment (here.at + j) 0)
    → HasCome m depth n (fs ++ f ∷ []) here → GoesTo m depth (fs ++ f ∷ []) (n + k) fs (skipped f k)
over_nulls_here m depth n fs f here k few null h =
    let (row, e) = at_row m depth n fs f here h in
    over_nulls m depth n fs f k row few
    (λ j less. subst (λ (u : WordPlace). HasWord m u.segment (u.at + j) 0) e (null j less))
    (subst (λ (u : WordPlace). HasCome m depth n (fs ++ f ∷ []) u) e h)
