-- What structs need that end in zeros or in nulls, and those that don't.
use Rattle.cap_spec.specs.Denoting.{places}
use Rattle.cap_spec.specs.Tree.{none}
use Rattle.cap_spec.proofs.ProofNames.{List, arith, cases_eq, inl, inr, length, max, refl, subst, suc, zero, ℕ, ◌*◌, ◌+◌, ◌-◌}
use Rattle.cap_spec.proofs.ProofNames.{◌<◌, ◌≡◌, ◌≢◌, ◌≤◌, ◌⊎◌, AreElements, DenoteEach, HasWord, Trees, children_needed, children_of}
use Rattle.cap_spec.proofs.ProofNames.{more, rules, segment_of, struct}
use Rattle.cap_canon.specs.Trimming.{EndsFar, ListNeedsLess, NeedFewerPointers, NeedsLessOfRow, OneEndsFar, most_data}
use Rattle.cap_canon.proofs.Needed.{most_within}
use Rattle.cap_canon.proofs.WholeObjects.{element_inside, elements_empty, elements_short, elements_whole, most_all, most_short}
use Rattle.cap_canon.proofs.WholeObjects.{row_empty, row_short, row_whole}
use Rattle.cap_difference.specs.Reasons.{EndInNulls, EndInZeros, IsNullAt}
use Rattle.cap_difference.proofs.LastWords.{each_at, elements_null_or, null_or, null_word, nulls_far_or, zeros_or}

-- Structs that don't end in zeros need their data words,
pub data_all : (m : List (List ℕ)) (t b n ds ps : ℕ) → b + n * (ds + ps) ≤ length (segment_of m t) → ¬ EndInZeros m t b n ds ps
    → ds ≡ most_data m t b ds ps n
data_all m t b n ds ps inside isnt = elim (cases_eq ds 0) [
  | inl z ↦ omega (arith, z, most_within m t b ds ps n inside)
  | inr some ↦
      let there = λ (k : ℕ) (lt : k < n). element_inside b (ds - 1) (ds + ps) k n (length (segment_of m t)) lt (omega (arith, some)) inside in
      elim (zeros_or m t (b + (ds - 1)) (ds + ps) n there) [
        | inl (k, x, lt, has, set) ↦ most_all m t b ds ps n k x (omega (arith, some)) lt inside has set
        | inr zeros ↦ absurd (isnt record {
          some = omega (arith, some);
          zeros = λ k lt. (let at : b + (ds - 1) + k * (ds + ps) ≡ b + k * (ds + ps) + (ds - 1) = omega arith in
              subst (λ i. HasWord m t i 0) at (zeros k lt));
        })
      ]
]

-- and those that do don't.
pub zeros_less : (m : List (List ℕ)) (t b n ds ps : ℕ) → b + n * (ds + ps) ≤ length (segment_of m t) → EndInZeros m t b n ds ps
    → ds ≢ most_data m t b ds ps n
zeros_less m t b n ds ps inside h e =
    let short = most_short m t b ds ps n h.some inside (λ k lt.
    let at : b + k * (ds + ps) + (ds - 1) ≡ b + (ds - 1) + k * (ds + ps) = omega arith in subst (λ i. HasWord m t i 0) at (h.zeros k lt)) in
    omega (arith, short, e, h.some)

-- the end of one struct
one_end : (m : List (List ℕ)) (t b ds ps : ℕ) → 0 < ps → IsNullAt m t (b + ds + (ps - 1)) → EndInNulls m t b 1 ds ps
one_end m t b ds ps some null = record {
  some = some;
  nulls = λ k lt. (let z : k ≡ 0 = omega (arith, lt) in
      let at : b + ds + (ps - 1) ≡ b + 0 * (ds + ps) + (ds + ps - 1) = omega (arith, some) in
      subst (λ i. IsNullAt m t (b + i * (ds + ps) + (ds + ps - 1))) (omega (arith, z)) (subst (IsNullAt m t) at null));
}

-- One that doesn't end in a null needs its pointers,
pub row_all : (m : List (List ℕ)) (t b ds ps : ℕ) → ¬ EndInNulls m t b 1 ds ps → (ts : Trees) (c d : ℕ) → DenoteEach m (places t (b + ds) ps) ts c d
    → ps ≡ max 0 (children_needed ts)
row_all m t b ds ps isnt ts c d h = elim (cases_eq ps 0) [
  | inl z ↦ row_empty m t (b + ds) ts c d z h
  | inr some ↦
      let last = each_at m t (b + ds) ps ts c d (ps - 1) h (omega (arith, some)) in
      elim (null_or m t (b + ds + (ps - 1)) last.0 last.1 last.2 last.3) [
        | inl null ↦ absurd (isnt (one_end m t b ds ps (omega (arith, some)) null))
        | inr set ↦ row_whole m t (b + ds) ps ts c d (omega (arith, some)) set h
      ]
]

-- and one that does doesn't.
pub row_less : (m : List (List ℕ)) (t b ds ps : ℕ) → EndInNulls m t b 1 ds ps → NeedsLessOfRow m t (b + ds) ps ⊎ EndsFar m t (b + ds) ps
row_less m t b ds ps h =
    let some = h.some in
    let at : b + 0 * (ds + ps) + (ds + ps - 1) ≡ b + ds + (ps - 1) = omega (arith, some) in
    elim (null_word m t (b + ds + (ps - 1)) (subst (IsNullAt m t) at (h.nulls 0 (omega arith)))) [
      | inl here ↦ inl (λ ts c d k e. omega (arith, row_short m t (b + ds) ps ts c d some here k, e, some))
      | inr far ↦ inr (some, far)
    ]

-- So it is with elements.
pub elements_all : (m : List (List ℕ)) (t b n ds ps : ℕ) → ¬ EndInNulls m t b n ds ps → (es : Trees) (c d : ℕ) → AreElements m t b ds ps n es c d
    → ps ≡ children_of es
elements_all m t b n ds ps isnt es c d h = elim (cases_eq ps 0) [
  | inl z ↦ elements_empty m t b ds n es c d z h
  | inr some ↦ elim (elements_null_or m t b ds ps n es c d (omega (arith, some)) h) [
    | inl (i, lt, last) ↦ elements_whole m t b ds ps n i es c d (omega (arith, some)) lt last h
    | inr nulls ↦ absurd (isnt record { some = omega (arith, some); nulls = nulls })
  ]
]

pub elements_less : (m : List (List ℕ)) (t b n ds ps : ℕ) → EndInNulls m t b n ds ps
    → NeedFewerPointers m t b ds ps n ⊎ OneEndsFar m t b ds ps n
elements_less m t b n ds ps h =
    let some = h.some in
    let nulls = λ (k : ℕ) (lt : k < n). (let at : b + k * (ds + ps) + (ds + ps - 1) ≡ b + (ds + (ps - 1)) + k * (ds + ps) = omega (arith, some) in
    subst (IsNullAt m t) at (h.nulls k lt)) in
    elim (nulls_far_or m t (b + (ds + (ps - 1))) (ds + ps) n nulls) [
      | inl (k, lt, far) ↦ inr (some, k, lt, far)
      | inr zeros ↦ inl (λ es c d k e. omega (arith, elements_short m t b ds ps n es c d some zeros k, e, some))
    ]

-- a list without elements needs no sizes
no_data : (m : List (List ℕ)) (t b ds ps n : ℕ) → n ≡ 0 → most_data m t b ds ps n ≡ 0
no_data m t b ds ps zero e = refl
no_data m t b ds ps (suc n) e = absurd (omega (arith, e))

no_elements : (m : List (List ℕ)) (t b ds ps n : ℕ) (es : Trees) (c d : ℕ) → n ≡ 0 → AreElements m t b ds ps n es c d → children_of es ≡ 0
no_elements m t b ds ps n none c d e h = refl
no_elements m t b ds ps n (more (struct ws ts) es) c d e h = absurd (omega (arith, e, h.5))
no_elements m t b ds ps n es c d e h = search rules

pub empty_less : (m : List (List ℕ)) (t b n ds ps : ℕ) → n ≡ 0 → ds + ps ≢ 0 → ListNeedsLess m t b ds ps n
empty_less m t b n ds ps e some = elim (cases_eq ds 0) [
  | inl z ↦ inr (inl (λ es c d h k. some (omega (arith, z, k, no_elements m t b ds ps n es c d e h))))
  | inr set ↦ inl (λ k. set (omega (arith, k, no_data m t b ds ps n e)))
]
