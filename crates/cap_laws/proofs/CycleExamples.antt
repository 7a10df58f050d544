-- A struct whose one pointer leads back to the struct: the pointer that passes a limit is the first fault.
use Rattle.cap_spec.specs.declared.Kind.TheVariants.{Struct}
use Rattle.cap_spec.proofs.Lemmas.{one_reached, one_found, struct_found, first_fault_kept}
use Rattle.cap_spec.proofs.ProofNames.{List, [], ap, ap₂, arith, inl, inr, length, lit<, lit≤, refl, subst, suc, sym, zero}
use Rattle.cap_spec.proofs.ProofNames.{ℕ, ◌++◌, ◌+◌, ◌<◌, ◌∙◌, ◌∷◌, ◌≡◌, ◌≤◌, ◌⊎◌, cases_lt, Finds, FindsKind, AreShallow}
use Rattle.cap_spec.proofs.ProofNames.{IsFaultAt, IsFirstReason, IsRefused, is_deep, is_past, IsOneOf, Before, Costs, IsTour}
use Rattle.cap_spec.proofs.ProofNames.{PathLeads, Reaches, Rises, Spot, StepsTo, word, CostOf, common_steps, rules}
use Rattle.cap_laws.specs.LawNames.{Reason, DepthLimit, WordLimit, Step, Ptr}
use Rattle.cap_laws.proofs.LimitExamples.{finds_near}

abbrev circle : List (List ℕ)
circle = (0x00010000fffffffc ∷ []) ∷ []

finds_circle : Finds circle 0 0 0 0 0 0x00010000fffffffc
finds_circle = finds_near refl (lit< tt) (λ e. omega (arith, e)) refl (lit< tt) (lit≤ tt) (λ (a, b). omega (arith, a))

object_circle : FindsKind circle 0 0 (Struct 0 1) 0 0 0 0x00010000fffffffc 0
object_circle = struct_found circle 0 0 0 0 0 0x00010000fffffffc finds_circle refl

-- n times around
abbrev around : ℕ → List Step
around zero = []
around (suc n) = Ptr 0 ∷ around n

length-around : (n : ℕ) → length (around n) ≡ n
length-around zero = refl
length-around (suc n) = let e = length-around n in omega (arith, e)

-- a step leads around
goes_around : (step : Step) (spot : Spot) → StepsTo circle (word 0 0) step spot → (step ≡ Ptr 0) × (spot ≡ word 0 0)
goes_around step spot h = grind (arith, common_steps, one_found, object_circle)

-- so each path goes around
walks_around : (n : ℕ) → PathLeads circle (word 0 0) (around n) n (word 0 0)
walks_around zero = (refl, refl)
walks_around (suc n) = search (rules, object_circle, walks_around n)

walk_is_around : (path : List Step) (n : ℕ) (spot : Spot) → PathLeads circle (word 0 0) path n spot → path ≡ around n
walk_is_around [] n spot (e, same) = ap around (sym e)
walk_is_around (step ∷ path) n spot (mid, less, goes, rest, sum) =
    let g = goes_around step mid goes in
    let below = walk_is_around path less spot (subst (λ u. PathLeads circle u path less spot) g.1 rest) in
    let more : n ≡ suc less = omega (arith, rw g.1 at sum) in
    ap₂ (λ x xs. x ∷ xs) g.0 below ∙ ap around (sym more)

reaches_around : (n : ℕ) → Reaches circle (around n) (1 + n) 0 0
reaches_around n = (0x00010000fffffffc, n, refl, walks_around n, refl)

-- and a shorter one comes first
before_around : (i j : ℕ) → i < j → Before (around i) (around j)
before_around i zero less = absurd (omega (arith, less))
before_around zero (suc j) less = tt
before_around (suc i) (suc j) less = inr (refl, before_around i j (omega (arith, less)))

around_before : (i j : ℕ) → Before (around i) (around j) → i < j
around_before i zero b = search rules
around_before zero (suc j) b = omega arith
around_before (suc i) (suc j) (inl less) = absurd (omega (arith, less))
around_before (suc i) (suc j) (inr (e, b)) = let less = around_before i j b in omega (arith, less)

-- the paths of n lengths
abbrev arounds : ℕ → ℕ → List (List Step)
arounds from zero = []
arounds from (suc n) = around from ∷ arounds (suc from) n

length-arounds : (from n : ℕ) → length (arounds from n) ≡ n
length-arounds from zero = refl
length-arounds from (suc n) = let e = length-arounds (suc from) n in omega (arith, e)

arounds-last : (from n : ℕ) → arounds from n ++ around (from + n) ∷ [] ≡ arounds from (suc n)
arounds-last from zero = ap (λ u. around u ∷ []) (omega arith)
arounds-last from (suc n) = grind (arith, common_steps, arounds-last (suc from) n)

arounds-whole : (n : ℕ) → arounds 0 n ++ around n ∷ [] ≡ arounds 0 (suc n)
arounds-whole n = search (rules, arounds-last 0 n)

arounds-rise : (from n : ℕ) → Rises (arounds from n)
arounds-rise from (suc (suc n)) = (before_around from (suc from) (omega arith), arounds-rise (suc from) (suc n))
arounds-rise from n = tt

one_of_arounds : (q : List Step) (from n : ℕ) → IsOneOf q (arounds from n) → (j : ℕ) × (q ≡ around j) × (from ≤ j) × (j < from + n)
one_of_arounds q from zero h = absurd h
one_of_arounds q from (suc n) (inl e) = (from, e, omega arith, omega arith)
one_of_arounds q from (suc n) (inr h) = grind (arith, common_steps, one_of_arounds q (suc from) n h)

around_is_one : (from n k : ℕ) → k < n → IsOneOf (around (from + k)) (arounds from n)
around_is_one from (suc n) (suc k) less = search (rules, around_is_one (suc from) n k (omega (arith, less)))
around_is_one from n k less = search rules

-- they are the tour of the longest
tour_around : (n : ℕ) → IsTour circle (around n) (arounds 0 n ++ around n ∷ [])
tour_around n = subst (IsTour circle (around n)) (sym (arounds-whole n)) (record {
  rising = arounds-rise 0 (suc n);
  reached = λ q h. let (j, e, least, most) = one_of_arounds q 0 (suc n) h in
      (1 + j, 0, 0, subst (λ (u : List Step). Reaches circle u (1 + j) 0 0) (sym e) (reaches_around j));
  all = λ q level s w r upto. all q r.1 (walk_is_around q r.1 (word s w) r.3) upto;
  none_after = λ q h. let (j, e, least, most) = one_of_arounds q 0 (suc n) h in none_after q j e most;
})
  where
    few : (q : List Step) (j : ℕ) → q ≡ around j → (q ≡ around n) ⊎ Before q (around n) → j < suc n
    few q j e (inl same) = search (rules, length-around j, length-around n)
    few q j e (inr b) =
        let less = around_before j n (subst (λ (u : List Step). Before u (around n)) e b) in omega (arith, less)

    all : (q : List Step) (j : ℕ) → q ≡ around j → (q ≡ around n) ⊎ Before q (around n) → IsOneOf q (arounds 0 (suc n))
    all q j e upto =
        search (rules, around_is_one 0 (suc n) j (few q j e upto))

    split : (j : ℕ) → j < suc n → (j ≡ n) ⊎ (j < n)
    split j less = elim (cases_lt j n) [ inl lt ↦ inr lt | inr ge ↦ inl (omega (arith, less, ge)) ]

    none_after : (q : List Step) (j : ℕ) → q ≡ around j → j < 0 + suc n → (q ≡ around n) ⊎ Before q (around n)
    none_after q j e most = search (rules, before_around)

costs_word : Costs circle 0 0 1
costs_word = inr (inr (0, 0, 0, 0x00010000fffffffc, 0, finds_circle, (λ (a, b). absurd (omega (arith, a))), refl))

costs_around : (from n : ℕ) → CostOf circle (arounds from n) n
costs_around from zero = refl
costs_around from (suc n) = (1 + from, 0, 0, 1, n, reaches_around from, costs_word, costs_around (suc from) n, omega arith)

shallow_around : (n depth : ℕ) → n ≤ depth → AreShallow circle depth (arounds 0 n)
shallow_around n depth within p level s w h r (k, t, b, q, tag, finds, tagged, deep) =
    let (j, e, least, most) = one_of_arounds p 0 n h in
    let at = one_reached circle (around j) level (1 + j) s w 0 0 (subst (λ (u : List Step). Reaches circle u level s w) e r)
    (reaches_around j) in
    search rules

-- The pointer after n of them is the first fault, if they keep to the limits and it doesn't.
refused_around : (n words depth : ℕ) (v : Reason) → n ≤ words → n ≤ depth → IsFirstReason circle words depth n 0 0 (1 + n) v
    → IsRefused circle words depth record { segment = 0; word = 0; reason = v; pointers = n + 1 }
refused_around n words depth v within shallow reason =
    inr (first_fault_kept fault within (shallow_around n depth shallow) (omega (arith, within)))
  where
    number : n + 1 ≡ length (arounds 0 n ++ around n ∷ [])
    number = search (rules, arounds-whole, length-arounds)

    fault : IsFaultAt circle words depth (around n) record { segment = 0; word = 0; reason = v; pointers = n + 1 }
    fault = record {
      numbered = record {
        level = 1 + n;
        tour = arounds 0 n ++ around n ∷ [];
        reached = reaches_around n;
        is_tour = tour_around n;
        count = number;
      };
      before = arounds 0 n;
      charge = n;
      whole = refl;
      costs = costs_around 0 n;
      reason = reason;
    }

-- A depth limit of 64 refuses the pointer after 64,
depth_around : IsRefused circle 1000 64 record { segment = 0; word = 0; reason = DepthLimit; pointers = 65 }
depth_around = refused_around 64 1000 64 DepthLimit (lit≤ tt) (lit≤ tt)
    (is_deep refl (0, 0, 0, 0x00010000fffffffc, 0, finds_circle, (λ (a, b). absurd (omega (arith, a))), lit< tt))

-- and a word limit of 10 the one after 10.
words_around : IsRefused circle 10 64 record { segment = 0; word = 0; reason = WordLimit; pointers = 11 }
words_around = refused_around 10 10 64 WordLimit (lit≤ tt) (lit≤ tt)
    (is_past 1 refl (λ deep. shallow_around 11 64 (lit≤ tt) (around 10) 11 0 0 (around_is_one 0 11 10 (lit< tt)) (reaches_around 10) deep)
    costs_word (lit< tt))
