-- A struct of two pointers to one struct of a word: accepted, past a word limit of 3 at the second pointer, and not exclusive
-- there. A path in it is charged, or refused.
use Rattle.cap_spec.specs.Tree.{none}
use Rattle.cap_spec.proofs.Lemmas.{one_used, pointer_path_reached, one_reached, struct_found, first_fault_kept}
use Rattle.cap_spec.proofs.Lemmas.{paths_within_depth}
use Rattle.cap_spec.proofs.ProofNames.{List, [], ap, arith, inl, inr, lit<, lit≤, refl, subst, sym, ℕ, ◌∷◌, ◌≡◌, ◌⊎◌}
use Rattle.cap_spec.proofs.ProofNames.{DenoteEach, Denotes, Finds, IsRefused, is_past, AreOnPath, Charges, rules}
use Rattle.cap_spec.proofs.ProofNames.{IsFaultAt, IsFaultOnPath, IsOneOf, IsFirstOverlap, Occupies, Overlaps, on_earlier}
use Rattle.cap_spec.proofs.ProofNames.{on_root, twice, Before, Costs, IsTour, Reaches, word, Tree, cap_count, more}
use Rattle.cap_spec.proofs.ProofNames.{pointer_count, struct, CostOf, IsDeepAt, common_steps}
use Rattle.cap_laws.specs.LawNames.{WordLimit, Step, Ptr}
use Rattle.cap_laws.proofs.LimitExamples.{finds_near}
use Rattle.cap_spec.proofs.Verdicts.OnPath as listing

abbrev shared : List (List ℕ)
shared = (0x0002000000000000 ∷ 0x0000000100000004 ∷ 0x0000000100000000 ∷ 7 ∷ []) ∷ []

abbrev shared_tree : Tree
shared_tree = struct [] (more (struct (7 ∷ []) none) (more (struct (7 ∷ []) none) none))

-- what each of its pointers finds
finds_both : Finds shared 0 0 0 0 1 0x0002000000000000
finds_both = finds_near refl (lit< tt) (λ e. omega (arith, e)) refl (lit< tt) (lit≤ tt) (λ (a, b). omega (arith, a))

finds_first : Finds shared 0 1 0 0 3 0x0000000100000004
finds_first = finds_near refl (lit< tt) (λ e. omega (arith, e)) refl (lit< tt) (lit≤ tt) (λ (a, b). omega (arith, a))

finds_second : Finds shared 0 2 0 0 3 0x0000000100000000
finds_second = finds_near refl (lit< tt) (λ e. omega (arith, e)) refl (lit< tt) (lit≤ tt) (λ (a, b). omega (arith, a))

denotes_first : Denotes shared 0 1 (struct (7 ∷ []) none) 1 1
denotes_first = search (rules, struct_found, finds_first)

denotes_second : Denotes shared 0 2 (struct (7 ∷ []) none) 1 1
denotes_second = search (rules, struct_found, finds_second)

denotes_each : DenoteEach shared ((0, 1) ∷ (0, 2) ∷ []) (more (struct (7 ∷ []) none) (more (struct (7 ∷ []) none) none)) 2 1
denotes_each = (
  0,
  1,
  (0, 2) ∷ [],
  1,
  1,
  1,
  1,
  refl,
  denotes_first,
  (0, 2, [], 1, 1, 0, 0, refl, denotes_second, (refl, refl, refl), refl, refl),
  refl,
  refl,
)

-- The shared word is charged twice.
denotes_shared : Denotes shared 0 0 shared_tree 4 2
denotes_shared = (
  0,
  0,
  1,
  0x0002000000000000,
  0,
  0,
  2,
  2,
  1,
  record { object = struct_found shared 0 0 0 0 1 0x0002000000000000 finds_both refl; charge = refl; depth = refl },
  refl,
  denotes_each,
)

counts_shared : (pointer_count shared_tree ≡ 3) × (cap_count shared_tree ≡ 0)
counts_shared = (refl, refl)

-- its paths
reaches_both : Reaches shared [] 1 0 0
reaches_both = (0x0002000000000000, 0, refl, (refl, refl), refl)

reaches_first : Reaches shared (Ptr 0 ∷ []) 2 0 1
reaches_first = (
  0x0002000000000000,
  1,
  refl,
  (word 0 1, 0, (0, 0, 1, 0x0002000000000000, 0, 0, 2, struct_found shared 0 0 0 0 1 0x0002000000000000 finds_both refl, lit< tt, refl), (refl, refl), refl),
  refl,
)

reaches_second : Reaches shared (Ptr 1 ∷ []) 2 0 2
reaches_second = search (rules, struct_found, finds_both)

abbrev all_paths : List (List Step)
all_paths = [] ∷ (Ptr 0 ∷ []) ∷ (Ptr 1 ∷ []) ∷ []

tour_shared : IsTour shared (Ptr 1 ∷ []) all_paths
tour_shared = record {
  rising = (tt, (inl (lit< tt), tt));
  reached = λ q i. (pointer_path_reached shared shared_tree 4 2 denotes_shared q).0 i;
  all = λ q level s w g before. (pointer_path_reached shared shared_tree 4 2 denotes_shared q).1 (level, s, w, g);
  none_after = after;
}
  where
    after : (q : List Step) → IsOneOf q all_paths → (q ≡ Ptr 1 ∷ []) ⊎ Before q (Ptr 1 ∷ [])
    after q (inl e) = inr (subst (λ (x : List Step). Before x (Ptr 1 ∷ [])) (sym e) tt)
    after q (inr (inl e)) = inr (subst (λ (x : List Step). Before x (Ptr 1 ∷ [])) (sym e) (inl (lit< tt)))
    after q (inr (inr (inl e))) = inl e
    after q (inr (inr (inr e))) = absurd e

-- what following each costs, and that none is too deep
costs_both : Costs shared 0 0 2
costs_both = inr (inr (0, 0, 1, 0x0002000000000000, 0, finds_both, (λ (a, b). absurd (omega (arith, a))), refl))

costs_first : Costs shared 0 1 1
costs_first = inr (inr (0, 0, 3, 0x0000000100000004, 0, finds_first, (λ (a, b). absurd (omega (arith, a))), refl))

costs_second : Costs shared 0 2 1
costs_second = inr (inr (0, 0, 3, 0x0000000100000000, 0, finds_second, (λ (a, b). absurd (omega (arith, a))), refl))

costs_two_paths : CostOf shared ([] ∷ (Ptr 0 ∷ []) ∷ []) 3
costs_two_paths = (1, 0, 0, 2, 1, reaches_both, costs_both, (2, 0, 1, 1, 0, reaches_first, costs_first, refl, refl), refl)

none_deep : (p : List Step) (level s w : ℕ) → Reaches shared p level s w → ¬ IsDeepAt shared 2 s w level
none_deep p level s w r (k, t, b, q, tag, finds, tagged, past) =
    let within = paths_within_depth shared shared_tree 4 2 denotes_shared p level s w k t b q tag r finds tagged in
    omega (arith, within, past)

-- A word limit of 3 refuses the second pointer.
refused_shared : IsRefused shared 3 2 record { segment = 0; word = 2; reason = WordLimit; pointers = 3 }
refused_shared = inr (first_fault_kept fault (lit≤ tt) (λ p level s w i r. none_deep p level s w r) (lit≤ tt))
  where
    fault : IsFaultAt shared 3 2 (Ptr 1 ∷ []) record { segment = 0; word = 2; reason = WordLimit; pointers = 3 }
    fault = record {
      numbered = search (rules, reaches_second, tour_shared);
      before = [] ∷ (Ptr 0 ∷ []) ∷ [];
      charge = 3;
      whole = refl;
      costs = costs_two_paths;
      reason = is_past 1 refl (none_deep (Ptr 1 ∷ []) 2 0 2 reaches_second) costs_second (lit< tt);
    }

-- The places that they use
used_both : Occupies shared 0 0 ((0, 1) ∷ (0, 2) ∷ [])
used_both = (0x0002000000000000, refl, inr (inr (0, 0, 1, 0x0002000000000000, finds_both, refl)))

used_first : Occupies shared 0 1 ((0, 3) ∷ [])
used_first = (0x0000000100000004, refl, inr (inr (0, 0, 3, 0x0000000100000004, finds_first, refl)))

used_second : Occupies shared 0 2 ((0, 3) ∷ [])
used_second = (0x0000000100000000, refl, inr (inr (0, 0, 3, 0x0000000100000000, finds_second, refl)))

-- So the second uses a place of the first,
overlaps_second : Overlaps shared (Ptr 1 ∷ [])
overlaps_second = on_earlier (Ptr 0 ∷ []) (0, 3) (inl (lit< tt))
    (2, 0, 1, (0, 3) ∷ [], reaches_first, used_first, inl refl)
    (2, 0, 2, (0, 3) ∷ [], reaches_second, used_second, inl refl)

-- and neither the root nor the first uses one twice, or the root word's, or an earlier one's.
uses_of : (path : List Step) (level s w : ℕ) (places : List (ℕ × ℕ)) → Reaches shared path level s w → Occupies shared s w places
    → (level' s' w' : ℕ) (used : List (ℕ × ℕ)) → Reaches shared path level' s' w' → Occupies shared s' w' used → used ≡ places
uses_of path level s w places r x7 level' s' w' used r' occupied =
    grind (arith, common_steps, one_reached shared path level' level s' w' s w r' r, one_used)

apart_words : (w v : ℕ) → (w ≡ v → ⊥) → ◌≡◌ {A = ℕ × ℕ} (0, w) (0, v) → ⊥
apart_words w v n e = n (ap (λ (x : ℕ × ℕ). x.1) e)

root_alone : Overlaps shared [] → ⊥
root_alone h = search (rules, uses_of, reaches_both, used_both, apart_words)

-- a path before the first pointer's is the root's
before_first : (q : List Step) → Before q (Ptr 0 ∷ []) → IsOneOf q all_paths → q ≡ []
before_first q h k = search rules

-- and one before the second pointer's is the root's or the first's
before_second : (q : List Step) → Before q (Ptr 1 ∷ []) → IsOneOf q all_paths → (q ≡ []) ⊎ (q ≡ Ptr 0 ∷ [])
before_second q h k = search rules

not_third : (x : ℕ × ℕ) → IsOneOf x ((0, 1) ∷ (0, 2) ∷ []) → IsOneOf x ((0, 3) ∷ []) → ⊥
not_third x h k = search (rules, apart_words)

first_alone : Overlaps shared (Ptr 0 ∷ []) → ⊥
first_alone (twice level s w used r occupied n) = search (rules, uses_of, reaches_first, used_first)
first_alone (on_root (level, s, w, used, r, occupied, place)) =
    search (rules, uses_of, reaches_first, used_first, apart_words)
first_alone (on_earlier other x before (l, s, w, used, r, occupied, place) (l', s', w', used', r', occupied', place')) =
    search (rules, before_first, pointer_path_reached, denotes_shared, uses_of, reaches_both, used_both, reaches_first, used_first, not_third)

reached_of : (p : List Step) → Overlaps shared p → (level s w : ℕ) × Reaches shared p level s w
reached_of p (twice level s w used r occupied n) = (level, s, w, r)
reached_of p (on_root (level, s, w, used, r, occupied, place)) = (level, s, w, r)
reached_of p (on_earlier other x before u (level, s, w, used, r, occupied, place)) = (level, s, w, r)

-- The second pointer is the first that overlaps.
first_overlap : IsFirstOverlap shared 0 2 3
first_overlap = record {
  path = Ptr 1 ∷ [];
  numbered = record { level = 2; tour = all_paths; reached = reaches_second; is_tour = tour_shared; count = refl };
  first = record {
    holds = overlaps_second;
    first = λ other before overlaps.
        elim (before_second other before
        ((pointer_path_reached shared shared_tree 4 2 denotes_shared other).1 (reached_of other overlaps))) [
          | inl e ↦ root_alone (subst (Overlaps shared) e overlaps)
          | inr e ↦ first_alone (subst (Overlaps shared) e overlaps)
        ];
  };
}

-- The pointers on the path to the first: a budget of 5 words has 2 left,
on_first : AreOnPath shared (Ptr 0 ∷ []) ([] ∷ (Ptr 0 ∷ []) ∷ [])
on_first = listing.on_word shared [] ([] ∷ []) (Ptr 0) 2 0 1 (listing.on_root shared 0x0002000000000000 refl) reaches_first

charges_first : Charges shared 5 2 (Ptr 0 ∷ []) 2
charges_first = search (rules, on_first, costs_two_paths, none_deep)

-- and one of 2 words is past at the first.
fault_on_path : IsFaultOnPath shared 2 2 (Ptr 0 ∷ []) record { segment = 0; word = 1; reason = WordLimit; pointers = 2 }
fault_on_path = record {
  way = Ptr 0 ∷ [];
  begin = ([], refl);
  before = [] ∷ [];
  level = 2;
  charge = 2;
  reached = reaches_first;
  on_path = on_first;
  costs = (1, 0, 0, 2, 0, reaches_both, costs_both, refl, refl);
  within = lit≤ tt;
  shallow = λ p level s w i r. none_deep p level s w r;
  reason = is_past 1 refl (none_deep (Ptr 0 ∷ []) 2 0 1 reaches_first) costs_first (lit< tt);
  pointers = refl;
}
