-- Small messages that meet what the laws on trees, paths and verdicts ask.
use Rattle.cap_spec.specs.ObjectShapes.{is_structs}
use Rattle.cap_spec.specs.Tree.{none}
use Rattle.cap_spec.specs.declared.Reason.TheVariants.{NoRoot, Reserved}
use Rattle.cap_spec.specs.declared.Refusal.{Refusal}
use Rattle.cap_spec.proofs.Lemmas.{one_word, charge_is_cost, first_cap, pointer_path_reached, one_reached, one_lead}
use Rattle.cap_spec.proofs.Lemmas.{one_object, struct_found, first_fault_kept, refused_justified}
use Rattle.cap_spec.proofs.ProofNames.{List, [], arith, inl, inr, lit<, lit≤, refl, subst, sym, ℕ, ◌<◌, ◌∙◌, ◌∷◌}
use Rattle.cap_spec.proofs.ProofNames.{◌≡◌, ◌⊎◌, AllByRecursion, AreElements, DenoteEach, Denotes, Finds, IsFaultAt}
use Rattle.cap_spec.proofs.ProofNames.{IsFirstReason, rules}
use Rattle.cap_spec.proofs.ProofNames.{IsRefused, is_past, Condition, Wrong, near, rank, to_cap, to_null, to_object}
use Rattle.cap_spec.proofs.ProofNames.{IsOneOf, IsDisjoint, Occupies, Before, IsFirstCap, IsPlace, IsTour}
use Rattle.cap_spec.proofs.ProofNames.{Reaches, word, IsTree, Tree, cap, cap_count, more, pointer_count, struct, structs}
use Rattle.cap_spec.proofs.ProofNames.{CostOf, Justified, IsWord}
use Rattle.cap_spec.proofs.Trees.DenotedTrees.{denoted_is_tree}
use Rattle.cap_laws.specs.LawNames.{Reason, WordLimit, Step, Ptr}
use Rattle.cap_laws.proofs.LimitExamples.{finds_near, root_tour}

-- a struct of two pointers: to a struct of the word 7, and to capability 5
abbrev two_pointers : List (List ℕ)
two_pointers = (0x0002000000000000 ∷ 0x0000000100000004 ∷ 0x0000000500000003 ∷ 7 ∷ []) ∷ []

abbrev two_pointers_tree : Tree
two_pointers_tree = struct [] (more (struct (7 ∷ []) none) (more (cap 5) none))

-- what the root finds
finds_two : Finds two_pointers 0 0 0 0 1 0x0002000000000000
finds_two = finds_near refl (lit< tt) (λ e. omega (arith, e)) refl (lit< tt) (lit≤ tt) (λ (a, b). omega (arith, a))

-- and its first pointer
finds_seven : Finds two_pointers 0 1 0 0 3 0x0000000100000004
finds_seven = finds_near refl (lit< tt) (λ e. omega (arith, e)) refl (lit< tt) (lit≤ tt) (λ (a, b). omega (arith, a))

denotes_seven : Denotes two_pointers 0 1 (struct (7 ∷ []) none) 1 1
denotes_seven = search (rules, struct_found, finds_seven)

denotes_five : Denotes two_pointers 0 2 (cap 5) 0 0
denotes_five = (near 0x0000000500000003 refl (λ e. omega (arith, e)) ((refl, refl), refl) refl, refl)

denotes_both : DenoteEach two_pointers ((0, 1) ∷ (0, 2) ∷ []) (more (struct (7 ∷ []) none) (more (cap 5) none)) 1 1
denotes_both = (
  0,
  1,
  (0, 2) ∷ [],
  1,
  1,
  0,
  0,
  refl,
  denotes_seven,
  (0, 2, [], 0, 0, 0, 0, refl, denotes_five, (refl, refl, refl), refl, refl),
  refl,
  refl,
)

-- the root denotes the tree, at a charge of 3 and a depth of 2
denotes_two : Denotes two_pointers 0 0 two_pointers_tree 3 2
denotes_two = (
  0,
  0,
  1,
  0x0002000000000000,
  0,
  0,
  2,
  1,
  1,
  record { object = struct_found two_pointers 0 0 0 0 1 0x0002000000000000 finds_two refl; charge = refl; depth = refl },
  refl,
  denotes_both,
)

-- its words are words, so that it is a tree
words_two : AllByRecursion (AllByRecursion IsWord) two_pointers
words_two = ((lit< tt, (lit< tt, (lit< tt, (lit< tt, tt)))), tt)

is_tree_two : IsTree two_pointers_tree
is_tree_two = denoted_is_tree two_pointers words_two 0 0 two_pointers_tree 3 2 denotes_two

-- the second pointer is reached at level 2
reaches_five : Reaches two_pointers (Ptr 1 ∷ []) 2 0 2
reaches_five = search (rules, struct_found, finds_two)

-- three pointers, one capability, and a charge that is the cost of the paths
counts_two : (pointer_count two_pointers_tree ≡ 3) × (cap_count two_pointers_tree ≡ 1)
counts_two = (refl, refl)

costs_two : CostOf two_pointers ([] ∷ (Ptr 0 ∷ []) ∷ (Ptr 1 ∷ []) ∷ []) 3
costs_two = charge_is_cost two_pointers two_pointers_tree 3 2 denotes_two

-- the first capability is at the second pointer
first_cap_two : (s w : ℕ) × IsFirstCap two_pointers s w
first_cap_two = (first_cap two_pointers two_pointers_tree 3 2 denotes_two).0 refl

-- the tour up to the first pointer
tour_two : IsTour two_pointers (Ptr 0 ∷ []) ([] ∷ (Ptr 0 ∷ []) ∷ [])
tour_two = record {
  rising = (tt, tt);
  reached = λ q i. (pointer_path_reached two_pointers two_pointers_tree 3 2 denotes_two q).0 (wider q i);
  all = λ q level s w g before. search rules;
  none_after = after;
}
  where
    wider : (q : List Step) → IsOneOf q ([] ∷ (Ptr 0 ∷ []) ∷ []) → IsOneOf q ([] ∷ (Ptr 0 ∷ []) ∷ (Ptr 1 ∷ []) ∷ [])
    wider q (inl e) = inl e
    wider q (inr (inl e)) = inr (inl e)
    wider q (inr (inr e)) = absurd e

    after : (q : List Step) → IsOneOf q ([] ∷ (Ptr 0 ∷ []) ∷ []) → (q ≡ Ptr 0 ∷ []) ⊎ Before q (Ptr 0 ∷ [])
    after q (inl e) = inr (subst (λ (x : List Step). Before x (Ptr 0 ∷ [])) (sym e) tt)
    after q (inr (inl e)) = inl e
    after q (inr (inr e)) = absurd e

    late : (Ptr 1 ∷ [] ≡ Ptr 0 ∷ []) ⊎ Before (Ptr 1 ∷ []) (Ptr 0 ∷ []) → ⊥
    late (inl e) = cc e
    late (inr (inl e)) = omega (arith, e)
    late (inr (inr e)) = e.1

    upto : (q : List Step) → (q ≡ Ptr 0 ∷ []) ⊎ Before q (Ptr 0 ∷ [])
        → IsOneOf q ([] ∷ (Ptr 0 ∷ []) ∷ (Ptr 1 ∷ []) ∷ []) → IsOneOf q ([] ∷ (Ptr 0 ∷ []) ∷ [])
    upto q b (inl e) = inl e
    upto q b (inr (inl e)) = inr (inl e)
    upto q b (inr (inr (inl e))) = absurd ((search rules))
    upto q b (inr (inr (inr e))) = absurd e

-- the second pointer's object is the struct of one word at word 3
place_seven : IsPlace two_pointers (Ptr 0 ∷ []) 0 3 1
place_seven = (
  2,
  word 0 1,
  (
    0x0002000000000000,
    1,
    refl,
    (word 0 1, 0, (0, 0, 1, 0x0002000000000000, 0, 0, 2, struct_found two_pointers 0 0 0 0 1 0x0002000000000000 finds_two refl, lit< tt, refl), (refl, refl), refl),
    refl,
  ),
  (0, 0x0000000100000004, finds_seven, refl),
)

-- a word limit of none refuses the root, which costs two words
abbrev no_words : Refusal
no_words = record { segment = 0; word = 0; reason = WordLimit; pointers = 1 }

reaches_root : Reaches two_pointers [] 1 0 0
reaches_root = (0x0002000000000000, 0, refl, (refl, refl), refl)

past_no_words : IsFirstReason two_pointers 0 2 0 0 0 1 WordLimit
past_no_words = is_past 2 refl
    (λ (k, t, b, q, tag, finds, tagged, past). search rules)
    (inr (inr (0, 0, 1, 0x0002000000000000, 0, finds_two, (λ (a, b). absurd (omega (arith, a))), refl))) (lit< tt)

refused_no_words : IsRefused two_pointers 0 2 no_words
refused_no_words = inr (first_fault_kept fault (lit≤ tt) (λ p level s w i. absurd i) (lit≤ tt))
  where
    fault : IsFaultAt two_pointers 0 2 [] no_words
    fault = record {
      numbered = record { level = 1; tour = [] ∷ []; reached = reaches_root; is_tour = root_tour two_pointers reaches_root; count = refl };
      before = [];
      charge = 0;
      whole = refl;
      costs = refl;
      reason = past_no_words;
    }

justified_no_words : Justified two_pointers 0 2 no_words
justified_no_words = refused_justified two_pointers 0 2 no_words refused_no_words

-- a word of a reserved kind is refused for that
wrong_reserved : Wrong ((7 ∷ []) ∷ []) 0 0 Reserved
wrong_reserved = record { holds = (7, refl, inl (refl, (λ e. omega (arith, e)))); first = first }
  where
    first : (u : Reason) → rank u < 2 → Condition ((7 ∷ []) ∷ []) 0 0 u → ⊥
    first NoRoot l h = h
    first u l h = absurd (omega (arith, l))

-- a struct whose one pointer is the root word itself
abbrev round : List (List ℕ)
round = (0x00010000fffffffc ∷ []) ∷ []

finds_round : Finds round 0 0 0 0 0 0x00010000fffffffc
finds_round = finds_near refl (lit< tt) (λ e. omega (arith, e)) refl (lit< tt) (lit≤ tt) (λ (a, b). omega (arith, a))

-- the empty path reaches it, and so does a longer one
reaches_round : Reaches round [] 1 0 0
reaches_round = (0x00010000fffffffc, 0, refl, (refl, refl), refl)

reaches_round_again : Reaches round (Ptr 0 ∷ []) 2 0 0
reaches_round_again = search (rules, struct_found, finds_round)

-- a list of one struct of the word 9
abbrev one_element : List (List ℕ)
one_element = (0x0000000f00000001 ∷ 0x0000000100000004 ∷ 9 ∷ []) ∷ []

elements_one : AreElements one_element 0 2 1 0 1 (more (struct (9 ∷ []) none) none) 0 0
elements_one = (0, 0, 0, 0, 0, refl, refl, (refl, refl, refl), (refl, refl, refl), refl, refl)

denotes_one : Denotes one_element 0 0 (structs 1 0 (more (struct (9 ∷ []) none) none)) 2 2
denotes_one = (
  0,
  0,
  1,
  0x0000000f00000001,
  0x0000000100000004,
  1,
  0,
  0,
  record {
    object = record {
      finds = record {
        leads = near 0x0000000f00000001 refl (λ e. omega (arith, e))
            (lit< tt, (λ e. omega (arith, e)), refl, refl, refl) refl;
        inside = record {
          exists = lit< tt;
          inside = lit≤ tt;
          composite = λ x. (0x0000000100000004, refl, (refl, lit≤ tt));
        };
      };
      tagged = λ x. refl;
      shape = is_structs refl refl refl;
    };
    charge = refl;
    depth = refl;
  },
  elements_one,
)

-- a struct of one word, which no other pointer leads to
abbrev lone : List (List ℕ)
lone = (0x0000000100000000 ∷ 7 ∷ []) ∷ []

finds_lone : Finds lone 0 0 0 0 1 0x0000000100000000
finds_lone = finds_near refl (lit< tt) (λ e. omega (arith, e)) refl (lit< tt) (lit≤ tt) (λ (a, b). omega (arith, a))

denotes_lone : Denotes lone 0 0 (struct (7 ∷ []) none) 1 1
denotes_lone = search (rules, struct_found, finds_lone)

-- its one path is the empty one, to the root
root_alone : (path : List Step) (level s w : ℕ) → Reaches lone path level s w → (path ≡ []) × (s ≡ 0) × (w ≡ 0)
root_alone path level s w r =
    elim ((pointer_path_reached lone (struct (7 ∷ []) none) 1 1 denotes_lone path).1 (level, s, w, r)) [
      | inl e ↦
          let o = one_reached lone [] level 1 s w 0 0 (subst (λ (x : List Step). Reaches lone x level s w) e r)
          (0x0000000100000000, 0, refl, (refl, refl), refl) in (e, o.1, o.2)
      | inr e ↦ absurd e
    ]

-- and uses the place of the word
used_alone : (used : List (ℕ × ℕ)) → Occupies lone 0 0 used → used ≡ (0, 1) ∷ []
used_alone used h = search (rules, one_lead, to_null, to_object, to_cap, one_object, finds_lone, one_word)

used_on_path : (path : List Step) (level s w : ℕ) (used : List (ℕ × ℕ)) → Reaches lone path level s w
    → Occupies lone s w used → used ≡ (0, 1) ∷ []
used_on_path path level s w used r occupied = search rules

disjoint_lone : IsDisjoint lone
disjoint_lone = record {
  root = λ path (level, s, w, used, r, occupied, place).
      search (rules, used_on_path path level s w used r occupied);
  each = λ path level s w used r occupied. search (rules, used_on_path path level s w used r occupied);
  apart = λ path other x (level, s, w, used, r, occupied, place) (level', s', w', used', r', occupied', place').
      (root_alone path level s w r).0 ∙ sym (root_alone other level' s' w' r').0;
}
  where
    zero_not_one : ◌≡◌ {A = ℕ} 0 1 → ⊥
    zero_not_one e = omega (arith, e)
