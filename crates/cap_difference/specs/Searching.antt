-- What a walk knows that looks for the first difference, and that null words change nothing of it (profile).
use Rattle.std.proofs.Common.{arith, inl, inr, refl, subst}
use Rattle.std.specs.Prelude.{List, length, ℕ, ◌+◌, ◌∷◌, ◌≡◌, ◌≢◌, ◌≤◌}
use Rattle.cap_spec.specs.Denoting.{Denotes}
use Rattle.cap_spec.specs.Following.{Leads, near, to_cap, to_null}
use Rattle.cap_spec.specs.Lists.{IsOneOf}
use Rattle.cap_spec.specs.Messages.{HasWord, segment_of}
use Rattle.cap_spec.specs.Paths.{Reaches, ReachesCap}
use Rattle.cap_spec.specs.Pointers.{kind}
use Rattle.cap_spec.specs.Tree.{Tree}
use Rattle.cap_spec.specs.Verdicts.{CostOf}
use Rattle.cap_spec.specs.declared.Step.{Step}
use Rattle.cap_spec.proofs.Frames.Messages.{one_word}
use Rattle.cap_spec.proofs.Paths.Walks.{one_reached}
use Rattle.cap_spec.proofs.Pointers.Following.{one_lead}
use Rattle.cap_canon.specs.InOrder.{IsInOrder}
use Rattle.cap_canon.specs.NullsInOrder.{null_in_order}
use Rattle.cap_canon.specs.StillToLay.{longest_copy}
use Rattle.cap_difference.specs.Differences.{DiffersAt, HasWordsBelow, HaveWords}
use Rattle.cap_difference.specs.Reasons.{PointerDiffers, in_object, is_capability, is_far}
use Rattle.cap_difference.specs.declared.reason.DifferenceReason.{DifferenceReason}

-- After these paths a copy of the message, which has one segment, ends at word `end`, and all their pointers are as it has them.
pub record IsSameSoFar (m : List (List ℕ)) (end : ℕ) (seen : List (List Step)) : Type 0 where
  pub one : length m ≡ 1
  pub words : ℕ
  pub have : HaveWords m seen words
  pub ends : end ≡ 1 + words
  pub same : (path : List Step) → IsOneOf path seen → ¬ DiffersAt m path

-- If the root denotes a tree, and the message isn't longer than a copy may be, each object is where a copy has it, and a copy
-- has the next one from end on.
abbrev pub IsCopiedSoFar : List (List ℕ) → ℕ → List (List Step) → Type 0
IsCopiedSoFar m end seen = (t : Tree) (c d : ℕ) → Denotes m 0 0 t c d → length (segment_of m 0) ≤ longest_copy → IsInOrder m end seen

-- The walk has looked at these paths, and found no difference and no capability. Their objects have no more words than following
-- their pointers costs.
pub record IsSearched (m : List (List ℕ)) (end : ℕ) (seen : List (List Step)) : Type 0 where
  pub same : IsSameSoFar m end seen
  pub no_caps : (path : List Step) → IsOneOf path seen → ¬ ReachesCap m path
  pub cost : ℕ
  pub costs : CostOf m seen cost
  pub few : end ≤ 1 + cost
  pub copied : IsCopiedSoFar m end seen

-- a word that leads to null doesn't differ, unless it is far
pub null_is_same : (m : List (List ℕ)) (s w end k p : ℕ) → HasWord m s w p → kind p ≢ 2 → Leads m s w k to_null
    → (reason : DifferenceReason) → ¬ PointerDiffers m s w end reason
null_is_same m s w end k p has isnt h reason (is_far e q hasq is) = isnt (subst (λ u. kind u ≡ 2) (one_word m s w q p hasq has) is)
null_is_same m s w end k p has isnt h reason (is_capability e k' i x) = let e = (one_lead m s w k k' _ _ h x).1 in cc
null_is_same m s w end k p has isnt h reason (in_object q k' t b u tag what hasq found x) = let e = (one_lead m s w k k' _ _ h found.finds.leads).1 in cc

-- a path doesn't differ if the word that it reaches doesn't
pub path_same : (m : List (List ℕ)) (p : List Step) (level s w : ℕ) → Reaches m p level s w
    → ((end : ℕ) (reason : DifferenceReason) → ¬ PointerDiffers m s w end reason) → ¬ DiffersAt m p
path_same m p level s w r none d =
    let o = one_reached m p d.level level d.segment d.word s w d.reached r in
    none d.end d.reason (subst (λ u. PointerDiffers m s u d.end d.reason) o.2 (subst (λ u. PointerDiffers m u d.word d.end d.reason) o.1 d.differs))

-- with one more path the same is known, if it doesn't differ
pub same_on : (m : List (List ℕ)) (end now n : ℕ) (seen : List (List Step)) (p : List Step) (level s w : ℕ) → Reaches m p level s w
    → HasWordsBelow m s w n → now ≡ end + n → ¬ DiffersAt m p → IsSameSoFar m end seen → IsSameSoFar m now (p ∷ seen)
same_on m end now n seen p level s w reached below e none k = record {
  one = k.one;
  words = n + k.words;
  have = (level, s, w, n, k.words, reached, below, k.have, refl);
  ends = omega (arith, e, k.ends);
  same = λ q i. elim i [ inl f ↦ (λ d. none (subst (DiffersAt m) f d)) | inr j ↦ k.same q j ];
}

-- a null word changes nothing
pub null_same : (m : List (List ℕ)) (end : ℕ) (seen : List (List Step)) (p : List Step) (level s w : ℕ) → Reaches m p level s w
    → HasWord m s w 0 → IsSameSoFar m end seen → IsSameSoFar m end (p ∷ seen)
null_same m end seen p level s w reached zero k =
    let lead : Leads m s w 0 to_null = near 0 zero (omega arith) refl refl in
    same_on m end end 0 seen p level s w reached (0, to_null, lead, refl) (omega arith)
    (path_same m p level s w reached (λ now. null_is_same m s w now 0 0 zero (λ e. (omega (arith, e))) lead)) k

-- one path more that leads to no capability
pub no_caps_on : (m : List (List ℕ)) (seen : List (List Step)) (p : List Step) (level s w : ℕ) → Reaches m p level s w
    → ((k i : ℕ) → ¬ Leads m s w k (to_cap i)) → ((path : List Step) → IsOneOf path seen → ¬ ReachesCap m path)
    → (path : List Step) → IsOneOf path (p ∷ seen) → ¬ ReachesCap m path
no_caps_on m seen p level s w reached none k q (inr i) h = k q i h
no_caps_on m seen p level s w reached none k q (inl e) (level', s', w', j, i, r, leads) =
    let o = one_reached m p level' level s' w' s w (subst (λ (u : List Step). Reaches m u level' s' w') e r) reached in
    none j i (subst (λ u. Leads m s u j (to_cap i)) o.2 (subst (λ u. Leads m u w' j (to_cap i)) o.1 leads))

null_no_cap : (m : List (List ℕ)) (s w k i : ℕ) → Leads m s w 0 to_null → Leads m s w k (to_cap i) → ⊥
null_no_cap m s w k i h x = let e = (one_lead m s w 0 k _ _ h x).1 in cc

-- so a null word changes nothing of all that the walk knows
pub null_searched : (m : List (List ℕ)) (end : ℕ) (seen : List (List Step)) (p : List Step) (level s w : ℕ) → Reaches m p level s w
    → HasWord m s w 0 → IsSearched m end seen → IsSearched m end (p ∷ seen)
null_searched m end seen p level s w reached zero k =
    let lead : Leads m s w 0 to_null = near 0 zero (λ e. omega (arith, e)) refl refl in record {
      same = null_same m end seen p level s w reached zero k.same;
      no_caps = no_caps_on m seen p level s w reached (λ j i. null_no_cap m s w j i lead) k.no_caps;
      cost = k.cost;
      costs = (level, s, w, 0, k.cost, reached, inl lead, k.costs, omega arith);
      few = k.few;
      copied = λ t c d h few. null_in_order m end seen p level s w reached zero (k.copied t c d h few);
    }
