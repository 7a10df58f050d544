-- The one canonical copy of an accepted message.
use Rattle.cap_spec.proofs.Lemmas.{layout_charged, first_cap, one_tree}
use Rattle.cap_spec.proofs.Paths.PathCounts.{caps_counted}
use Rattle.cap_spec.proofs.ProofNames.{common_steps, Err, List, None, Result, arith, eqb-true, false, length, refl}
use Rattle.cap_spec.proofs.ProofNames.{subst, sym, true, ℕ, ◌+◌, ◌<◌, ◌==◌, ◌^◌, ◌∙◌, ◌≡◌, ◌≢◌, ◌≤◌, false≢true, layout}
use Rattle.cap_spec.proofs.ProofNames.{trim, HasCopy, IsCanonical, Denotes, Leads, to_cap, IsOneOf, IsFirstCap, Reaches}
use Rattle.cap_spec.proofs.ProofNames.{Tree, cap_count, has_cap, rules}
use Rattle.cap_walk.specs.Reports.{IsFirstCapOf, IsReport}
use Rattle.cap_canon.specs.CanonNames.{CanonFault, Step, Report, HasTree}

-- a message with a capability has no copy
pub cap_no_copy : (m : List (List ℕ)) (s w : ℕ) (words : List ℕ) → IsFirstCap m s w → HasCopy m words → ⊥
cap_no_copy m s w words f h = search (rules, first_cap, false≢true)

bool_cases : {A : Type 0} (b : _) → (b ≡ true → A) → (b ≡ false → A) → A
bool_cases h f g = search rules

-- an accepted message has a tree
pub has_tree : (m : List (List ℕ)) (r : Report) (t : Tree) → IsReport m 268435456 256 r t → HasTree m r.depth
has_tree m r t k = record { tree = t; charge = r.charge; denotes = k.within.denotes; few = k.within.few_words; shallow = k.within.few_levels }

-- where no path leads to one, it has
pub has_copy : (m : List (List ℕ)) (r : Report) (t : Tree) → IsReport m 268435456 256 r t → r.first_cap ≡ None → HasCopy m (layout (trim t))
has_copy m r t k e = record { tree = t; charge = r.charge; depth = r.depth; denotes = k.within.denotes; no_caps = bool_cases (has_cap t) some (λ x. x); laid = refl }
  where
    none : IsFirstCapOf m None
    none = subst (IsFirstCapOf m) e k.first_cap

    some : has_cap t ≡ true → has_cap t ≡ false
    some h = (let f = (first_cap m t r.charge r.depth k.within.denotes).0 h in absurd (none f.2.path f.2.first.holds))

-- it has at most one word more than the charge
pub copy_charged : (m : List (List ℕ)) (t : Tree) (c d : ℕ) (words : List ℕ) → Denotes m 0 0 t c d → HasCopy m words → length words ≤ c + 1
copy_charged m t c d words h k = search (rules, one_tree, layout_charged)

-- it has as many words as the layout
pub copy_length : {m : List (List ℕ)} {words : List ℕ} (t : Tree) (c d : ℕ) → HasCopy m words → Denotes m 0 0 t c d → length words ≡ length (layout (trim t))
copy_length t c d k h = search (rules, one_tree)

-- the charge of an accepted message is below the greatest of an offset
pub few_charged : {m : List (List ℕ)} {r : Report} {t : Tree} (u : Tree) (c d : ℕ) → IsReport m 268435456 256 r t → Denotes m 0 0 u c d → c < 2 ^ 29
few_charged u c d k h = search (rules, one_tree)

-- words that are the layout of every tree that is denoted are the copy
pub copy_of : (m : List (List ℕ)) (words made : List ℕ) → HasCopy m words → ((t : Tree) (c d : ℕ) → Denotes m 0 0 t c d → made ≡ layout (trim t))
    → HasCopy m made
copy_of m words made k f = search rules

-- a message with a capability is not its own copy
pub not_with_caps : (m : List (List ℕ)) (r : Report) (t : Tree) → IsReport m 268435456 256 r t → r.caps ≢ 0 → IsCanonical m → ⊥
not_with_caps m r t k some h = search (rules, one_tree, bool_cases, eqb-true, false≢true)

-- equal faults, whatever the answers would be
pub same_fault : {A : Type 0} (f f' : CanonFault) → ◌≡◌ {A = Result A CanonFault} (Err f) (Err f') → f ≡ f'
same_fault f f' e = cc

member_some : (q : List Step) (ps : List (List Step)) → IsOneOf q ps → 0 < length ps
member_some q x2 i = grind (arith, common_steps)

-- no path of a tree without capabilities leads to one
pub no_cap_reached : (m : List (List ℕ)) (t : Tree) (c d : ℕ) (p : List Step) (level s w k i : ℕ) → Denotes m 0 0 t c d → has_cap t ≡ false
    → Reaches m p level s w → Leads m s w k (to_cap i) → ⊥
no_cap_reached m t c d p level s w k i h none reached leads =
    let (paths, _, count, exact) = caps_counted m t c d h in
    let some = member_some p paths ((exact p).1 (level, s, w, k, i, reached, leads)) in
    bool_cases (cap_count t == 0) (λ z. omega (arith, eqb_zero (cap_count t) z, count, some)) (λ z. false≢true (sym none ∙ rw z refl))
  where
    eqb_zero : (n : ℕ) → (n == 0) ≡ true → n ≡ 0
    eqb_zero n z = eqb-true n 0 z
