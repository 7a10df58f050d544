-- Where a tree is charged its cost alone, no pointer has a landing pad.
use Rattle.cap_spec.specs.Denoting.{places}
use Rattle.cap_spec.specs.Tree.{none}
use Rattle.cap_spec.proofs.Canonical.TreeMeasures.{cost, costs, each_measured, element_costs, elements_measured, idle}
use Rattle.cap_spec.proofs.Canonical.TreeMeasures.{measured, scalars_extra, structs_extra}
use Rattle.cap_spec.proofs.Paths.Arrivals.{pointers_form, struct_form, structs_form}
use Rattle.cap_spec.proofs.Pointers.Following.{one_lead}
use Rattle.cap_spec.proofs.Pointers.Shapes.{pointers_extra, pointers_words, scalars_words, struct_extra, struct_words}
use Rattle.cap_spec.proofs.Pointers.Shapes.{structs_words}
use Rattle.cap_spec.proofs.ProofNames.{List, [], arith, inl, inr, length, pos, refl, subst, suc, sym, zero, ℕ, ◌*◌, ◌+◌}
use Rattle.cap_spec.proofs.ProofNames.{◌<◌, ◌∷◌, ◌≡◌, ◌≤◌, AreElements, DenoteEach, Denotes, FindsCharged, FindsKind}
use Rattle.cap_spec.proofs.ProofNames.{words_from, Lead, Leads, extra, to_object, segment_of, PathLeads, Spot, StepsTo}
use Rattle.cap_spec.proofs.ProofNames.{element, word, extent, kind, list_size, Tree, Trees, more, pointers, struct}
use Rattle.cap_spec.proofs.ProofNames.{structs, tree_count, Pointers, Struct, Structs, Step, Item, Ptr, rules}
use Rattle.cap_spec.proofs.Trees.Charges.{each_charged, elements_fit, length-places}
use Rattle.cap_spec.proofs.Trees.DenotedTrees.{elements_inside, range_length}
use Rattle.cap_spec.proofs.Trees.Finding.{one_found}
use Rattle.cap_spec.proofs.Trees.OneTree.{each_more}
use Rattle.cap_spec.proofs.Trees.Readings.{length-values}

-- what is at a spot is charged no more than its cost
abbrev pub Tight : List (List ℕ) → Spot → Tree → Type 0
Tight m (word s w) t = (c d : ℕ) × Denotes m s w t c d × (c ≤ cost t)
Tight m (element t b ds ps) (struct words ts) = (c d : ℕ) × DenoteEach m (places t (b + ds) ps) ts c d × (c ≤ costs ts)
Tight m (element t b ds ps) _ = ⊥

-- a charge of a cost and pads is no more than the cost where there are no pads
no_pads_left : (k x y i x' e c : ℕ) → c ≡ k + x + y + i → x ≡ x' → y ≡ 0 → e ≤ i → c ≤ x' + e → (k ≡ 0) × (i ≤ e)
no_pads_left k x y i x' e c e1 e2 e3 e4 e5 = (omega arith, omega arith)

-- the same of lists
no_pads_scalars : (k x y x' y' c : ℕ) → c ≡ k + x + y + 0 → x ≡ x' → y ≡ y' → c ≤ x' + y' → k ≡ 0
no_pads_scalars k x y x' y' c e1 e2 e3 e4 = omega arith

no_pads_structs : (k x y i l a y' e c : ℕ) → c ≡ k + x + y + i → x ≡ 1 + l → y ≡ y' → a ≤ l → e ≤ i → c ≤ 1 + a + y' + e
    → (k ≡ 0) × (i ≤ e)
no_pads_structs k x y i l a y' e c e1 e2 e3 e4 e5 e6 = (omega arith, omega arith)

-- a struct that is charged no more than its cost has no pads, and nor have its children
struct_tight : {m : List (List ℕ)} {s w k t b q tag ds ps inner deep c d : ℕ} (words : List ℕ) (ts : Trees)
    → FindsCharged m s w (Struct ds ps) k t b q tag inner deep c d → words ≡ words_from m t b ds
    → DenoteEach m (places t (b + ds) ps) ts inner deep → c ≤ cost (struct words ts)
    → (k ≡ 0) × (inner ≤ costs ts)
struct_tight {m} {s} {w} {k} {t} {b} {q} {tag} {ds} {ps} {inner} {deep} {c} {d} words ts f own each le =
    search (rules, struct_words, range_length, each_charged, length-places, each_measured, no_pads_left, struct_extra)

pointers_tight : {m : List (List ℕ)} {s w k t b q tag n inner deep c d : ℕ} (ts : Trees)
    → FindsCharged m s w (Pointers n) k t b q tag inner deep c d
    → DenoteEach m (places t b n) ts inner deep → c ≤ cost (pointers ts) → (k ≡ 0) × (inner ≤ costs ts)
pointers_tight {m} {s} {w} {k} {t} {b} {q} {tag} {n} {inner} {deep} {c} {d} ts f each le =
    search (rules, each_charged, length-places, each_measured, no_pads_left, pointers_words, pointers_extra)

structs_tight : {m : List (List ℕ)} {s w ds ps k t b q tag n inner deep c d : ℕ} (es : Trees)
    → FindsCharged m s w (Structs n ds ps) k t b q tag inner deep c d
    → AreElements m t (b + 1) ds ps n es inner deep → c ≤ cost (structs ds ps es)
    → (k ≡ 0) × (inner ≤ element_costs es)
structs_tight {m} {s} {w} {ds} {ps} {k} {t} {b} {q} {tag} {n} {inner} {deep} {c} {d} es f each le =
    let h = f.object.shape in
    let a = elements_measured m t (b + 1) ds ps n es inner deep (elements_inside f.object) each in
    let i : n * ds + n * ps ≤ list_size q = elements_fit f.object in
    let j : tree_count es * (ds + ps) ≤ list_size q = rw a.count (omega (arith, i)) in
    let y : extra q tag ≡ idle (ds + ps) (tree_count es) = rw a.count (structs_extra h) in
    no_pads_structs k (extent q) (extra q tag) inner (list_size q) (tree_count es * (ds + ps))
    (idle (ds + ps) (tree_count es)) (element_costs es) c
    f.charge (structs_words h) y j a.charged le

-- a word whose tree is charged no more than its cost leads there without pads
pub own_padless : (m : List (List ℕ)) (s w : ℕ) (t : Tree) (c d k : ℕ) (r : Lead) → Denotes m s w t c d → c ≤ cost t
    → Leads m s w k r → k ≡ 0
own_padless m s w (struct words ts) c d k r (k', t, b, q, tag, ds, ps, inner, deep, found, own, each) le l =
    let one = one_lead m s w k' k (to_object t (pos b) q) r found.object.finds.leads l in
    omega (arith, one, struct_tight words ts found own each le)
own_padless m s w (pointers ts) c d k r (k', t, b, q, tag, n, inner, deep, found, each) le l =
    let one = one_lead m s w k' k (to_object t (pos b) q) r found.object.finds.leads l in
    omega (arith, one, pointers_tight ts found each le)
own_padless m s w (structs ds ps es) c d k r (k', t, b, q, tag, n, inner, deep, found, each) le l =
    let one = one_lead m s w k' k (to_object t (pos b) q) r found.object.finds.leads l in
    omega (arith, one, structs_tight es found each le)
own_padless m s w x3 c d k r h le l =
    search (rules, one_lead, length-values, scalars_words, scalars_extra, no_pads_scalars)

-- a word of a row, where the row is charged no more than its cost
each_tight : (m : List (List ℕ)) (t b n : ℕ) (ts : Trees) (c d i x : ℕ) → DenoteEach m (places t b n) ts c d
    → c ≤ costs ts → i < n → x ≡ b + i
    → (u : Tree) × Tight m (word t x) u
each_tight m t b zero none c d i x h le lt e = absurd (omega arith)
each_tight m t b (suc n) none c d i x h le lt e = absurd (cc h.0)
each_tight m t b zero (more u ts) c d i x h le lt e = absurd (omega arith)
each_tight m t b (suc n) (more u ts) c d zero x h le lt e =
    let (c1, d1, c2, d2, own, after, charge, depth) = each_more m t b (places t (b + 1) n) u ts c d h in
    let f : x ≡ b = omega arith in
    let a = each_measured m (places t (b + 1) n) ts c2 d2 after in
    (u, (c1, d1, rw f own, omega (arith, charge, le, a.charged)))
each_tight m t b (suc n) (more u ts) c d (suc i) x h le lt e =
    let (c1, d1, c2, d2, own, after, charge, depth) = each_more m t b (places t (b + 1) n) u ts c d h in
    let a = measured m t b u c1 d1 own in
    each_tight m t (b + 1) n ts c2 d2 i x after (omega (arith, charge, le, a.charged))
    (omega arith) (omega arith)

-- the elements after the first lie inside too
elements_after : (b ds ps n n' l : ℕ) → b + n * ds + n * ps ≤ l → n ≡ suc n' → b + ds + ps + n' * ds + n' * ps ≤ l
elements_after b ds ps n n' l h e = search rules

-- an element, where the elements are charged no more than their cost
elements_tight : (m : List (List ℕ)) (t b ds ps n : ℕ) (es : Trees) (c d i x : ℕ)
    → b + n * ds + n * ps ≤ length (segment_of m t)
    → AreElements m t b ds ps n es c d → c ≤ element_costs es → i < n → x ≡ b + i * (ds + ps)
    → (u : Tree) × Tight m (element t x ds ps) u
elements_tight m t b ds ps n (more (struct ws ts) es) c d zero x inside h le lt e =
    let (fewer, c1, d1, c2, d2, counted, own, each, after, charge, depth) = h in
    let f : x ≡ b = omega arith in
    let later = elements_measured m t (b + ds + ps) ds ps fewer es c2 d2
    (elements_after b ds ps n fewer (length (segment_of m t)) inside counted) after in
    (struct ws ts, (c1, d1, rw f each, omega (arith, charge, le, later.charged)))
elements_tight m t b ds ps n (more (struct ws ts) es) c d (suc i) x inside h le lt e =
    let (fewer, c1, d1, c2, d2, counted, own', each, after, charge, depth) = h in
    let own = each_measured m (places t (b + ds) ps) ts c1 d1 each in
    elements_tight m t (b + ds + ps) ds ps fewer es c2 d2 i x
    (elements_after b ds ps n fewer (length (segment_of m t)) inside counted) after
    (omega (arith, charge, le, own.charged)) (omega (arith, lt, counted)) (omega (arith, e))
elements_tight m t b ds ps n x6 c d i x inside h le lt e = search rules

-- a step from a word to a struct's pointer, to an entry of a list of pointers, and to an element
to_pointer : (m : List (List ℕ)) (s w : ℕ) (x : Tree) (c d k t b q tag ds ps i : ℕ) → Denotes m s w x c d → c ≤ cost x
    → FindsKind m s w (Struct ds ps) k t b q tag → i < ps → (u : Tree) × Tight m (word t (b + ds + i)) u
to_pointer m s w (struct ws ts) c d k t b q tag ds ps i h le f lt =
    let (k', t', b', q', tag', ds', ps', inner, deep, found, own, each) = h in
    let o = one_found f found.object in
    let x : ds ≡ ds' = cc o.kind in
    let y : ps ≡ ps' = cc o.kind in
    let a = struct_tight ws ts found own each le in
    let r = each_tight m t' (b' + ds') ps' ts inner deep i (b + ds + i) each a.1 (rw (← y) lt) (rw (o.start, x) refl) in
    (r.0, subst (λ (y : ℕ). Tight m (word y (b + ds + i)) r.0) (sym o.segment) r.1)
to_pointer m s w x c d k t b q tag ds ps i h le f lt = absurd (omega (arith, struct_form x c d h f))

to_entry : (m : List (List ℕ)) (s w : ℕ) (x : Tree) (c d k t b q tag n i : ℕ) → Denotes m s w x c d → c ≤ cost x
    → FindsKind m s w (Pointers n) k t b q tag → i < n → (u : Tree) × Tight m (word t (b + i)) u
to_entry m s w (pointers ts) c d k t b q tag n i h le f lt =
    let (k', t', b', q', tag', n', inner, deep, found, each) = h in
    let o = one_found f found.object in
    let x : n ≡ n' = cc o.kind in
    let a = pointers_tight ts found each le in
    let r = each_tight m t' b' n' ts inner deep i (b + i) each a.1 (rw (← x) lt) (rw o.start refl) in
    (r.0, subst (λ (y : ℕ). Tight m (word y (b + i)) r.0) (sym o.segment) r.1)
to_entry m s w x c d k t b q tag n i h le f lt = absurd (omega (arith, pointers_form x c d h f))

-- an element by equal places
tight_moved : (m : List (List ℕ)) (t t' x ds ds' ps ps' : ℕ) (u : Tree) → t ≡ t' → ds ≡ ds' → ps ≡ ps'
    → Tight m (element t x ds ps) u → Tight m (element t' x ds' ps') u
tight_moved m t t' x ds ds' ps ps' u e f g h = rw (← e, ← f, ← g) h

to_element : (m : List (List ℕ)) (s w : ℕ) (x : Tree) (c d k t b q tag n ds ps i : ℕ) → Denotes m s w x c d → c ≤ cost x
    → FindsKind m s w (Structs n ds ps) k t b q tag → i < n
    → (u : Tree) × Tight m (element t (b + 1 + i * (ds + ps)) ds ps) u
to_element m s w (structs ds' ps' es) c d k t b q tag n ds ps i h le f lt =
    let (k', t', b', q', tag', n', inner, deep, found, each) = h in
    let o = one_found f found.object in
    let x : n ≡ n' = cc o.kind in
    let y : ds ≡ ds' = cc o.kind in
    let z : ps ≡ ps' = cc o.kind in
    let a = structs_tight es found each le in
    let r = elements_tight m t' (b' + 1) ds' ps' n' es inner deep i (b + 1 + i * (ds + ps))
    (elements_inside found.object) each a.1 (rw (← x) lt) (rw (o.start, y, z) refl) in
    (r.0, tight_moved m t' t (b + 1 + i * (ds + ps)) ds' ds ps' ps r.0 (sym o.segment) (sym y) (sym z) r.1)
to_element m s w x c d k t b q tag n ds ps i h le f lt = absurd (omega (arith, structs_form x c d h f))

-- a step from a spot that is charged no more than its cost leads to another one
step_tight : (m : List (List ℕ)) (a : Spot) (step : Step) (b : Spot) (x : Tree) → Tight m a x → StepsTo m a step b
    → (u : Tree) × Tight m b u
step_tight m (word s w) (Ptr i) b x h (k, t, b', q, tag, ds, ps, finds, less, ends) =
    let r = to_pointer m s w x h.0 h.1 k t b' q tag ds ps i h.2 h.3 finds less in
    (r.0, subst (λ (y : Spot). Tight m y r.0) (sym ends) r.1)
step_tight m (word s w) (Item i) b x h (inl (k, t, b', q, tag, n, finds, less, ends)) =
    let r = to_entry m s w x h.0 h.1 k t b' q tag n i h.2 h.3 finds less in
    (r.0, subst (λ (y : Spot). Tight m y r.0) (sym ends) r.1)
step_tight m (word s w) (Item i) b x h (inr (k, t, b', q, tag, n, ds, ps, finds, less, ends)) =
    let r = to_element m s w x h.0 h.1 k t b' q tag n ds ps i h.2 h.3 finds less in
    (r.0, subst (λ (y : Spot). Tight m y r.0) (sym ends) r.1)
step_tight m (element t b ds ps) (Ptr i) y (struct ws ts) h g =
    let r = each_tight m t (b + ds) ps ts h.0 h.1 i (b + ds + i) h.2 h.3 g.0 refl in
    (r.0, subst (λ (z : Spot). Tight m z r.0) (sym g.1) r.1)
step_tight m x1 x2 y x h g = search rules

-- and so does a path
pub walk_tight : (m : List (List ℕ)) (a : Spot) (path : List Step) (n : ℕ) (b : Spot) (x : Tree) → Tight m a x
    → PathLeads m a path n b → (u : Tree) × Tight m b u
walk_tight m a [] n b x h g = (x, subst (λ (y : Spot). Tight m y x) (sym g.1) h)
walk_tight m a (step ∷ path) n b x h (mid, below, goes, walks, level) =
    let r = step_tight m a step mid x h goes in
    walk_tight m mid path below b r.0 r.1 walks
