-- Where a spot has a tree, the steps from it are the tree's parts.
use Rattle.cap_spec.specs.Denoting.{places}
use Rattle.cap_spec.specs.Tree.{none}
use Rattle.cap_spec.proofs.Pointers.Following.{one_lead}
use Rattle.cap_spec.proofs.Pointers.Shapes.{pointers_shape, struct_shape, structs_shape}
use Rattle.cap_spec.proofs.ProofNames.{List, Some, [], ap, arith, inl, inr, refl, subst, suc, sym, zero, ℕ, ◌*◌, ◌+◌, ◌<◌}
use Rattle.cap_spec.proofs.ProofNames.{◌∙◌, ◌∷◌, ◌≡◌, AreElements, DenoteEach, Denotes, Finds, FindsKind, Lead, Leads}
use Rattle.cap_spec.proofs.ProofNames.{HasWord, PathLeads, ReachesSpot, Spot, StepsTo, element, level_of, word, code}
use Rattle.cap_spec.proofs.ProofNames.{kind, DenotesAt, Tree, Trees, more, node_at, part_at, pointers, struct, structs}
use Rattle.cap_spec.proofs.ProofNames.{tree_at, Pointers, Struct, Structs, Step, Item, Ptr, rules}
use Rattle.cap_spec.proofs.Trees.Finding.{one_found}
use Rattle.cap_spec.proofs.Trees.OneTree.{Formed, HasForm, cons_parts, each_more, formed, number_list, number_struct}

-- the tree of a word has the form of the object that the word finds
pub found_form : (m : List (List ℕ)) (s w : ℕ) (x : Tree) (c d k t b q : ℕ) → Denotes m s w x c d → Finds m s w k t b q
    → HasForm x (2 + kind q * (1 + code q))
found_form m s w x c d k t b q h f = search (rules, formed, one_lead)

-- the number of that form, by the kind of the object
pub struct_form : {m : List (List ℕ)} {s w k t b q tag ds ps : ℕ} (x : Tree) (c d : ℕ) → Denotes m s w x c d
    → FindsKind m s w (Struct ds ps) k t b q tag → HasForm x 2
struct_form {m} {s} {w} {k} {t} {b} {q} x c d h f =
    let e = number_struct (kind q) (code q) (struct_shape f.shape).kind in
    subst (HasForm x) e (found_form m s w x c d k t b q h f.finds)

-- a list's object has a number by its code
list_form : {m : List (List ℕ)} {s w k t b q : ℕ} (x : Tree) (c d y : ℕ) → Denotes m s w x c d
    → Finds m s w k t b q → kind q ≡ 1 → code q ≡ y → HasForm x (3 + y)
list_form {m} {s} {w} {k} {t} {b} {q} x c d y h f e g =
    subst (HasForm x) (number_list (kind q) (code q) e ∙ ap (λ u. 3 + u) g) (found_form m s w x c d k t b q h f)

pub pointers_form : {m : List (List ℕ)} {s w k t b q tag n : ℕ} (x : Tree) (c d : ℕ) → Denotes m s w x c d
    → FindsKind m s w (Pointers n) k t b q tag → HasForm x 9
pointers_form x c d h f = let a = pointers_shape f.shape in list_form x c d 6 h f.finds a.kind a.code

pub structs_form : {m : List (List ℕ)} {s w k t b q tag n ds ps : ℕ} (x : Tree) (c d : ℕ) → Denotes m s w x c d
    → FindsKind m s w (Structs n ds ps) k t b q tag → HasForm x 10
structs_form x c d h f = let a = structs_shape f.shape in list_form x c d 7 h f.finds a.kind a.code

-- a step from a word to a struct's pointer has a part of the tree at its end
each_at : (m : List (List ℕ)) (t b n : ℕ) (ts : Trees) (c d i x : ℕ) → DenoteEach m (places t b n) ts c d
    → i < n → x ≡ b + i
    → (u : Tree) × (tree_at ts i ≡ Some u) × (c' d' : ℕ) × Denotes m t x u c' d'
each_at m t b zero none c d i x h lt e = absurd (omega arith)
each_at m t b (suc n) none c d i x h lt e = absurd (cc h.0)
each_at m t b zero (more u ts) c d i x h lt e = absurd (omega arith)
each_at m t b (suc n) (more u ts) c d zero x h lt e =
    let r = each_more m t b (places t (b + 1) n) u ts c d h in
    let f : x ≡ b = omega arith in (u, refl, r.0, r.1, rw f r.4)
each_at m t b (suc n) (more u ts) c d (suc i) x h lt e =
    let r = each_more m t b (places t (b + 1) n) u ts c d h in
    each_at m t (b + 1) n ts r.2 r.3 i x r.5 (omega arith) (omega arith)

-- and each part of a list of trees is what one of the words denotes
each_of : (m : List (List ℕ)) (t b n : ℕ) (ts : Trees) (c d i x : ℕ) (u : Tree) → DenoteEach m (places t b n) ts c d
    → tree_at ts i ≡ Some u → x ≡ b + i
    → (i < n) × (c' d' : ℕ) × Denotes m t x u c' d'
each_of m t b (suc n) (more v ts) c d (suc i) x u h f e =
    let (s, w, rest, c1, d1, c2, d2, begins, denotes, after, charge, depth) = h in
    let p = cons_parts (t, b) (s, w) (places t (b + 1) n) rest begins in
    let r = each_of m t (b + 1) n ts c2 d2 i x u (rw p.1 after) f (omega arith) in
    (omega (arith, r.0), r.1, r.2, r.3)
each_of m t b n x4 c d i x u h f e = search (rules, cons_parts)

-- the elements of a struct list are its parts
elements_at : (m : List (List ℕ)) (t b ds ps n : ℕ) (es : Trees) (c d i x : ℕ) → AreElements m t b ds ps n es c d
    → i < n → x ≡ b + i * (ds + ps)
    → (u : Tree) × (tree_at es i ≡ Some u) × DenotesAt m (element t x ds ps) u
elements_at m t b ds ps n (more (struct ws ts) es) c d zero x h lt e =
    let (fewer, c1, d1, c2, d2, counted, own, each, after, charge, depth) = h in
    let f : x ≡ b = omega arith in
    (struct ws ts, refl, (c1, d1, rw f own, rw f each))
elements_at m t b ds ps n (more (struct ws ts) es) c d (suc i) x h lt e =
    let (fewer, c1, d1, c2, d2, counted, own, each, after, charge, depth) = h in
    elements_at m t (b + ds + ps) ds ps fewer es c2 d2 i x after (omega (arith, counted)) (omega arith)
elements_at m t b ds ps n x6 c d i x h lt e = search rules

elements_of : (m : List (List ℕ)) (t b ds ps n : ℕ) (es : Trees) (c d i x : ℕ) (u : Tree)
    → AreElements m t b ds ps n es c d → tree_at es i ≡ Some u → x ≡ b + i * (ds + ps)
    → (i < n) × DenotesAt m (element t x ds ps) u
elements_of m t b ds ps n (more (struct ws ts) es) c d (suc i) x u h f e =
    let (fewer, c1, d1, c2, d2, counted, own, each, after, charge, depth) = h in
    search (rules, elements_of m t (b + ds + ps) ds ps fewer es c2 d2 i x u after f (omega arith))
elements_of m t b ds ps n x6 c d i x u h f e = search rules

-- a word that finds a struct denotes a struct, whose children its pointer words denote
struct_at : (m : List (List ℕ)) (s w : ℕ) (x : Tree) (c d k t b q tag ds ps i : ℕ) → Denotes m s w x c d
    → FindsKind m s w (Struct ds ps) k t b q tag → i < ps
    → (u : Tree) × (part_at x (Ptr i) ≡ Some u) × DenotesAt m (word t (b + ds + i)) u
struct_at m s w (struct ws ts) c d k t b q tag ds ps i h f lt =
    let (k', t', b', q', tag', ds', ps', inner, deep, found, own, each) = h in
    let o = one_found f found.object in
    let x : ds ≡ ds' = cc o.kind in
    let y : ps ≡ ps' = cc o.kind in
    let r = each_at m t' (b' + ds') ps' ts inner deep i (b + ds + i) each (rw (← y) lt) (rw (o.start, x) refl) in
    (r.0, r.1, (r.2, r.3, subst (λ (y : ℕ). Denotes m y (b + ds + i) r.0 r.2 r.3) (sym o.segment) r.4))
struct_at m s w x c d k t b q tag ds ps i h f lt = absurd (omega (arith, struct_form x c d h f))

-- a word that finds a list of pointers denotes one, whose entries they denote
pointers_at : (m : List (List ℕ)) (s w : ℕ) (x : Tree) (c d k t b q tag n i : ℕ) → Denotes m s w x c d
    → FindsKind m s w (Pointers n) k t b q tag → i < n
    → (u : Tree) × (part_at x (Item i) ≡ Some u) × DenotesAt m (word t (b + i)) u
pointers_at m s w (pointers ts) c d k t b q tag n i h f lt =
    let (k', t', b', q', tag', n', inner, deep, found, each) = h in
    let o = one_found f found.object in
    let x : n ≡ n' = cc o.kind in
    let r = each_at m t' b' n' ts inner deep i (b + i) each (rw (← x) lt) (rw o.start refl) in
    (r.0, r.1, (r.2, r.3, subst (λ (y : ℕ). Denotes m y (b + i) r.0 r.2 r.3) (sym o.segment) r.4))
pointers_at m s w x c d k t b q tag n i h f lt = absurd (omega (arith, pointers_form x c d h f))

-- a tree at an element, by equal places
element_moved : (m : List (List ℕ)) (t t' x ds ds' ps ps' : ℕ) (u : Tree) → t ≡ t' → ds ≡ ds' → ps ≡ ps'
    → DenotesAt m (element t x ds ps) u → DenotesAt m (element t' x ds' ps') u
element_moved m t t' x ds ds' ps ps' u e f g h = rw (← e, ← f, ← g) h

-- a word that finds a composite list denotes a struct list, whose elements are in it
structs_at : (m : List (List ℕ)) (s w : ℕ) (x : Tree) (c d k t b q tag n ds ps i : ℕ) → Denotes m s w x c d
    → FindsKind m s w (Structs n ds ps) k t b q tag → i < n
    → (u : Tree) × (part_at x (Item i) ≡ Some u) × DenotesAt m (element t (b + 1 + i * (ds + ps)) ds ps) u
structs_at m s w (structs ds' ps' es) c d k t b q tag n ds ps i h f lt =
    let (k', t', b', q', tag', n', inner, deep, found, each) = h in
    let o = one_found f found.object in
    let x : n ≡ n' = cc o.kind in
    let y : ds ≡ ds' = cc o.kind in
    let z : ps ≡ ps' = cc o.kind in
    let r = elements_at m t' (b' + 1) ds' ps' n' es inner deep i (b + 1 + i * (ds + ps)) each (rw (← x) lt)
    (rw (o.start, y, z) refl) in
    (r.0, r.1, element_moved m t' t (b + 1 + i * (ds + ps)) ds' ds ps' ps r.0 (sym o.segment) (sym y) (sym z) r.2)
structs_at m s w x c d k t b q tag n ds ps i h f lt = absurd (omega (arith, structs_form x c d h f))

-- A step from a spot that has a tree leads to where the tree's part is.
pub step_to_part : (m : List (List ℕ)) (a : Spot) (step : Step) (b : Spot) (x : Tree)
    → DenotesAt m a x → StepsTo m a step b
    → (u : Tree) × (part_at x step ≡ Some u) × DenotesAt m b u
step_to_part m (word s w) (Ptr i) b x h (k, t, b', q, tag, ds, ps, finds, less, ends) =
    let r = struct_at m s w x h.0 h.1 k t b' q tag ds ps i h.2 finds less in
    (r.0, r.1, subst (λ (y : Spot). DenotesAt m y r.0) (sym ends) r.2)
step_to_part m (word s w) (Item i) b x h (inl (k, t, b', q, tag, n, finds, less, ends)) =
    let r = pointers_at m s w x h.0 h.1 k t b' q tag n i h.2 finds less in
    (r.0, r.1, subst (λ (y : Spot). DenotesAt m y r.0) (sym ends) r.2)
step_to_part m (word s w) (Item i) b x h (inr (k, t, b', q, tag, n, ds, ps, finds, less, ends)) =
    let r = structs_at m s w x h.0 h.1 k t b' q tag n ds ps i h.2 finds less in
    (r.0, r.1, subst (λ (y : Spot). DenotesAt m y r.0) (sym ends) r.2)
step_to_part m (element t b ds ps) (Ptr i) y (struct ws ts) (c, d, own, each) g =
    let r = each_at m t (b + ds) ps ts c d i (b + ds + i) each g.0 refl in
    (r.0, r.1, subst (λ (z : Spot). DenotesAt m z r.0) (sym g.1) (r.2, r.3, r.4))
step_to_part m x1 x2 y x h g = search rules

-- Each part of the tree of a spot is where a step leads.
pub part_to_step : (m : List (List ℕ)) (a : Spot) (step : Step) (x u : Tree) → DenotesAt m a x → part_at x step ≡ Some u
    → (b : Spot) × StepsTo m a step b × DenotesAt m b u
part_to_step m (word s w) (Ptr i) (struct ws ts) u h e =
    let (k, t, b, q, tag, ds, ps, inner, deep, found, own, each) = h.2 in
    let r = each_of m t (b + ds) ps ts inner deep i (b + ds + i) u each e refl in
    (word t (b + ds + i), (k, t, b, q, tag, ds, ps, found.object, r.0, refl), (r.1, r.2, r.3))
part_to_step m (word s w) (Item i) (pointers ts) u h e =
    let (k, t, b, q, tag, n, inner, deep, found, each) = h.2 in
    let r = each_of m t b n ts inner deep i (b + i) u each e refl in
    (word t (b + i), inl (k, t, b, q, tag, n, found.object, r.0, refl), (r.1, r.2, r.3))
part_to_step m (word s w) (Item i) (structs ds ps es) u h e =
    let (k, t, b, q, tag, n, inner, deep, found, each) = h.2 in
    let r = elements_of m t (b + 1) ds ps n es inner deep i (b + 1 + i * (ds + ps)) u each e refl in
    (element t (b + 1 + i * (ds + ps)) ds ps, inr (k, t, b, q, tag, n, ds, ps, found.object, r.0, refl), r.1)
part_to_step m (element t b ds ps) (Ptr i) (struct ws ts) u (c, d, own, each) e =
    let r = each_of m t (b + ds) ps ts c d i (b + ds + i) u each e refl in
    (word t (b + ds + i), (r.0, refl), (r.1, r.2, r.3))
part_to_step m x1 step x u h e = search rules

-- the node after one step
node_after : (x u : Tree) (step : Step) (path : List Step) → part_at x step ≡ Some u
    → node_at x (step ∷ path) ≡ node_at u path
node_after x u step path e = rw e refl

-- Where a path leads from a spot that has a tree, the tree's node at the path is.
pub path_to_node : (m : List (List ℕ)) (a : Spot) (path : List Step) (n : ℕ) (b : Spot) (x : Tree) → DenotesAt m a x
    → PathLeads m a path n b
    → (u : Tree) × (node_at x path ≡ Some u) × DenotesAt m b u
path_to_node m a [] n b x h g = (x, refl, subst (λ (y : Spot). DenotesAt m y x) (sym g.1) h)
path_to_node m a (step ∷ path) n b x h (mid, below, goes, walks, level) =
    let r = step_to_part m a step mid x h goes in
    let z = path_to_node m mid path below b r.0 r.2 walks in
    (z.0, node_after x r.0 step path r.1 ∙ z.1, z.2)

-- a node after one step is a node of a part
pub node_parts : (x u : Tree) (step : Step) (path : List Step) → node_at x (step ∷ path) ≡ Some u
    → (v : Tree) × (part_at x step ≡ Some v) × (node_at v path ≡ Some u)
node_parts x u step path e = search rules

-- Each node of the tree of a spot is where its path leads.
pub node_to_path : (m : List (List ℕ)) (a : Spot) (path : List Step) (x u : Tree) → DenotesAt m a x
    → node_at x path ≡ Some u
    → (n : ℕ) × (b : Spot) × PathLeads m a path n b × DenotesAt m b u
node_to_path m a [] x u h e = let y : x ≡ u = cc e in (0, a, (refl, refl), subst (λ (z : Tree). DenotesAt m a z) y h)
node_to_path m a (step ∷ path) x u h e =
    let r = node_parts x u step path e in
    let z = part_to_step m a step x r.0 h r.1 in
    let g = node_to_path m z.0 path r.0 u z.2 r.2 in
    (level_of z.0 + g.0, g.1, (z.0, g.0, z.1, g.2, refl), g.3)

-- a word that leads to some place is there
pub lead_word : (m : List (List ℕ)) (s w k : ℕ) (r : Lead) → Leads m s w k r → (p : ℕ) × HasWord m s w p
lead_word m s w k r x5 = search rules

-- Where the root denotes a tree, a path comes to where the tree's node at the path is,
pub coming_to_node : (m : List (List ℕ)) (x : Tree) (c d : ℕ) → Denotes m 0 0 x c d
    → (path : List Step) (level : ℕ) (spot : Spot) → ReachesSpot m path level spot
    → (u : Tree) × (node_at x path ≡ Some u) × DenotesAt m spot u
coming_to_node m x c d h path level spot g = path_to_node m (word 0 0) path g.1 spot x (c, d, h) g.3

-- and each node of the tree is where its path comes to.
pub node_to_coming : (m : List (List ℕ)) (x : Tree) (c d : ℕ) → Denotes m 0 0 x c d → (path : List Step) (u : Tree)
    → node_at x path ≡ Some u
    → (level : ℕ) × (spot : Spot) × ReachesSpot m path level spot × DenotesAt m spot u
node_to_coming m x c d h path u e =
    let f : Formed m 0 0 x = formed m 0 0 x c d h in
    let p = lead_word m 0 0 f.k f.r f.leads in
    let r = node_to_path m (word 0 0) path x u (c, d, h) e in
    (1 + r.0, r.1, (p.0, r.0, p.1, r.2, refl), r.3)
