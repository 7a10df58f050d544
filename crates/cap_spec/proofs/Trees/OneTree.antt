-- A pointer word denotes at most one tree, at one charge and one depth.
use Rattle.std.proofs.Common.{List, ap, arith, max, pos, refl, subst, sym, ℕ, ◌*◌, ◌+◌, ◌<◌, ◌∙◌, ◌∷◌, ◌≡◌, ◌≤◌}
use Rattle.cap_spec.specs.Denoting.{AreElements, DenoteEach, Denotes, places}
use Rattle.cap_spec.specs.Following.{Lead, Leads, to_cap, to_null, to_object}
use Rattle.cap_spec.specs.Pointers.{code, kind}
use Rattle.cap_spec.specs.Tree.{Tree, Trees, cap, more, none, null, pointers, scalars, struct, structs}
use Rattle.cap_spec.proofs.Pointers.Following.{one_lead}
use Rattle.cap_spec.proofs.Pointers.Shapes.{pointers_shape, scalars_shape, struct_shape, structs_shape}
use Rattle.cap_spec.proofs.Trees.Finding.{charged_same, one_found}
use Rattle.cap_spec.proofs.ProofNames.{rules, common_steps}

-- what is the same of two trees, or of two lists of trees
pub record Same {A : Type 0} (t t' : A) (c c' d d' : ℕ) : Type 0 where
  pub part : t ≡ t'
  pub charge : c ≡ c'
  pub depth : d ≡ d'

-- a number for each form of a lead
abbrev pub form_of : Lead → ℕ
form_of to_null = 0
form_of (to_cap i) = 1
form_of (to_object t b q) = 2 + kind q * (1 + code q)

-- the number of the form that a tree asks of the lead
abbrev pub HasForm : Tree → ℕ → Type 0
HasForm null n = n ≡ 0
HasForm (cap i) n = n ≡ 1
HasForm (struct words ts) n = n ≡ 2
HasForm (scalars e values) n = (3 ≤ n) × (n < 9)
HasForm (pointers ts) n = n ≡ 9
HasForm (structs d p es) n = n ≡ 10

-- a lead of the form that the tree asks
pub record Formed (m : List (List ℕ)) (s w : ℕ) (t : Tree) : Type 0 where
  pub k : ℕ
  pub r : Lead
  pub leads : Leads m s w k r
  pub form : HasForm t (form_of r)

-- the numbers of a struct and of a list
pub number_struct : (x y : ℕ) → x ≡ 0 → 2 + x * (1 + y) ≡ 2
number_struct x y e = rw e (omega arith)

pub number_list : (x y : ℕ) → x ≡ 1 → 2 + x * (1 + y) ≡ 3 + y
number_list x y e = rw e (omega arith)

-- what a word denotes has the form of what it leads to
pub formed : (m : List (List ℕ)) (s w : ℕ) (t : Tree) (c d : ℕ) → Denotes m s w t c d → Formed m s w t
formed m s w (struct words ts) c d (k, t, b, q, tag, ds, ps, inner, deep, found, own, each) =
    let x = struct_shape found.object.shape in
    record {
      k = k;
      r = to_object t (pos b) q;
      leads = found.object.finds.leads;
      form = number_struct (kind q) (code q) x.kind;
    }
formed m s w (scalars e values) c d (k, t, b, q, tag, n, found, own) =
    let x = scalars_shape found.object.shape in
    let y : 2 + kind q * (1 + code q) ≡ 3 + code q = number_list (kind q) (code q) x.kind in
    record {
      k = k;
      r = to_object t (pos b) q;
      leads = found.object.finds.leads;
      form = (omega (arith, y, x.scalar, x.code), omega (arith, y, x.scalar, x.code));
    }
formed m s w (pointers ts) c d (k, t, b, q, tag, n, inner, deep, found, each) =
    let x = pointers_shape found.object.shape in
    let y : 2 + kind q * (1 + code q) ≡ 3 + code q = number_list (kind q) (code q) x.kind in
    record { k = k; r = to_object t (pos b) q; leads = found.object.finds.leads; form = y ∙ ap (λ u. 3 + u) x.code }
formed m s w (structs ds ps es) c d (k, t, b, q, tag, n, inner, deep, found, each) =
    let x = structs_shape found.object.shape in
    let y : 2 + kind q * (1 + code q) ≡ 3 + code q = number_list (kind q) (code q) x.kind in
    record { k = k; r = to_object t (pos b) q; leads = found.object.finds.leads; form = y ∙ ap (λ u. 3 + u) x.code }
formed m s w x3 c d h = search rules

-- two trees of one word have one number
same_form : (m : List (List ℕ)) (s w : ℕ) (t t' : Tree) (c d c' d' : ℕ) → Denotes m s w t c d → Denotes m s w t' c' d'
    → (n : ℕ) × HasForm t n × HasForm t' n
same_form m s w t t' c d c' d' h h' =
    let f : Formed m s w t = formed m s w t c d h in
    let g : Formed m s w t' = formed m s w t' c' d' h' in
    let e = one_lead m s w f.k g.k f.r g.r f.leads g.leads in
    (form_of f.r, f.form, rw e.1 g.form)

-- the parts of equal lists
pub cons_parts : {A : Type 0} (x y : A) (xs ys : List A) → x ∷ xs ≡ y ∷ ys → (x ≡ y) × (xs ≡ ys)
cons_parts x y xs ys e = (cc, cc)

-- what the first of some words denotes, and what the others do
pub each_more : (m : List (List ℕ)) (s w : ℕ) (ps : List (ℕ × ℕ)) (t : Tree) (ts : Trees) (c d : ℕ)
    → DenoteEach m ((s, w) ∷ ps) (more t ts) c d
    → (c1 d1 c2 d2 : ℕ) × Denotes m s w t c1 d1 × DenoteEach m ps ts c2 d2 × (c ≡ c1 + c2) × (d ≡ max d1 d2)
each_more m s w ps t ts c d h = search (rules, cons_parts)

-- what one more tree adds
each_same : (t t' : Tree) (ts ts' : Trees) (c1 d1 c2 d2 c d c1' d1' c2' d2' c' d' : ℕ) → Same t t' c1 c1' d1 d1'
    → Same ts ts' c2 c2' d2 d2'
    → c ≡ c1 + c2 → d ≡ max d1 d2 → c' ≡ c1' + c2' → d' ≡ max d1' d2' → Same (more t ts) (more t' ts') c c' d d'
each_same t t' ts ts' c1 d1 c2 d2 c d c1' d1' c2' d2' c' d' a b e1 e2 e3 e4 = search rules

-- what one more element adds
elements_same : (ws ws' : List ℕ) (ts ts' es es' : Trees) (c1 d1 c2 d2 c d c1' d1' c2' d2' c' d' : ℕ) → ws ≡ ws'
    → Same ts ts' c1 c1' d1 d1' → Same es es' c2 c2' d2 d2'
    → c ≡ c1 + c2 → d ≡ max d1 d2 → c' ≡ c1' + c2' → d' ≡ max d1' d2'
    → Same (more (struct ws ts) es) (more (struct ws' ts') es') c c' d d'
elements_same ws ws' ts ts' es es' c1 d1 c2 d2 c d c1' d1' c2' d2' c' d' e a b e1 e2 e3 e4 = search rules

-- elements at equal places
pub elements_moved : (m : List (List ℕ)) (es : Trees) (t x ds ps n c d t' x' ds' ps' n' : ℕ) → t ≡ t' → x ≡ x'
    → ds ≡ ds' → ps ≡ ps' → n ≡ n'
    → AreElements m t' x' ds' ps' n' es c d → AreElements m t x ds ps n es c d
elements_moved m es t x ds ps n c d t' x' ds' ps' n' e1 e2 e3 e4 e5 h = rw (e1, e2, e3, e4, e5) h

mutual
  -- what a pointer word denotes is one tree, with one charge and one depth
  pub one_tree : (m : List (List ℕ)) (s w : ℕ) (t t' : Tree) (c d c' d' : ℕ) → Denotes m s w t c d
      → Denotes m s w t' c' d' → Same t t' c c' d d'
  one_tree m s w null null c d c' d' h h' =
      let o = one_lead m s w c c' to_null to_null h.0 h'.0 in
      record { part = refl; charge = o.0; depth = h.1 ∙ sym h'.1 }
  one_tree m s w (cap i) (cap i') c d c' d' h h' =
      let o = one_lead m s w c c' (to_cap i) (to_cap i') h.0 h'.0 in
      let e : i ≡ i' = cc o.1 in
      record { part = ap cap e; charge = o.0; depth = h.1 ∙ sym h'.1 }
  one_tree m s w (struct ws ts) (struct ws' ts') c d c' d' h h' =
      let (k, t, b, q, tag, ds, ps, inner, deep, found, own, each) = h in
      let (k', t', b', q', tag', ds', ps', inner', deep', found', own', each') = h' in
      let o = one_found found.object found'.object in
      let x : ds ≡ ds' = cc o.kind in
      let y : ps ≡ ps' = cc o.kind in
      let e : ws ≡ ws' = own ∙ rw (o.segment, o.start, x) refl ∙ sym own' in
      let same : Same ts ts' inner inner' deep deep' =
      one_each m (places t (b + ds) ps) (places t' (b' + ds') ps') (rw (o.segment, o.start, x, y) refl)
      ts ts' inner deep inner' deep' each each' in
      let z = charged_same found found' same.charge same.depth in
      record { part = rw (e, same.part) refl; charge = z.0; depth = z.1 }
  one_tree m s w (scalars e vs) (scalars e' vs') c d c' d' h h' =
      let (k, t, b, q, tag, n, found, own) = h in
      let (k', t', b', q', tag', n', found', own') = h' in
      let o = one_found found.object found'.object in
      let x : e ≡ e' = cc o.kind in
      let y : n ≡ n' = cc o.kind in
      let z = charged_same found found' refl refl in
      record { part = rw x (ap (scalars e') (own ∙ rw (o.segment, o.start, x, y) refl ∙ sym own')); charge = z.0; depth = z.1 }
  one_tree m s w (pointers ts) (pointers ts') c d c' d' h h' =
      let (k, t, b, q, tag, n, inner, deep, found, each) = h in
      let (k', t', b', q', tag', n', inner', deep', found', each') = h' in
      let o = one_found found.object found'.object in
      let x : n ≡ n' = cc o.kind in
      let same : Same ts ts' inner inner' deep deep' =
      one_each m (places t b n) (places t' b' n') (rw (o.segment, o.start, x) refl)
      ts ts' inner deep inner' deep' each each' in
      let z = charged_same found found' same.charge same.depth in
      record { part = rw same.part refl; charge = z.0; depth = z.1 }
  one_tree m s w (structs ds ps es) (structs ds' ps' es') c d c' d' h h' =
      let (k, t, b, q, tag, n, inner, deep, found, each) = h in
      let (k', t', b', q', tag', n', inner', deep', found', each') = h' in
      let o = one_found found.object found'.object in
      let x : ds ≡ ds' = cc o.kind in
      let y : ps ≡ ps' = cc o.kind in
      let v : n ≡ n' = cc o.kind in
      let same : Same es es' inner inner' deep deep' =
      one_elements m t (b + 1) ds ps n n refl es es' inner deep inner' deep' each
      (elements_moved m es' t (b + 1) ds ps n inner' deep' t' (b' + 1) ds' ps' n' o.segment
      (ap (λ u. u + 1) o.start) x y v each') in
      let z = charged_same found found' same.charge same.depth in
      record { part = rw (x, y, same.part) refl; charge = z.0; depth = z.1 }
  one_tree m s w t t' c d c' d' h h' =
      let f = same_form m s w t t' c d c' d' h h' in absurd (omega (arith, f.1, f.2))

  -- what the pointer words at places denote
  pub one_each : (m : List (List ℕ)) (ps ps' : List (ℕ × ℕ)) → ps ≡ ps' → (ts ts' : Trees) (c d c' d' : ℕ)
      → DenoteEach m ps ts c d → DenoteEach m ps' ts' c' d' → Same ts ts' c c' d d'
  one_each m ps ps' e none none c d c' d' h h' = grind (arith, common_steps)
  one_each m ps ps' e none (more t' ts') c d c' d' h h' = absurd cc
  one_each m ps ps' e (more t ts) none c d c' d' h h' = absurd cc
  one_each m ps ps' e (more t ts) (more t' ts') c d c' d' h h' =
      let (s, w, rest, c1, d1, c2, d2, begins, denotes, after, charge, depth) = h in
      let (s', w', rest', c1', d1', c2', d2', begins', denotes', after', charge', depth') = h' in
      let p = cons_parts (s, w) (s', w') rest rest' (sym begins ∙ e ∙ begins') in
      each_same t t' ts ts' c1 d1 c2 d2 c d c1' d1' c2' d2' c' d'
      (one_tree m s w t t' c1 d1 c1' d1' denotes
      (subst (λ (x : ℕ × ℕ). Denotes m x.0 x.1 t' c1' d1') (sym p.0) denotes'))
      (one_each m rest rest' p.1 ts ts' c2 d2 c2' d2' after after') charge depth charge' depth'

  -- the elements of a struct list
  pub one_elements : (m : List (List ℕ)) (t b ds ps n n' : ℕ) → n ≡ n' → (es es' : Trees) (c d c' d' : ℕ)
      → AreElements m t b ds ps n es c d → AreElements m t b ds ps n' es' c' d' → Same es es' c c' d d'
  one_elements m t b ds ps n n' e none none c d c' d' h h' = grind (arith, common_steps)
  one_elements m t b ds ps n n' e none (more (struct ws' ts') es') c d c' d' h h' = absurd (omega arith)
  one_elements m t b ds ps n n' e (more (struct ws ts) es) none c d c' d' h h' = absurd (omega arith)
  one_elements m t b ds ps n n' e (more (struct ws ts) es) (more (struct ws' ts') es') c d c' d' h h' =
      let (fewer, c1, d1, c2, d2, counted, own, each, after, charge, depth) = h in
      let (fewer', c1', d1', c2', d2', counted', own', each', after', charge', depth') = h' in
      let same = one_each m (places t (b + ds) ps) (places t (b + ds) ps) refl ts ts' c1 d1 c1' d1' each each' in
      let rest = one_elements m t (b + ds + ps) ds ps fewer fewer' (omega (arith, counted, counted')) es es'
      c2 d2 c2' d2' after after' in
      grind (arith, common_steps, elements_same)
  one_elements m t b ds ps n n' e none (more x es') c d c' d' h h' = absurd h'
  one_elements m t b ds ps n n' e (more (struct ws ts) es) (more x es') c d c' d' h h' = absurd h'
  one_elements m t b ds ps n n' e (more x es) es' c d c' d' h h' = absurd h
