-- What is left of the elements of a list of structs.
use Rattle.cap_spec.specs.Denoting.{places}
use Rattle.cap_spec.specs.Tree.{none}
use Rattle.cap_spec.proofs.Lemmas.{tree_count-take_le, tree_count-trim_all}
use Rattle.cap_spec.proofs.ProofNames.{List, arith, max, refl, suc, take, take-take, ℕ, ◌*◌, ◌+◌, ◌-◌, ◌<◌, ◌≡◌, ◌≤◌}
use Rattle.cap_spec.proofs.ProofNames.{children_needed, children_of, cut_elements, data_of, take_trees, trim_all}
use Rattle.cap_spec.proofs.ProofNames.{trim_elements, AreElements, DenoteEach, words_from, Trees, more, struct, rules}
use Rattle.cap_canon.specs.CanonNames.{AreElementsLeft, AreLeft, most_data}
use Rattle.cap_canon.proofs.Children.{row_count, row_needed, row_parts}
use Rattle.cap_canon.proofs.Needed.{most_on}

-- the first of several elements, and the others
pub record FirstElement (m : List (List ℕ)) (t b ds ps n : ℕ) (ws : List ℕ) (ts es : Trees) (c d : ℕ) : Type 0 where
  pub others : ℕ
  pub c1 : ℕ
  pub d1 : ℕ
  pub c2 : ℕ
  pub d2 : ℕ
  pub many : n ≡ suc others
  pub data_words : ws ≡ words_from m t b ds
  pub children : DenoteEach m (places t (b + ds) ps) ts c1 d1
  pub rest : AreElements m t (b + ds + ps) ds ps others es c2 d2
  pub depth : d ≡ max d1 d2

pub element_parts : (m : List (List ℕ)) (t b ds ps n : ℕ) (ws : List ℕ) (ts es : Trees) (c d : ℕ) → AreElements m t b ds ps n (more (struct ws ts) es) c d
    → FirstElement m t b ds ps n ws ts es c d
element_parts m t b ds ps n ws ts es c d h = search rules

-- the data words that no element can do without, as they are
pub most_data_of : (m : List (List ℕ)) (t b ds ps n : ℕ) (es : Trees) (c d : ℕ) → AreElements m t b ds ps n es c d → most_data m t b ds ps n ≡ data_of es
most_data_of m t b ds ps n (more (struct ws ts) es) c d h =
    let k = element_parts m t b ds ps n ws ts es c d h in
    search (rules, most_data_of m t (b + ds + ps) ds ps k.others es k.c2 k.d2 k.rest)
most_data_of m t b ds ps n es c d h = search rules

-- no element needs more children than it has
pub children_within : (m : List (List ℕ)) (t b ds ps n : ℕ) (es : Trees) (c d : ℕ) → AreElements m t b ds ps n es c d → children_of es ≤ ps
children_within m t b ds ps n (more (struct ws ts) es) c d h =
    let k = element_parts m t b ds ps n ws ts es c d h in
    omega (arith, row_needed m t (b + ds) ps ts k.c1 k.d1 k.children, children_within m t (b + ds + ps) ds ps k.others es k.c2 k.d2 k.rest)
children_within m t b ds ps n es c d h = search rules

-- a turn of the loop over elements, at the one after the first i
pub record ChildrenSeen (m : List (List ℕ)) (s start at ds ps count i most : ℕ) : Type 0 where
  pub place : at ≡ start + i * (ds + ps)
  pub within : most ≤ ps
  pub rest : (es : Trees) (c d : ℕ) → AreElements m s start ds ps count es c d
      → (fs : Trees) × (c' d' : ℕ) × AreElements m s at ds ps (count - i) fs c' d' × (max most (children_of fs) ≡ children_of es)

pub no_children_seen : (m : List (List ℕ)) (s start ds ps count : ℕ) → ChildrenSeen m s start start ds ps count 0 0
no_children_seen m s start ds ps count =
    let e : count ≡ count - 0 = omega arith in search rules

-- this element, and what is left of its children
pub record Buffered (m : List (List ℕ)) (s start at ds ps count i most : ℕ) (all : Trees) : Type 0 where
  pub words : List ℕ
  pub children : Trees
  pub later : Trees
  pub charge : ℕ
  pub depth : ℕ
  pub parts : FirstElement m s at ds ps (count - i) words children later charge depth
  pub same : max most (max (children_needed children) (children_of later)) ≡ children_of all

pub buffered : {m : List (List ℕ)} {s start at ds ps count i most : ℕ} {es : Trees} (c d : ℕ) → i < count → ChildrenSeen m s start at ds ps count i most
    → AreElements m s start ds ps count es c d
    → Buffered m s start at ds ps count i most es
buffered {m} {s} {start} {at} {ds} {ps} {count} {i} {most} {es} c d lt k h = go r.0 r.1 r.2 r.3 r.4
  where
    r : (fs : Trees) × (c' d' : ℕ) × AreElements m s at ds ps (count - i) fs c' d' × (max most (children_of fs) ≡ children_of es)
    r = k.rest es c d h

    go : (fs : Trees) (c' d' : ℕ) → AreElements m s at ds ps (count - i) fs c' d' → max most (children_of fs) ≡ children_of es
        → Buffered m s start at ds ps count i most es
    go (more (struct ws ts) fs) c' d' f e = search (rules, element_parts)
    go fs c' d' f e = search rules

pub children_seen : (m : List (List ℕ)) (s start at ds ps count i most now : ℕ) → i < count
    → ((ts : Trees) (c d : ℕ) → DenoteEach m (places s (at + ds) ps) ts c d → now ≡ max most (children_needed ts)) → now ≤ ps
    → ChildrenSeen m s start at ds ps count i most → ChildrenSeen m s start (at + (ds + ps)) ds ps count (i + 1) now
children_seen m s start at ds ps count i most now lt is within k = record {
  place = omega (arith, k.place);
  within = within;
  rest = rest;
}
  where
    rest : (es : Trees) (c d : ℕ) → AreElements m s start ds ps count es c d
        → (fs : Trees) × (c' d' : ℕ) × AreElements m s (at + (ds + ps)) ds ps (count - (i + 1)) fs c' d' × (max now (children_of fs) ≡ children_of es)
    rest es c d h =
        let a = buffered c d lt k h in
        let p = a.parts in
        let e : at + ds + ps ≡ at + (ds + ps) = omega arith in
        let n : p.others ≡ count - (i + 1) = omega (arith, p.many, lt) in search (rules, most_on)

-- all have their size already
pub enough_children : (m : List (List ℕ)) (s start at ds ps count i most : ℕ) (es : Trees) (c d : ℕ) → most ≡ ps → ChildrenSeen m s start at ds ps count i most
    → AreElements m s start ds ps count es c d → most ≡ children_of es
enough_children m s start at ds ps count i most es c d e k h = search (rules, children_within)

-- the children of a row, trimmed
pub row_left : (m : List (List ℕ)) (t b n deep : ℕ) (ts : Trees) (c d : ℕ) → DenoteEach m (places t b n) ts c d → d ≤ deep → AreLeft m deep t b (trim_all ts)
row_left m t b n deep none c d h le = tt
row_left m t b n deep (more x xs) c d h le =
    let r = row_parts m t b n x xs c d h in
    ((x, r.c1, r.d1, r.first, refl, omega (arith, r.depth, le)), row_left m t (b + 1) r.others deep xs r.c2 r.d2 r.rest (omega (arith, r.depth, le)))

-- and the first of them
pub left_take : (m : List (List ℕ)) (deep s w n : ℕ) (us : Trees) → AreLeft m deep s w us → AreLeft m deep s w (take_trees n us)
left_take m deep s w (suc n) (more u us) h = (h.0, left_take m deep s (w + 1) n us h.1)
left_take m deep s w n us h = search rules

-- the front of words that are in a range
pub words_left : (m : List (List ℕ)) (t b ds d : ℕ) (ws : List ℕ) → ws ≡ words_from m t b ds → d ≤ ds → take d ws ≡ words_from m t b d
words_left m t b ds d ws e le = search (rules, take-take)

-- the elements of a list, cut to these sizes
pub elements_left : (m : List (List ℕ)) (t b ds ps n d p deep : ℕ) (es : Trees) (c d' : ℕ) → d ≤ ds → p ≤ ps → AreElements m t b ds ps n es c d' → d' ≤ deep
    → AreElementsLeft m deep t b ds ps d p (cut_elements d p (trim_elements es))
elements_left m t b ds ps n d p deep (more (struct ws ts) es) c d' dle ple h le =
    let k = element_parts m t b ds ps n ws ts es c d' h in
    let rest = elements_left m t (b + ds + ps) ds ps k.others d p deep es k.c2 k.d2 dle ple k.rest (omega (arith, k.depth, le)) in
    search (rules, tree_count-trim_all, row_count, words_left, tree_count-take_le, left_take, row_left)
elements_left m t b ds ps n d p deep es c d' dle ple h le = search rules
