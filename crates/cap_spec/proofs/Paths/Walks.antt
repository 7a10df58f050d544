-- A path leads to one spot, at one level, and a longer path goes on from there.
use Rattle.cap_spec.proofs.ProofNames.{List, [], ap, arith, inl, inr, refl, sym, ℕ, ◌++◌, ◌+◌, ◌↔◌, ◌∙◌, ◌∷◌, ◌≡◌}
use Rattle.cap_spec.proofs.ProofNames.{PathLeads, Reaches, ReachesSpot, Spot, StepsTo, element, level_of, word, Step}
use Rattle.cap_spec.proofs.ProofNames.{Item, Ptr, rules, common_steps}
use Rattle.cap_spec.proofs.Trees.Finding.{one_found}

-- one step leads to one spot
pub one_step : (m : List (List ℕ)) (a : Spot) (step : Step) (b b' : Spot) → StepsTo m a step b → StepsTo m a step b' → b ≡ b'
one_step m (word s w) (Ptr i) x y (k, t, b, q, tag, ds, ps, finds, less, ends) h =
    let (k', t', b', q', tag', ds', ps', finds', less', ends') = h in
    let o = one_found finds finds' in
    let e : ds ≡ ds' = cc o.kind in
    ends ∙ rw (o.segment, o.start, e) refl ∙ sym ends'
one_step m (word s w) (Item i) x y (inl (k, t, b, q, tag, n, finds, less, ends)) (inl h) =
    let (k', t', b', q', tag', n', finds', less', ends') = h in
    let o = one_found finds finds' in
    ends ∙ rw (o.segment, o.start) refl ∙ sym ends'
one_step m (word s w) (Item i) x y (inl (k, t, b, q, tag, n, finds, less, ends)) (inr h) =
    let (k', t', b', q', tag', n', ds', ps', finds', less', ends') = h in
    absurd (cc (one_found finds finds').kind)
one_step m (word s w) (Item i) x y (inr (k, t, b, q, tag, n, ds, ps, finds, less, ends)) (inl h) =
    let (k', t', b', q', tag', n', finds', less', ends') = h in
    absurd (cc (one_found finds finds').kind)
one_step m (word s w) (Item i) x y (inr (k, t, b, q, tag, n, ds, ps, finds, less, ends)) (inr h) =
    let (k', t', b', q', tag', n', ds', ps', finds', less', ends') = h in
    let o = one_found finds finds' in
    let d : ds ≡ ds' = cc o.kind in
    let p : ps ≡ ps' = cc o.kind in
    ends ∙ rw (o.segment, o.start, d, p) refl ∙ sym ends'
one_step m (element t b ds ps) (Ptr i) x y g h = g.1 ∙ sym h.1
one_step m (element t b ds ps) (Item i) x y g h = absurd g

-- from one spot no step by a struct's pointer and a step by a list's element
pub one_kind_of_step : (m : List (List ℕ)) (a : Spot) (i j : ℕ) (b b' : Spot) → StepsTo m a (Ptr i) b
    → StepsTo m a (Item j) b' → ⊥
one_kind_of_step m x1 i j x y g h = search (rules, one_found)

-- a path from one spot leads to one spot, by one number of levels
pub one_walk : (m : List (List ℕ)) (a : Spot) (path : List Step) (n n' : ℕ) (b b' : Spot) → PathLeads m a path n b
    → PathLeads m a path n' b' → (n ≡ n') × (b ≡ b')
one_walk m a [] n n' x y g h = (g.0 ∙ sym h.0, g.1 ∙ sym h.1)
one_walk m a (step ∷ path) n n' x y (mid, below, goes, walks, level) h =
    let (mid', below', goes', walks', level') = h in
    let e : mid ≡ mid' = one_step m a step mid mid' goes goes' in
    let r = one_walk m mid path below below' x y walks (rw e walks') in
    (omega (arith, r.0, ap level_of e, level, level'), r.1)

-- a longer path goes on from where its beginning leads
pub walk_on : (m : List (List ℕ)) (a b c : Spot) (p q : List Step) (n n' : ℕ) → PathLeads m a p n b → PathLeads m b q n' c
    → PathLeads m a (p ++ q) (n + n') c
walk_on m a b c [] q n n' g h = search rules
walk_on m a b c (step ∷ p) q n n' (mid, below, goes, walks, level) h =
    (mid, below + n', goes, walk_on m mid b c p q below n' walks h, omega (arith, level))

-- a walk in two parts, with the spot between them and the levels of each
record WalkParts (m : List (List ℕ)) (a c : Spot) (p q : List Step) (n : ℕ) : Type 0 where
  mid : Spot
  above : ℕ
  below : ℕ
  first : PathLeads m a p above mid
  second : PathLeads m mid q below c
  levels : n ≡ above + below

-- and each beginning of a path leads to some place
walk_parts : (m : List (List ℕ)) (a c : Spot) (p q : List Step) (n : ℕ) → PathLeads m a (p ++ q) n c
    → WalkParts m a c p q n
walk_parts m a c [] q n h = search rules
walk_parts m a c (step ∷ p) q n (mid, below, goes, walks, level) =
    let r : WalkParts m mid c p q below = walk_parts m mid c p q below walks in
    record {
      mid = r.mid;
      above = level_of mid + r.above;
      below = r.below;
      first = (mid, r.above, goes, r.first, refl);
      second = r.second;
      levels = omega (arith, level, r.levels);
    }

-- one more step, at the end
pub walk_last : (m : List (List ℕ)) (a c : Spot) (p : List Step) (step : Step) (n : ℕ)
    → PathLeads m a (p ++ step ∷ []) n c ↔ ((b : Spot) × (n' : ℕ) × PathLeads m a p n' b × StepsTo m b step c
    × (n ≡ n' + level_of c))
walk_last m a c p step n = search (rules, walk_parts, walk_on)

-- a path from the root comes to one spot, at one level
pub one_coming : (m : List (List ℕ)) (path : List Step) (l l' : ℕ) (a b : Spot) → ReachesSpot m path l a → ReachesSpot m path l' b
    → (l ≡ l') × (a ≡ b)
one_coming m path l l' a b g h = search (rules, one_walk)

-- a longer path goes on from the spot to which its beginning comes
pub comes_beyond : (m : List (List ℕ)) (done on : List Step) (level level' : ℕ) (a b : Spot) → ReachesSpot m done level a
    → ReachesSpot m (done ++ on) level' b → (n : ℕ) × PathLeads m a on n b
comes_beyond m done on level level' a b x7 x8 = search (rules, walk_parts, one_walk)

-- and reaches one pointer word
pub one_reached : (m : List (List ℕ)) (path : List Step) (l l' s w s' w' : ℕ) → Reaches m path l s w
    → Reaches m path l' s' w' → (l ≡ l') × (s ≡ s') × (w ≡ w')
one_reached m path l l' s w s' w' g h =
    let r = one_coming m path l l' (word s w) (word s' w') g h in (r.0, cc r.1, cc r.1)

-- a path and one more step
pub coming_last : (m : List (List ℕ)) (path : List Step) (step : Step) (l : ℕ) (c : Spot)
    → ReachesSpot m (path ++ step ∷ []) l c ↔ ((b : Spot) × (l' : ℕ) × ReachesSpot m path l' b × StepsTo m b step c
    × (l ≡ l' + level_of c))
coming_last m path step l c = grind (arith, common_steps, walk_last)
