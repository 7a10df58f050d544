-- The pointers on a path: they are one list, which grows with the path, and they aren't both charged and refused.
use Rattle.cap_spec.proofs.Paths.PathLists.{member_back}
use Rattle.cap_spec.proofs.Paths.Preorder.{Before-longer, Rises-distinct, Rises-same}
use Rattle.cap_spec.proofs.Paths.Walks.{comes_beyond, one_coming, one_reached}
use Rattle.cap_spec.proofs.ProofNames.{List, [], ap, append-nil, append_assoc, arith, inl, inr, length, length-append}
use Rattle.cap_spec.proofs.ProofNames.{refl, subst, sym, ℕ, ◌++◌, ◌+◌, ◌<◌, ◌∙◌, ◌∷◌, ◌≡◌, ◌≤◌, ◌⊎◌, AreShallow}
use Rattle.cap_spec.proofs.ProofNames.{AreOnPath, IsFaultOnPath, IsRefusedOnPath, IsStartOf, IsOneOf, HasWord, Before}
use Rattle.cap_spec.proofs.ProofNames.{Costs, Reaches, ReachesSpot, Rises, Spot, StepsTo, element, word, CostOf}
use Rattle.cap_spec.proofs.ProofNames.{IsDeepAt, Refusal, Step, rules, common_steps}
use Rattle.cap_spec.proofs.Verdicts.OneFault.{distinct_last, kept_without_fault, last_is_one, one_of_last, one_rootless}
use Rattle.cap_spec.proofs.Verdicts.OneFault.{rootless, same_fault}
use Rattle.cap_spec.proofs.Verdicts.OneVerdict.{cost_reached}

-- a path that begins another begins what goes on from it
pub begins_longer : (q done more : List Step) → IsStartOf q done → IsStartOf q (done ++ more)
begins_longer q done more (rest, e) = (rest ++ more, ap (λ x. x ++ more) e ∙ append_assoc q rest more)

pub begins_itself : (p : List Step) → IsStartOf p p
begins_itself p = ([], sym (append-nil p))

-- what begins a path that goes on from another begins that one, or goes on from it too
begins_either : (q done rest r : List Step) (step : Step) → done ++ step ∷ rest ≡ q ++ r
    → IsStartOf q done ⊎ ((more : List Step) × (q ≡ done ++ step ∷ more) × (rest ≡ more ++ r))
begins_either (x ∷ q) (y ∷ done) rest r step e = search (rules, begins_either q done rest r step cc)
begins_either x0 done rest r step e = search rules

-- with one step more, the longer path itself is added
begins_last : (q done : List Step) (step : Step) → IsStartOf q (done ++ step ∷ [])
    → (q ≡ done ++ step ∷ []) ⊎ IsStartOf q done
begins_last q done step x3 = grind (arith, common_steps, begins_either)

-- and comes after what begins the shorter one
before_last : (q done : List Step) (step : Step) → IsStartOf q done → Before q (done ++ step ∷ [])
before_last q done step ([], e) = search (rules, append-nil, Before-longer)
before_last q done step (x ∷ rest, e) = search (rules, append_assoc, Before-longer)

-- a rising list with a last path after all of them
rises_last : (ps : List (List Step)) (p : List Step) → Rises ps → ((q : List Step) → IsOneOf q ps → Before q p)
    → Rises (ps ++ p ∷ [])
rises_last (q ∷ r ∷ ps) p h k = (h.0, rises_last (r ∷ ps) p h.1 (λ x i. k x (inr i)))
rises_last x0 p h k = search rules

-- the cost with a last path
pub cost_last : (m : List (List ℕ)) (ps : List (List Step)) (p : List Step) (level s w one x : ℕ) → CostOf m ps x
    → Reaches m p level s w → Costs m s w one → CostOf m (ps ++ p ∷ []) (x + one)
cost_last m [] p level s w one x h r c = (level, s, w, one, 0, r, c, refl, omega (arith, h))
cost_last m (q ∷ ps) p level s w one x (level', s', w', one', rest, reached, costs, after, sum) r c =
    (level', s', w', one', rest + one, reached, costs, cost_last m ps p level s w one rest after r c, omega (arith, sum))

-- none too deep, a last path neither
pub shallow_last : (m : List (List ℕ)) (depth : ℕ) (ps : List (List Step)) (p : List Step) (level s w : ℕ)
    → AreShallow m depth ps → Reaches m p level s w → ¬ IsDeepAt m depth s w level
    → AreShallow m depth (ps ++ p ∷ [])
shallow_last m depth ps p level s w h r none q level' s' w' i r' deep = elim (one_of_last q p ps i) [
  | inr k ↦ h q level' s' w' k r' deep
  | inl e ↦ let o = one_reached m p level' level s' w' s w (rw e at r') r in none (rw (← o.0, ← o.1, ← o.2) deep)
]

-- The pointers on the empty path: the root's.
pub on_root : (m : List (List ℕ)) (root : ℕ) → HasWord m 0 0 root → AreOnPath m [] ([] ∷ [])
on_root m root has = record {
  rising = tt;
  begin = λ q i. rw (one q i) ([], refl);
  reached = λ q i. (1, 0, 0, rw (one q i) (root, 0, has, (refl, refl), refl));
  all = λ q level s w b r. inl (nothing q b.0 b.1);
}
  where
    one : (q : List Step) → IsOneOf q ([] ∷ []) → q ≡ []
    one q (inl e) = e
    one q (inr h) = absurd h

    nothing : (q rest : List Step) → [] ≡ q ++ rest → q ≡ []
    nothing [] rest e = refl
    nothing (x ∷ q) rest e = absurd (cc e)

-- With one step more to a pointer word, the longer path is added,
pub on_word : (m : List (List ℕ)) (done : List Step) (ways : List (List Step)) (step : Step) (level s w : ℕ)
    → AreOnPath m done ways → Reaches m (done ++ step ∷ []) level s w
    → AreOnPath m (done ++ step ∷ []) (ways ++ (done ++ step ∷ []) ∷ [])
on_word m done ways step level s w h r = record {
  rising = rises_last ways (done ++ step ∷ []) h.rising (λ q i. before_last q done step (h.begin q i));
  begin = λ q i. begin q (one_of_last q (done ++ step ∷ []) ways i);
  reached = λ q i. reached q (one_of_last q (done ++ step ∷ []) ways i);
  all = λ q level' s' w' b r'. all q level' s' w' r' (begins_last q done step b);
}
  where
    begin : (q : List Step) → (q ≡ done ++ step ∷ []) ⊎ IsOneOf q ways → IsStartOf q (done ++ step ∷ [])
    begin q (inl e) = rw e (begins_itself (done ++ step ∷ []))
    begin q (inr i) = begins_longer q done (step ∷ []) (h.begin q i)

    reached : (q : List Step) → (q ≡ done ++ step ∷ []) ⊎ IsOneOf q ways → (level' s' w' : ℕ) × Reaches m q level' s' w'
    reached q (inl e) = (level, s, w, rw e r)
    reached q (inr i) = h.reached q i

    all : (q : List Step) (level' s' w' : ℕ) → Reaches m q level' s' w' → (q ≡ done ++ step ∷ []) ⊎ IsStartOf q done
        → IsOneOf q (ways ++ (done ++ step ∷ []) ∷ [])
    all q level' s' w' r' (inl e) = member_back q ways ((done ++ step ∷ []) ∷ []) (inl e)
    all q level' s' w' r' (inr b) = last_is_one (done ++ step ∷ []) q ways (h.all q level' s' w' b r')

-- with one to an element nothing is added,
pub on_element : (m : List (List ℕ)) (done : List Step) (ways : List (List Step)) (step : Step) (level t b ds ps : ℕ)
    → AreOnPath m done ways → ReachesSpot m (done ++ step ∷ []) level (element t b ds ps)
    → AreOnPath m (done ++ step ∷ []) ways
on_element m done ways step level t b ds ps h c = record {
  rising = h.rising;
  begin = λ q i. begins_longer q done (step ∷ []) (h.begin q i);
  reached = h.reached;
  all = λ q level' s' w' x r. elim (begins_last q done step x) [
    | inl e ↦
        let f = one_coming m (done ++ step ∷ []) level' level (word s' w') (element t b ds ps) (rw e at r) c in
        absurd (cc f.1)
    | inr y ↦ h.all q level' s' w' y r
  ];
}

-- and where a step leads to no node, neither.
pub on_no_node : (m : List (List ℕ)) (done rest : List Step) (ways : List (List Step)) (step : Step) (level : ℕ)
    (a : Spot) → AreOnPath m done ways → ReachesSpot m done level a
    → ((b : Spot) → StepsTo m a step b → ⊥) → AreOnPath m (done ++ step ∷ rest) ways
on_no_node m done rest ways step level a h c none = record {
  rising = h.rising;
  begin = λ q i. begins_longer q done (step ∷ rest) (h.begin q i);
  reached = h.reached;
  all = λ q level' s' w' b r. elim (begins_either q done rest b.0 step b.1) [
    | inl b' ↦ h.all q level' s' w' b' r
    | inr (more, e, f) ↦
        let x = comes_beyond m done (step ∷ more) level level' a (word s' w') c (rw e at r) in
        absurd (none x.1.0 x.1.2)
  ];
}

-- The pointers on a path are one list.
pub one_path_list : (m : List (List ℕ)) (path : List Step) (ways ways' : List (List Step)) → AreOnPath m path ways
    → AreOnPath m path ways' → ways ≡ ways'
one_path_list m path ways ways' g h =
    Rises-same ways ways' g.rising h.rising
    (λ q i. let r = g.reached q i in h.all q r.0 r.1 r.2 (g.begin q i) r.3)
    (λ q i. let r = h.reached q i in g.all q r.0 r.1 r.2 (h.begin q i) r.3)

-- A path whose pointers keep to the limits isn't refused.
pub path_not_refused : (m : List (List ℕ)) (words depth : ℕ) (path : List Step) (ways : List (List Step)) (cost : ℕ)
    (r : Refusal) → AreOnPath m path ways → 0 < length ways → CostOf m ways cost
    → AreShallow m depth ways → cost ≤ words → IsRefusedOnPath m words depth path r → ⊥
path_not_refused m words depth path [] cost r on some costs shallow within (inl h) = omega (arith, some)
path_not_refused m words depth path (q ∷ qs) cost r on some costs shallow within (inl h) = search (rules, rootless)
path_not_refused m words depth path ways cost r on some costs shallow within (inr f) =
    kept_without_fault m words depth f.level f.charge cost r f.way f.before ways f.reached f.costs f.reason
    (distinct_last f.before f.way (Rises-distinct (f.before ++ f.way ∷ []) f.on_path.rising)) all costs shallow within
  where
    all : (q : List Step) → IsOneOf q (f.way ∷ f.before) → IsOneOf q ways
    all q (inl e) = rw e (on.all f.way f.level r.segment r.word f.begin f.reached)
    all q (inr i) =
        let x = cost_reached m f.before f.charge q f.costs i in
        let b : IsStartOf q f.way = f.on_path.begin q (last_is_one f.way q f.before i) in
        on.all q x.0 x.1 x.2 (rw f.begin.1 (begins_longer q f.way f.begin.0 b)) x.3

-- of two beginnings of one path, each is the other or goes on from it
begins_one : (p q path : List Step) → IsStartOf p path → IsStartOf q path
    → (p ≡ q) ⊎ ((x : Step) × (more : List Step) × (q ≡ p ++ x ∷ more))
    ⊎ ((x : Step) × (more : List Step) × (p ≡ q ++ x ∷ more))
begins_one p q path ([], e) (s, f) = all s (sym (append-nil p) ∙ (sym e ∙ f))
  where
    all : (s : List Step) → p ≡ q ++ s → (p ≡ q) ⊎ ((x : Step) × (more : List Step) × (q ≡ p ++ x ∷ more))
        ⊎ ((x : Step) × (more : List Step) × (p ≡ q ++ x ∷ more))
    all [] h = inl (h ∙ append-nil q)
    all (x ∷ s) h = inr (inr (x, s, h))
begins_one p q path (x ∷ rest, e) (s, f) = elim (begins_either q p rest s x (sym e ∙ f)) [
  | inl ([], h) ↦ inl (h ∙ append-nil q)
  | inl (y ∷ t, h) ↦ inr (inr (y, t, h))
  | inr (more, h, k) ↦ inr (inl (x, more, h))
]

-- No fault on a path comes before another.
no_earlier_on : (m : List (List ℕ)) (words depth : ℕ) (path : List Step) (r r' : Refusal)
    (f : IsFaultOnPath m words depth path r) (f' : IsFaultOnPath m words depth path r') (x : Step) (more : List Step)
    → f'.way ≡ f.way ++ x ∷ more → ⊥
no_earlier_on m words depth path r r' f f' x more e =
    kept_without_fault m words depth f.level f.charge f'.charge r f.way f.before f'.before f.reached f.costs f.reason
    (distinct_last f.before f.way (Rises-distinct (f.before ++ f.way ∷ []) f.on_path.rising)) all f'.costs
    f'.shallow f'.within
  where
    -- what begins the shorter one is among those before the longer one
    kept : (q : List Step) (level s w : ℕ) → Reaches m q level s w → IsStartOf q f.way → IsOneOf q f'.before
    kept q level s w h (rest, k) = elim (one_of_last q f'.way f'.before
        (f'.on_path.all q level s w (subst (λ y. IsStartOf q y) (sym e) (begins_longer q f.way (x ∷ more) (rest, k))) h)) [
          | inl same ↦
              let whole : q ≡ (q ++ rest) ++ x ∷ more = same ∙ e ∙ ap (λ y. y ++ x ∷ more) k in
              let long = ap length whole in
              absurd (omega (arith, long, length-append (q ++ rest) (x ∷ more), length-append q rest))
          | inr i ↦ i
        ]

    all : (q : List Step) → IsOneOf q (f.way ∷ f.before) → IsOneOf q f'.before
    all q (inl same) = subst (λ y. IsOneOf y f'.before) (sym same)
        (kept f.way f.level r.segment r.word f.reached (begins_itself f.way))
    all q (inr i) = let c = cost_reached m f.before f.charge q f.costs i in
        kept q c.0 c.1 c.2 c.3 (f.on_path.begin q (last_is_one f.way q f.before i))

-- A path is refused in one way.
pub one_path_refusal : (m : List (List ℕ)) (words depth : ℕ) (path : List Step) (r r' : Refusal)
    → IsRefusedOnPath m words depth path r → IsRefusedOnPath m words depth path r' → r ≡ r'
one_path_refusal m words depth path r r' (inl h) (inl k) = one_rootless m r r' h k
one_path_refusal m words depth path r r' (inl h) (inr f) = search (rules, rootless)
one_path_refusal m words depth path r r' (inr f) (inl h) = search (rules, rootless)
one_path_refusal m words depth path r r' (inr f) (inr f') = elim (begins_one f.way f'.way path f.begin f'.begin) [
  | inl e ↦ same (sym e)
  | inr (inl (x, more, e)) ↦ absurd (no_earlier_on m words depth path r r' f f' x more e)
  | inr (inr (x, more, e)) ↦ absurd (no_earlier_on m words depth path r' r f' f x more e)
]
  where
    same : f'.way ≡ f.way → r ≡ r'
    same e =
        let on : AreOnPath m f.way (f'.before ++ f.way ∷ []) =
        subst (λ u. AreOnPath m u (f'.before ++ u ∷ [])) e f'.on_path in
        let lists = one_path_list m f.way (f.before ++ f.way ∷ []) (f'.before ++ f.way ∷ []) f.on_path on in
        same_fault m words depth f.level f'.level f.charge f'.charge r r' f.way f.before f'.before lists
        f.on_path.rising f.reached (subst (λ u. Reaches m u f'.level r'.segment r'.word) e f'.reached)
        f.costs f'.costs f.reason f'.reason f.pointers (f'.pointers ∙ ap (λ u. length (f'.before ++ u ∷ [])) e)
