-- Where a path comes back to a pointer word that it has reached before.
use Rattle.cap_spec.proofs.Lemmas.{one_coming, one_reached}
use Rattle.cap_spec.proofs.ProofNames.{List, None, Option, Some, [], ap, arith, inl, inr, length, length-append, refl, subst, suc, sym, zero, ℕ}
use Rattle.cap_spec.proofs.ProofNames.{◌++◌, ◌+◌, ◌<◌, ◌∙◌, ◌∷◌, ◌≡◌, ◌≤◌, IsFirstFault, PathLeads, Reaches, ReachesSpot, Spot, element, level_of, word}
use Rattle.std.proofs.Common.{drop, get_or, take, ◌-◌}
use Rattle.std.proofs.lemmas.Bool.{cases_lt}
use Rattle.std.proofs.lemmas.List.{length-map, length-take-le, take-append-drop, take-map, take-take, take_at, take_more}
use Rattle.cap_trace.specs.Branches.{AreSteps, IsCounted, form_spot, last_spot, spot_of_last}
use Rattle.cap_trace.specs.Returns.{ComesFrom, EndsOnCycle, HasCycle, IsDown, IsLastCycle, IsReturn, IsTwiceAt, ReportsCycle}
use Rattle.cap_trace.specs.declared.returning.Cycle.{Cycle}
use Rattle.cap_trace.specs.TraceNames.{AreBranches, Branch, Form, HasCome, IsTraceable, Pointers, Refusal, Step, Struct, Structs, WordPlace, path_of, step_of}
use Rattle.cap_trace.proofs.Branches.{branches_split, last_more, steps_split}
use Rattle.cap_trace.proofs.Coming.{numbered_here, traceable_here}
use Rattle.cap_trace.proofs.Numbering.{one_numbered}
use Rattle.cap_trace.proofs.Traceable.{fault_traceable}

pub last_step : (a : Spot) (fs : List Branch) (i : ℕ) (d : Branch) → i < length fs
    → last_spot a (take (i + 1) fs) ≡ spot_of_last (get_or fs i d)
last_step a fs i d less = rw (take_more fs i d less) (last_more a (take i fs) (get_or fs i d ∷ []))

-- Each step takes a level.
one_level : (form : Form) (f : Branch) (i n : ℕ) → suc n ≡ level_of (form_spot form f i) + n
one_level Struct f i n = omega arith
one_level Pointers f i n = omega arith
one_level Structs f i n = omega arith

pub few_taken : (form : Form) (f : Branch) → IsCounted form f → f.taken ≤ f.count
few_taken Struct f h = h.0
few_taken Pointers f h = h
few_taken Structs f h = h.0

leads_along : (m : List (List ℕ)) (depth level : ℕ) (a : Spot) (fs : List Branch) → AreBranches m depth level fs → AreSteps m a fs
    → PathLeads m a (path_of fs) (length fs) (last_spot a fs)
leads_along m depth level a [] h k = (refl, refl)
leads_along m depth level a (f ∷ fs) h k = (
  spot_of_last f,
  length fs,
  k.0.1 (f.taken - 1) (omega (arith, k.0.0, few_taken f.form f h.0.counted)),
  leads_along m depth (level + 1) (spot_of_last f) fs h.1 k.1,
  one_level f.form f (f.taken - 1) (length fs),
)

-- Where the search has come, each path over the first branches comes to the spot of the last of these.
pub down_here : (m : List (List ℕ)) (depth n : ℕ) (fs : List Branch) (here : WordPlace) → HasCome m depth n fs here → IsDown m fs
down_here m depth n fs here h = λ k less.
    let parts : fs ≡ take k fs ++ drop k fs = sym (take-append-drop k fs) in
    let branches = (branches_split m depth 1 (take k fs) (drop k fs) (subst (λ (u : List Branch). AreBranches m depth 1 u) parts h.stack)).0 in
    let steps = (steps_split m (word 0 0) (take k fs) (drop k fs) (subst (λ (u : List Branch). AreSteps m (word 0 0) u) parts h.steps)).0 in
    let (root, count, has, leads, level) = h.trail.ahead_reached.0 in
    (root, length (take k fs), has, leads_along m depth 1 (word 0 0) (take k fs) branches steps, omega (arith, length-take-le k fs less))

-- A beginning of the path is the path over the first branches.
first_of_part : (fs : List Branch) (p q : List Step) → path_of fs ≡ p ++ q
    → (length p ≤ length fs) × (path_of (take (length p) fs) ≡ p)
first_of_part fs p q e = (
  omega (arith, ap (λ (u : List Step). length u) e, length-map fs step_of, length-append p q),
  sym (take-map step_of (length p) fs) ∙ ap (λ (u : List Step). take (length p) u) e ∙ take_at p q (length p) refl,
)

-- A shorter path that reaches a word is the path over fewer of the branches.
first_of_prefix : (m : List (List ℕ)) (fs : List Branch) (n s w level : ℕ) → IsDown m fs → n ≤ length fs
    → ComesFrom m (path_of (take n fs)) s w level
    → (k : ℕ) × (k < n) × (level ≡ k + 1) × (last_spot (word 0 0) (take k fs) ≡ word s w)
first_of_prefix m fs n s w level h few c =
    let k = length c.prefix in
    let less : k < n =
    omega (arith, ap (λ (u : List Step). length u) c.goes_on, length-map (take n fs) step_of, length-append c.prefix (c.step ∷ c.rest), length-take-le n fs few) in
    let same : path_of (take k fs) ≡ c.prefix =
    ap path_of (sym (take-take k n fs (omega (arith, less)))) ∙ (first_of_part (take n fs) c.prefix (c.step ∷ c.rest) c.goes_on).1 in
    let r = subst (λ (u : List Step). ReachesSpot m u (k + 1) (last_spot (word 0 0) (take k fs))) same
    (h k (omega (arith, less, few))) in
    let one = one_coming m c.prefix (k + 1) level _ _ r c.reached in (k, less, sym one.0, one.1)

-- The path goes on from the path over its first branches.
goes_on_from : (fs : List Branch) (k : ℕ) → k < length fs
    → (x : Step) × (v : List Step) × (path_of fs ≡ path_of (take k fs) ++ x ∷ v)
goes_on_from [] k less = absurd (omega (arith, less))
goes_on_from (f ∷ fs) zero less = (step_of f, path_of fs, refl)
goes_on_from (f ∷ fs) (suc k) less =
    let (x, v, e) = goes_on_from fs k (omega (arith, less)) in (x, v, ap (λ (u : List Step). step_of f ∷ u) e)

pub no_return : (m : List (List ℕ)) (fs : List Branch) (n s w : ℕ) → IsDown m fs → n ≤ length fs
    → ((k : ℕ) → k < n → last_spot (word 0 0) (take k fs) ≡ word s w → ⊥) → IsReturn m (path_of (take n fs)) s w None
no_return m fs n s w h few none = λ level c.
    let (k, less, e, at) = first_of_prefix m fs n s w level h few c in none k less at

pub is_return : (m : List (List ℕ)) (fs : List Branch) (n s w k : ℕ) → IsDown m fs → n ≤ length fs
    → k < n → last_spot (word 0 0) (take k fs) ≡ word s w
    → ((j : ℕ) → k < j → j < n → last_spot (word 0 0) (take j fs) ≡ word s w → ⊥)
    → IsReturn m (path_of (take n fs)) s w (Some (k + 1))
is_return m fs n s w k h few less at none =
    let (x, v, e) = goes_on_from (take n fs) k (omega (arith, less, length-take-le n fs few)) in (
      record {
        prefix = path_of (take k fs);
        step = x;
        rest = v;
        goes_on = e ∙ ap (λ (u : List Branch). path_of u ++ x ∷ v) (take-take k n fs (omega (arith, less)));
        reached = subst (λ (u : Spot). ReachesSpot m (path_of (take k fs)) (k + 1) u) at (h k (omega (arith, less, few)));
      },
      λ other c.
          let (j, below, e', at') = first_of_prefix m fs n s w other h few c in
          no_higher other j e' below at',
    )
  where
    no_higher : (other j : ℕ) → other ≡ j + 1 → j < n → last_spot (word 0 0) (take j fs) ≡ word s w → other ≤ k + 1
    no_higher other j e below at' = elim (cases_lt k j) [
      | inl more ↦ absurd (none j more below at')
      | inr less ↦ omega (arith, e, less)
    ]

-- An element is no word.
pub element_no_word : (form : Form) (f : Branch) (i s w : ℕ) → form ≡ Structs → form_spot form f i ≡ word s w → ⊥
element_no_word form f i s w is e = cc

-- A path is at its end on the level after its steps.
end_level : (m : List (List ℕ)) (fs : List Branch) (k : ℕ) (c : Cycle) → IsDown m fs → k ≤ length fs
    → IsTwiceAt m (path_of (take k fs)) c → (c.to_level ≡ k + 1) × (word c.segment c.word ≡ last_spot (word 0 0) (take k fs))
end_level m fs k c h few twice = one_coming m (path_of (take k fs)) c.to_level (k + 1) _ _ twice.reached (h k few)

-- At an element no cycle ends,
pub no_element_cycle : (m : List (List ℕ)) (fs : List Branch) (k : ℕ) (f : Branch) → IsDown m fs → k ≤ length fs → f.form ≡ Structs
    → last_spot (word 0 0) (take k fs) ≡ spot_of_last f → EndsOnCycle m (path_of (take k fs)) None
no_element_cycle m fs k f h few is at = λ c twice.
    element_no_word f.form f (f.taken - 1) c.segment c.word is (sym at ∙ sym (end_level m fs k c h few twice).1)

-- nor at a word that the path hasn't reached before.
pub no_cycle_here : (m : List (List ℕ)) (fs : List Branch) (k s w : ℕ) → IsDown m fs → k ≤ length fs
    → last_spot (word 0 0) (take k fs) ≡ word s w → IsReturn m (path_of (take k fs)) s w None
    → EndsOnCycle m (path_of (take k fs)) None
no_cycle_here m fs k s w h few at none = λ c twice.
    let there : word c.segment c.word ≡ word s w = (end_level m fs k c h few twice).1 ∙ at in
    let segment : c.segment ≡ s = cc in let place : c.word ≡ w = cc in
    none c.from_level (subst (λ (u : ℕ). ComesFrom m (path_of (take k fs)) s u c.from_level) place
    (subst (λ (u : ℕ). ComesFrom m (path_of (take k fs)) u c.word c.from_level) segment twice.returns.0))

-- It ends there with this level if it has.
pub cycle_here : (m : List (List ℕ)) (fs : List Branch) (k s w level : ℕ) → IsDown m fs → k ≤ length fs
    → last_spot (word 0 0) (take k fs) ≡ word s w → IsReturn m (path_of (take k fs)) s w (Some level)
    → IsTwiceAt m (path_of (take k fs)) (record { segment = s; word = w; from_level = level; to_level = k + 1 })
cycle_here m fs k s w level h few at r = record {
  reached = subst (λ (u : Spot). ReachesSpot m (path_of (take k fs)) (k + 1) u) at (h k few);
  returns = r;
}

-- A path that returns has steps.
some_steps : (m : List (List ℕ)) (p : List Step) (c : Cycle) → IsTwiceAt m p c → 0 < length p
some_steps m p c twice =
    let before = twice.returns.0 in
    omega (arith, ap (λ (u : List Step). length u) before.goes_on, length-append before.prefix (before.step ∷ before.rest))

-- If no beginning of a path ends on a cycle, it has none.
pub no_cycle : (m : List (List ℕ)) (fs : List Branch)
    → ((k : ℕ) → 0 < k → k ≤ length fs → EndsOnCycle m (path_of (take k fs)) None) → IsLastCycle m (path_of fs) None
no_cycle m fs none = λ c h.
    let (few, same) = first_of_part fs h.part h.rest h.begins in
    none (length h.part) (some_steps m h.part c h.twice) few c (subst (λ (u : List Step). IsTwiceAt m u c) (sym same) h.twice)

-- If one does, and none that is longer, that is the last.
pub last_cycle_at : (m : List (List ℕ)) (fs : List Branch) (k : ℕ) (c : Cycle) → IsDown m fs → k ≤ length fs
    → IsTwiceAt m (path_of (take k fs)) c
    → ((j : ℕ) → k < j → j ≤ length fs → EndsOnCycle m (path_of (take j fs)) None) → IsLastCycle m (path_of fs) (Some c)
last_cycle_at m fs k c h few twice none = (
  record {
    part = path_of (take k fs);
    rest = drop k (path_of fs);
    begins = sym (take-append-drop k (path_of fs)) ∙ ap (λ (u : List Step). u ++ drop k (path_of fs)) (take-map step_of k fs);
    twice = twice;
  },
  λ other o.
      let (below, same) = first_of_part fs o.part o.rest o.begins in
      not_later other (length o.part) below (subst (λ (u : List Step). IsTwiceAt m u other) (sym same) o.twice),
)
  where
    not_later : (other : Cycle) (j : ℕ) → j ≤ length fs → IsTwiceAt m (path_of (take j fs)) other → other.to_level ≤ c.to_level
    not_later other j below there = elim (cases_lt k j) [
      | inl more ↦ absurd (none j more below other there)
      | inr less ↦ omega (arith, (end_level m fs j other h below there).0, (end_level m fs k c h few twice).0, less)
    ]

-- A number has one path.
pub cycle_reported : (m : List (List ℕ)) (depth n : ℕ) (fs : List Branch) (here : WordPlace) (result : Option Cycle)
    → HasCome m depth n fs here → IsLastCycle m (path_of fs) result → ReportsCycle m depth n result
cycle_reported m depth n fs here None h r = λ path a.
    subst (λ (u : List Step). IsLastCycle m u None) (one_numbered m n (path_of fs) path (numbered_here m depth n fs here h) a.numbered) r
cycle_reported m depth n fs here (Some c) h r = (path_of fs, traceable_here m depth n fs here h, r)

pub reported_cycle : (m : List (List ℕ)) (depth n : ℕ) (path : List Step) (result : Option Cycle)
    → IsTraceable m depth n path → ReportsCycle m depth n result → IsLastCycle m path result
reported_cycle m depth n path None a h = h path a
reported_cycle m depth n path (Some c) a (other, b, r) =
    subst (λ (u : List Step). IsLastCycle m u (Some c)) (one_numbered m n other path b.numbered a.numbered) r

pub fault_cycle : (m : List (List ℕ)) (words depth n : ℕ) (r : Refusal) (result : Option Cycle) → ReportsCycle m depth n result
    → (f : IsFirstFault m words depth r) → r.pointers ≡ n → IsLastCycle m f.path result
fault_cycle m words depth n r result h f e =
    reported_cycle m depth r.pointers f.path result (fault_traceable m words depth r f)
    (subst (λ (u : ℕ). ReportsCycle m depth u result) (sym e) h)

one_return : (m : List (List ℕ)) (path : List Step) (s w a b : ℕ) → IsReturn m path s w (Some a) → IsReturn m path s w (Some b) → a ≡ b
one_return m path s w a b h k = let at_most = k.1 a h.0 in let at_least = h.1 b k.0 in omega (arith, at_most, at_least)

-- Each step takes a level, so a path's length says at what level it is.
spot_level : (a : Spot) → level_of a ≡ 1
spot_level (word s w) = refl
spot_level (element t b d p) = refl

leads_level : (m : List (List ℕ)) (a : Spot) (path : List Step) (n : ℕ) (b : Spot) → PathLeads m a path n b → n ≡ length path
leads_level m a [] n b h = h.0
leads_level m a (x ∷ path) n b (mid, n', step, leads, e) = omega (arith, e, spot_level mid, leads_level m mid path n' b leads)

path_level : (m : List (List ℕ)) (path : List Step) (level s w : ℕ) → Reaches m path level s w → level ≡ 1 + length path
path_level m path level s w (root, n, has, leads, e) = omega (arith, e, leads_level m (word 0 0) path n (word s w) leads)

-- Beginnings of one path that end on one level are the same.
one_part : (m : List (List ℕ)) (path : List Step) (c d : Cycle) → (h : HasCycle m path c) → (k : HasCycle m path d)
    → length h.part ≡ length k.part → h.part ≡ k.part
one_part m path c d h k e =
    sym (take_at h.part h.rest (length h.part) refl) ∙ ap (λ (u : List Step). take (length h.part) u) (sym h.begins ∙ k.begins)
    ∙ take_at k.part k.rest (length h.part) (sym e)

-- The end of a path says where it is, and at what level.
one_end : (m : List (List ℕ)) (p : List Step) (c d : Cycle) → IsTwiceAt m p c → IsTwiceAt m p d
    → c ≡ record { segment = d.segment; word = d.word; from_level = d.from_level; to_level = d.to_level }
one_end m p c d h k =
    let o = one_reached m p c.to_level d.to_level c.segment c.word d.segment d.word h.reached k.reached in
    let r = one_return m p d.segment d.word c.from_level d.from_level
    (subst (λ (u : ℕ). IsReturn m p d.segment u (Some c.from_level)) o.2
    (subst (λ (u : ℕ). IsReturn m p u c.word (Some c.from_level)) o.1 h.returns)) k.returns in
    rw (o.1, o.2, r, o.0) refl

-- A path has one last cycle.
pub one_last_cycle : (m : List (List ℕ)) (path : List Step) (a b : Option Cycle) → IsLastCycle m path a → IsLastCycle m path b → a ≡ b
one_last_cycle m path None None h k = refl
one_last_cycle m path None (Some d) h k = absurd (h d k.0)
one_last_cycle m path (Some c) None h k = absurd (k c h.0)
one_last_cycle m path (Some c) (Some d) h k =
    let level : c.to_level ≡ d.to_level = omega (arith, k.1 c h.0, h.1 d k.0) in
    let long = path_level m h.0.part c.to_level c.segment c.word h.0.twice.reached in
    let also = path_level m k.0.part d.to_level d.segment d.word k.0.twice.reached in
    let same = one_part m path c d h.0 k.0 (omega (arith, level, long, also)) in
    ap Some (one_end m k.0.part c d (subst (λ (u : List Step). IsTwiceAt m u c) same h.0.twice) k.0.twice)
