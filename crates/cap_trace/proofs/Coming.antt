-- A search comes to the pointer words of a message one after the other.
use Rattle.cap_spec.proofs.Lemmas.{HasWord-inside, Before-asymmetric, Before-irreflexive, one_reached, one_of_last, short_segment}
use Rattle.cap_spec.proofs.ProofNames.{List, None, Some, [], append_assoc, arith, inl, inr, length, length-append, refl, subst, sym, ℕ}
use Rattle.cap_spec.proofs.ProofNames.{◌++◌, ◌+◌, ◌<◌, ◌∷◌, ◌≡◌, ◌≤◌, ◌⊎◌, IsOneOf, segment_of, Before, IsNumbered}
use Rattle.cap_spec.proofs.ProofNames.{IsMessage, IsTour, Reaches, Spot, word, ◌^◌, ◌∙◌}
use Rattle.std.proofs.lemmas.List.{length-map}
use Rattle.cap_walk.specs.Trails.{Ahead, IsTrail}
use Rattle.cap_walk.proofs.OneTrail.{root_trail}
use Rattle.cap_trace.specs.Branches.{AreSteps, StepsFrom, element_row}
use Rattle.cap_trace.specs.TraceNames.{Step, AreBranches, path_of, place_of, rest_from, skipped, step_of, IsRow, IsTraceable}
use Rattle.cap_trace.specs.TraceNames.{PassesAt, HasCome, HasPassed, IsBlockedAt, IsPut, ReportsPath, word_ahead, Branch, GoesBelow, IsBranch}
use Rattle.cap_trace.specs.TraceNames.{Object, Structs, WordPlace}
use Rattle.cap_trace.proofs.Branches.{branch_after, branches_join, element_branch, branches_split, element_taken, few_branches, nothing_left}
use Rattle.cap_trace.proofs.Branches.{element_steps, last_more, rest_append, row_fits, row_spot, skipped_steps, steps_join, steps_split, word_taken}
use Rattle.cap_trace.proofs.Numbering.{number_order}
use Rattle.cap_trace.proofs.Onward.{next_tour, root_tour, up_to_last}

-- Numbers count from 1.
pub some_number : (m : List (List ℕ)) (n : ℕ) (p : List Step) (s w : ℕ) → IsNumbered m p s w n → 0 < n
some_number m n p s w a = positive a.tour (a.is_tour.all p a.level s w a.reached (inl refl)) a.count
  where
    positive : (tour : List (List Step)) → IsOneOf p tour → n ≡ length tour → 0 < n
    positive [] i e = absurd i
    positive (q ∷ tour) i e = omega (arith, e)

-- A message with a path has a root word.
pub has_root : (m : List (List ℕ)) (n : ℕ) (p : List Step) (s w : ℕ) → IsNumbered m p s w n → 0 < length (segment_of m 0)
has_root m n p s w a = HasWord-inside m 0 0 a.reached.0 a.reached.2

-- At first the search is at the root word.
pub at_root : (m : List (List ℕ)) (depth : ℕ) → 0 < length m → 0 < length (segment_of m 0)
    → HasCome m depth 1 [] (record { segment = 0; at = 0 })
at_root m depth exists some = record {
  seen = [];
  trail = root_trail m some;
  tour = [] ∷ [];
  is_tour = root_tour m some;
  number = refl;
  stack = tt;
  steps = tt;
  last = refl;
  exists = exists;
  inside = some;
  passable = λ q b. absurd b;
}

-- a path reaches one place, so what passes there does
passes_there : (m : List (List ℕ)) (depth : ℕ) (p : List Step) (l s w l' s' w' : ℕ) → Reaches m p l s w
    → Reaches m p l' s' w' → PassesAt m depth s w l → PassesAt m depth s' w' l'
passes_there m depth p l s w l' s' w' r k h =
    let o = one_reached m p l l' s w s' w' r k in
    subst (λ (u : ℕ). PassesAt m depth s' w' u) o.0
    (subst (λ (u : ℕ). PassesAt m depth s' u l) o.2 (subst (λ (u : ℕ). PassesAt m depth u w l) o.1 h))

-- Where its pointer passes, the search goes on to what is ahead.
passed : (m : List (List ℕ)) (depth n : ℕ) (fs gs : List Branch) (here : WordPlace) → (h : HasCome m depth n fs here)
    → PassesAt m depth here.segment here.at (length fs + 1) → IsTrail m (path_of fs ∷ h.seen) (rest_from [] 1 gs)
    → AreBranches m depth 1 gs → AreSteps m (word 0 0) gs → HasPassed m depth n gs
passed m depth n fs gs here h passes trail branches steps = record {
  path = path_of fs;
  seen = h.seen;
  trail = trail;
  tour = h.tour;
  is_tour = h.is_tour;
  number = h.number;
  stack = branches;
  steps = steps;
  passable = λ q b level s w r. elim b [
    | inl e ↦ passes_there m depth (path_of fs) (length fs + 1) here.segment here.at level s w
        h.trail.ahead_reached.0 (subst (λ (u : List Step). Reaches m u level s w) e r) passes
    | inr k ↦ h.passable q k level s w r
  ];
}

-- Where nothing is below it, these are the words of the objects on the way down,
pub passed_over : (m : List (List ℕ)) (depth n : ℕ) (fs : List Branch) (here : WordPlace) → HasCome m depth n fs here
    → GoesBelow m depth here.segment here.at (length fs + 1) (Object None) → HasPassed m depth n fs
passed_over m depth n fs here h k =
    passed m depth n fs fs here h k.0 (k.3 h.seen (path_of fs) (rest_from [] 1 fs) h.trail) h.stack h.steps

-- and else first those of the object below.
pub passed_into : (m : List (List ℕ)) (depth n : ℕ) (fs : List Branch) (f : Branch) (here : WordPlace) → HasCome m depth n fs here
    → GoesBelow m depth here.segment here.at (length fs + 1) (Object (Some f)) → HasPassed m depth n (fs ++ f ∷ [])
passed_into m depth n fs f here h k =
    passed m depth n fs (fs ++ f ∷ []) here h k.0
    (subst (λ (u : List Ahead). IsTrail m (path_of fs ∷ h.seen) u) (sym (rest_append [] 1 fs (f ∷ [])))
    (k.3 h.seen (path_of fs) (rest_from [] 1 fs) h.trail))
    (branches_join m depth 1 fs (f ∷ []) h.stack (k.1.0, tt))
    (steps_join m (word 0 0) fs (f ∷ []) h.steps (subst (λ (u : Spot). StepsFrom m u f) (sym h.last) k.2, tt))

-- The last of these is a branch.
pub last_branch : (m : List (List ℕ)) (depth n : ℕ) (fs : List Branch) (f : Branch) → HasPassed m depth n (fs ++ f ∷ [])
    → IsBranch m depth (length fs + 1) f
last_branch m depth n fs f h = (branches_split m depth 1 fs (f ∷ []) h.stack).1.0

-- Without one that has nothing left, the same words are ahead.
pub went_up : (m : List (List ℕ)) (depth n : ℕ) (fs : List Branch) (f : Branch) → HasPassed m depth n (fs ++ f ∷ [])
    → f.count ≤ f.taken → HasPassed m depth n fs
went_up m depth n fs f h none = record {
  path = h.path;
  seen = h.seen;
  trail = subst (λ (u : List Ahead). IsTrail m (h.path ∷ h.seen) u) (nothing_left fs f none) h.trail;
  tour = h.tour;
  is_tour = h.is_tour;
  number = h.number;
  stack = (branches_split m depth 1 fs (f ∷ []) h.stack).0;
  steps = (steps_split m (word 0 0) fs (f ∷ []) h.steps).0;
  passable = h.passable;
}

-- It comes to the next word of the last row.
pub took_word : (m : List (List ℕ)) (depth n : ℕ) (fs : List Branch) (f : Branch) → HasPassed m depth n (fs ++ f ∷ [])
    → IsRow f.form → f.taken < f.count → HasCome m depth (n + 1) (fs ++ skipped f 1 ∷ []) (place_of (skipped f 1))
took_word m depth n fs f h row less =
    let gs = fs ++ skipped f 1 ∷ [] in
    let b = branches_split m depth 1 fs (f ∷ []) h.stack in
    let fits = row_fits m depth (length fs + 1) f row b.1.0 in
    let trail = subst (λ (u : List Ahead). IsTrail m (h.path ∷ h.seen) u) (word_taken fs f row less) h.trail in
    let tour : IsTour m (path_of gs) (h.tour ++ path_of gs ∷ []) =
    next_tour m h.path h.seen (word_ahead gs (place_of (skipped f 1))) (rest_from [] 1 gs) h.tour trail h.is_tour in record {
      seen = h.path ∷ h.seen;
      trail = trail;
      tour = h.tour ++ path_of gs ∷ [];
      is_tour = tour;
      number = omega (arith, h.number, length-append h.tour (path_of gs ∷ []));
      stack = branches_join m depth 1 fs (skipped f 1 ∷ []) b.0 (branch_after m depth (length fs + 1) f less b.1.0, tt);
      steps = let s = steps_split m (word 0 0) fs (f ∷ []) h.steps in steps_join m (word 0 0) fs (skipped f 1 ∷ []) s.0 (skipped_steps m _ f s.1.0, tt);
      last = last_more (word 0 0) fs (skipped f 1 ∷ []) ∙ row_spot f.form (skipped f 1) row;
      exists = b.1.0.exists;
      inside = omega (arith, fits, less);
      passable = λ q k level s w r. h.passable q (before (path_of gs) q k (one_of_last q (path_of gs) h.tour (tour.all q level s w r (inr k)))) level s w r;
    }
  where
    before : (p q : List Step) → Before q p → (q ≡ p) ⊎ IsOneOf q h.tour → (q ≡ h.path) ⊎ Before q h.path
    before p q b (inl e) = absurd (Before-irreflexive q (subst (λ (u : List Step). Before q u) (sym e) b))
    before p q b (inr i) = h.is_tour.none_after q i

-- Of a list of structs it takes the next element first.
pub took_element : (m : List (List ℕ)) (depth n : ℕ) (fs : List Branch) (f : Branch) → HasPassed m depth n (fs ++ f ∷ [])
    → f.form ≡ Structs → f.taken < f.count → HasPassed m depth n ((fs ++ skipped f 1 ∷ []) ++ element_row f ∷ [])
took_element m depth n fs f h is some =
    let b = branches_split m depth 1 fs (f ∷ []) h.stack in
    let row = element_branch m depth (length fs + 1) f is some b.1.0 in record {
      path = h.path;
      seen = h.seen;
      trail = subst (λ (u : List Ahead). IsTrail m (h.path ∷ h.seen) u) (element_taken fs f is some) h.trail;
      tour = h.tour;
      is_tour = h.is_tour;
      number = h.number;
      stack = subst (λ (u : List Branch). AreBranches m depth 1 u) (sym (append_assoc fs (skipped f 1 ∷ []) (element_row f ∷ [])))
          (branches_join m depth 1 fs (skipped f 1 ∷ element_row f ∷ []) b.0
          (branch_after m depth (length fs + 1) f some b.1.0, (row.0, tt)));
      steps = subst (λ (u : List Branch). AreSteps m (word 0 0) u) (sym (append_assoc fs (skipped f 1 ∷ []) (element_row f ∷ [])))
          (let s = steps_split m (word 0 0) fs (f ∷ []) h.steps in
          steps_join m (word 0 0) fs (skipped f 1 ∷ element_row f ∷ []) s.0 (skipped_steps m _ f s.1.0, (element_steps m f is row.1, tt)));
      passable = h.passable;
    }

-- There are at most as many branches as levels.
pub few_passed : (m : List (List ℕ)) (depth n : ℕ) (fs : List Branch) → HasPassed m depth n fs → length fs ≤ depth
few_passed m depth n fs h = few_branches m depth fs h.stack

-- The words of the last row, and those of the next element of a last list, have numbers of 32 bits.
pub row_ends : (m : List (List ℕ)) (depth n : ℕ) (fs : List Branch) (f : Branch) → IsMessage m
    → HasPassed m depth n (fs ++ f ∷ []) → IsRow f.form → f.start + f.count < 2 ^ 32
row_ends m depth n fs f message h row =
    let b = last_branch m depth n fs f h in
    omega (arith, row_fits m depth _ f row b, short_segment m f.segment message b.exists)

pub element_ends : (m : List (List ℕ)) (depth n : ℕ) (fs : List Branch) (f : Branch) → IsMessage m
    → HasPassed m depth n (fs ++ f ∷ []) → f.form ≡ Structs → f.taken < f.count
    → ((element_row f).start + f.pointers < 2 ^ 32) × (0 < f.pointers)
element_ends m depth n fs f message h is some =
    let b = element_branch m depth _ f is some (last_branch m depth n fs f h) in
    (omega (arith, b.0.inside, short_segment m f.segment message b.0.exists), b.1)

-- The path to where it is has the number that it has come to.
pub numbered_here : (m : List (List ℕ)) (depth n : ℕ) (fs : List Branch) (here : WordPlace) → HasCome m depth n fs here
    → IsNumbered m (path_of fs) here.segment here.at n
numbered_here m depth n fs here h =
    record { level = length fs + 1; tour = h.tour; reached = h.trail.ahead_reached.0; is_tour = h.is_tour; count = h.number }

-- It is traceable.
pub traceable_here : (m : List (List ℕ)) (depth n : ℕ) (fs : List Branch) (here : WordPlace) → HasCome m depth n fs here
    → IsTraceable m depth n (path_of fs)
traceable_here m depth n fs here h =
    record { segment = here.segment; at = here.at; numbered = numbered_here m depth n fs here h; passable = h.passable }

-- Where no words are left, no path has a higher number.
pub none_higher : (m : List (List ℕ)) (depth n more : ℕ) (fs : List Branch) (q : List Step) → HasPassed m depth n fs
    → (0 < length fs → ⊥) → n < more → IsTraceable m depth more q → ⊥
none_higher m depth n more (f ∷ fs) q h none less a = none (omega arith)
none_higher m depth n more [] q h none less a =
    let p = h.path in
    let (level, s, w, r) = h.trail.seen_reached p (inl refl) in
    let here : IsNumbered m p s w n =
    record { level = level; tour = h.tour; reached = r; is_tour = h.is_tour; count = h.number } in
    let b : Before p q = number_order m n more p q s w a.segment a.at here a.numbered less in
    elim (h.trail.complete q a.numbered.level a.segment a.at a.numbered.reached) [
      | inl i ↦ elim (up_to_last p q h.seen h.trail.falls i) [
        | inl e ↦ Before-irreflexive p (subst (λ (u : List Step). Before p u) e b)
        | inr k ↦ Before-asymmetric p q b k
      ]
      | inr none ↦ none
    ]

-- Where there is no way on, no path of a higher number is traceable.
pub none_past : (m : List (List ℕ)) (depth n more : ℕ) (fs : List Branch) (here : WordPlace) (q : List Step)
    → HasCome m depth n fs here → IsBlockedAt m depth here.segment here.at (length fs + 1) → n < more → IsTraceable m depth more q → ⊥
none_past m depth n more fs here q h blocked less a =
    let b : Before (path_of fs) q =
    number_order m n more (path_of fs) q here.segment here.at a.segment a.at (numbered_here m depth n fs here h) a.numbered less in
    let on = a.passable (path_of fs) b (length fs + 1) here.segment here.at h.trail.ahead_reached.0 in
    elim blocked [ inl wrong ↦ on.0 wrong.0 wrong.1 | inr deep ↦ on.1 deep ]

-- Its path is what is written, and has few steps.
pub found_reported : {S : Type 0} (slot : Step → S) (m : List (List ℕ)) (depth n : ℕ) (fs : List Branch) (here : WordPlace)
    (count : ℕ) (old new : List S) → HasCome m depth n fs here → count ≡ length (path_of fs) → IsPut slot (path_of fs) old new
    → ReportsPath slot m depth n old (Some count) new × (count ≤ depth)
found_reported slot m depth n fs here count old new h many put = (
  (path_of fs, traceable_here m depth n fs here h, many, put),
  omega (arith, many, length-map fs step_of, few_branches m depth fs h.stack),
)
