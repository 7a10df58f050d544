-- What one turn of a walk keeps.
use Rattle.cap_spec.proofs.Lemmas.{one_word, Before-asymmetric, one_reached, lead_kind, one_object, one_lead}
use Rattle.cap_spec.proofs.ProofNames.{List, None, Option, Some, [], append-nil, arith, inl, inr, length-append}
use Rattle.cap_spec.proofs.ProofNames.{rules, map, max, refl, subst, sym, ℕ, ◌++◌, ◌+◌, ◌∙◌, ◌∷◌, ◌≡◌, ◌≤◌, Finds}
use Rattle.cap_spec.proofs.ProofNames.{AreShallow, IsComposite, Leads, extra, to_cap, to_null, IsOneOf, HasWord}
use Rattle.cap_spec.proofs.ProofNames.{Before, Costs, PathLeads, Reaches, Spot, StepsTo, word, extent, CostOf}
use Rattle.cap_spec.proofs.ProofNames.{IsDeepAt, levels_below}
use Rattle.cap_walk.specs.WalkNames.{Step, object_children, PointerWord, pointer_word_of, Ahead, Falls, or_place}
use Rattle.cap_walk.specs.WalkNames.{IsFirstOf, Progress}
use Rattle.cap_walk.specs.Walking.{LeadsToCap}
use Rattle.cap_walk.proofs.Apart.{not_before-self}
use Rattle.cap_walk.proofs.Children.{no_children}
use Rattle.cap_walk.proofs.Counting.{count-step}
use Rattle.cap_walk.proofs.Objects.{near-append, near-deeper, object-brings}
use Rattle.cap_walk.proofs.Steps.{cap-counts, cap_no_object, null-counts, null_no_object}
use Rattle.cap_walk.proofs.Tours.{Falls-before}
use Rattle.cap_walk.proofs.Trails.{falls-step, trail-step}

-- the word ahead that is at a place
pub record Next (x : PointerWord) (places : List PointerWord) (aheads : List Ahead) : Type 0 where
  pub a : Ahead
  pub ahead : List Ahead
  pub whole : aheads ≡ a ∷ ahead
  pub segment : a.segment ≡ x.0
  pub word : a.word ≡ x.1
  pub level : a.level ≡ x.2
  pub rest : map pointer_word_of ahead ≡ places

pub next_ahead : (x : PointerWord) (places : List PointerWord) (aheads : List Ahead) → map pointer_word_of aheads ≡ x ∷ places → Next x places aheads
next_ahead x places [] e = absurd (let h : [] ≡ x ∷ places = e in cc)
next_ahead x places (a ∷ ahead) e = search rules

-- null and capabilities lead to no node
pub null_ends : (m : List (List ℕ)) (s w k : ℕ) → Leads m s w k to_null
    → (x : Step) (v : List Step) (mid : Spot) (n s' w' : ℕ) → StepsTo m (word s w) x mid → PathLeads m mid v n (word s' w') → ⊥
null_ends m s w k h x v mid n s' w' g walks = search (rules, null_no_object)

pub cap_ends : (m : List (List ℕ)) (s w k i : ℕ) → Leads m s w k (to_cap i)
    → (x : Step) (v : List Step) (mid : Spot) (n s' w' : ℕ) → StepsTo m (word s w) x mid → PathLeads m mid v n (word s' w') → ⊥
cap_ends m s w k i h x v mid n s' w' g walks = search (rules, cap_no_object)

-- one more path that costs this much
pub costs_on : {m : List (List ℕ)} (p : List Step) (seen : List (List Step)) {level s w cost : ℕ} (charge : ℕ)
    → Reaches m p level s w → Costs m s w cost → CostOf m seen charge → CostOf m (p ∷ seen) (charge + cost)
costs_on p seen {level} {s} {w} {cost} charge r c rest = (level, s, w, cost, charge, r, c, rest, omega arith)

-- one more path that isn't too deep
pub shallow_on : (m : List (List ℕ)) (depth level s w : ℕ) (p : List Step) (seen : List (List Step))
    → Reaches m p level s w → ¬ IsDeepAt m depth s w level → AreShallow m depth seen → AreShallow m depth (p ∷ seen)
shallow_on m depth level s w p seen r none others q level' s' w' (inl e) r' deep =
    let same = one_reached m p level' level s' w' s w (subst (λ u. Reaches m u level' s' w') e r') r in
    none (search rules)
shallow_on m depth level s w p seen r none others q level' s' w' (inr h) r' deep = others q level' s' w' h r' deep

-- a path that leads to no capability changes nothing of the first that does
pub first_on : (m : List (List ℕ)) (p : List Step) (seen : List (List Step)) (first : Option (ℕ × ℕ))
    → ((s w : ℕ) → ¬ LeadsToCap m p s w) → IsFirstOf m seen first → IsFirstOf m (p ∷ seen) first
first_on m p seen None none h = λ q s w i lead. never q s w i lead
  where
    never : (q : List Step) (s w : ℕ) → IsOneOf q (p ∷ seen) → ¬ LeadsToCap m q s w
    never q s w (inl e) lead = none s w (subst (λ u. LeadsToCap m u s w) e lead)
    never q s w (inr k) lead = h q s w k lead
first_on m p seen (Some place) none (r, k, l, f) = (r, inr k, l, λ q s w i before lead. earlier q s w i before lead)
  where
    earlier : (q : List Step) (s w : ℕ) → IsOneOf q (p ∷ seen) → Before q r → ¬ LeadsToCap m q s w
    earlier q s w (inl e) before lead = none s w (subst (λ u. LeadsToCap m u s w) e lead)
    earlier q s w (inr i) before lead = f q s w i before lead

-- a capability after all that was looked at
pub first_cap : (m : List (List ℕ)) (p : List Step) (seen : List (List Step)) (first : Option (ℕ × ℕ)) (s w : ℕ)
    → Falls (p ∷ seen) → LeadsToCap m p s w → IsFirstOf m seen first → IsFirstOf m (p ∷ seen) (or_place first s w)
first_cap m p seen None s w falls here h = (p, inl refl, here, λ q s' w' i before lead. earlier q s' w' i before lead)
  where
    earlier : (q : List Step) (s' w' : ℕ) → IsOneOf q (p ∷ seen) → Before q p → ¬ LeadsToCap m q s' w'
    earlier q s' w' (inl e) before lead = not_before-self p [] (subst (λ u. Before u p) (e ∙ sym (append-nil p)) before)
    earlier q s' w' (inr i) before lead = h q s' w' i lead
first_cap m p seen (Some place) s w falls here (r, k, l, f) = (r, inr k, l, λ q s' w' i before lead. earlier q s' w' i before lead)
  where
    earlier : (q : List Step) (s' w' : ℕ) → IsOneOf q (p ∷ seen) → Before q r → ¬ LeadsToCap m q s' w'
    earlier q s' w' (inl e) before lead = Before-asymmetric p r (search rules) (Falls-before p r seen falls k)
    earlier q s' w' (inr i) before lead = f q s' w' i before lead

-- a turn at null
pub turn_null : (m : List (List ℕ)) (words depth charge deepest pointers caps cost : ℕ) (first : Option (ℕ × ℕ))
    (seen : List (List Step)) (a : Ahead) (ahead : List Ahead)
    → Progress m words depth charge deepest pointers caps first seen (a ∷ ahead) → Leads m a.segment a.word cost to_null → charge + cost ≤ words
    → Progress m words depth (charge + cost) deepest (pointers + 1) caps first (a.path ∷ seen) ahead
turn_null m words depth charge deepest pointers caps cost first seen a ahead t h within =
    let r = t.trail.ahead_reached.0 in
    let e : caps + 0 ≡ caps = omega arith in record {
      trail = trail-step t.trail (no_children r (null_ends m a.segment a.word cost h));
      count = rw (← e) (count-step m record { charge = charge; depth = deepest; pointers = pointers; caps = caps } a
          [] ahead cost deepest 0 t.count (null-counts m a cost deepest h t.near.0 t.near.1));
      near = t.near.2;
      within = within;
      shallow = t.shallow;
      costs = costs_on a.path seen charge r (inl h) t.costs;
      levels = shallow_on m depth a.level a.segment a.word a.path seen r (search (rules, null_no_object)) t.levels;
      number = omega (arith, t.number);
      bound = omega (arith, t.bound);
      few = omega (arith, t.few);
      first_cap = first_on m a.path seen first (λ s w lead.
          let same = one_reached m a.path a.level lead.0 a.segment a.word s w r lead.3 in
          search (rules, one_lead)) t.first_cap;
    }

-- a turn at a capability
pub turn_cap : (m : List (List ℕ)) (words depth charge deepest pointers caps cost i : ℕ) (first : Option (ℕ × ℕ))
    (seen : List (List Step)) (a : Ahead) (ahead : List Ahead)
    → Progress m words depth charge deepest pointers caps first seen (a ∷ ahead) → Leads m a.segment a.word cost (to_cap i) → charge + cost ≤ words
    → Progress m words depth (charge + cost) deepest (pointers + 1) (caps + 1) (or_place first a.segment a.word) (a.path ∷ seen) ahead
turn_cap m words depth charge deepest pointers caps cost i first seen a ahead t h within =
    let r = t.trail.ahead_reached.0 in record {
      trail = trail-step t.trail (no_children r (cap_ends m a.segment a.word cost i h));
      count = count-step m record { charge = charge; depth = deepest; pointers = pointers; caps = caps } a [] ahead cost
          deepest 1 t.count (cap-counts m a cost i deepest h t.near.0 t.near.1);
      near = t.near.2;
      within = within;
      shallow = t.shallow;
      costs = costs_on a.path seen charge r (inr (inl (i, h))) t.costs;
      levels = shallow_on m depth a.level a.segment a.word a.path seen r (search (rules, cap_no_object)) t.levels;
      number = omega (arith, t.number);
      bound = omega (arith, t.bound);
      few = omega (arith, t.few);
      first_cap = first_cap m a.path seen first a.segment a.word (falls-step a seen ahead t.trail.falls t.trail.precedes) (a.level, cost, i, r, h) t.first_cap;
    }

-- the level of an object, whichever way it is reported
pub deep_once : (m : List (List ℕ)) (depth s w level k t b q tag : ℕ) → Finds m s w k t b q
    → (IsComposite q → HasWord m t b tag) → level + levels_below q tag ≤ depth → ¬ IsDeepAt m depth s w level
deep_once m k s w e g a b c d f i h j = search (rules, one_object, one_word, lead_kind)

-- a turn at an object
pub turn_object : {m : List (List ℕ)} {words depth charge deepest pointers caps k t b q tag : ℕ}
    {first : Option (ℕ × ℕ)} {seen : List (List Step)} {a : Ahead} {ahead : List Ahead}
    → Progress m words depth charge deepest pointers caps first seen (a ∷ ahead) → Finds m a.segment a.word k t b q → (IsComposite q → HasWord m t b tag)
    → charge + (k + extent q + extra q tag) ≤ words → a.level + levels_below q tag ≤ depth
    → Progress m words depth (charge + (k + extent q + extra q tag)) (max deepest (a.level + levels_below q tag))
    (pointers + 1) caps first (a.path ∷ seen) (object_children a.path q tag t b a.level ++ ahead)
turn_object {m} {depth} {charge} {deepest} {pointers} {caps} {k} {t} {b} {q} {tag} {first} {seen} {a} {ahead} h f tagged within shallow =
    let r = h.trail.ahead_reached.0 in
    let o = object-brings m a k t b q tag deepest r f tagged in
    let children : List Ahead = object_children a.path q tag t b a.level in
    let e : caps + 0 ≡ caps = omega arith in record {
      trail = trail-step h.trail o.children;
      count = rw (← e) (count-step m record { charge = charge; depth = deepest; pointers = pointers; caps = caps } a
          children ahead (k + extent q + extra q tag) (max deepest (a.level + levels_below q tag)) 0 h.count
          o.counts);
      near = near-append (max deepest (a.level + levels_below q tag)) children ahead o.near
          (near-deeper deepest (max deepest (a.level + levels_below q tag)) ahead (omega arith) h.near.2);
      within = within;
      shallow = omega (arith, h.shallow, shallow);
      costs = costs_on a.path seen charge r (inr (inr (k, t, b, q, tag, f, tagged, refl))) h.costs;
      levels = shallow_on m depth a.level a.segment a.word a.path seen r (search (rules, deep_once)) h.levels;
      number = omega (arith, h.number);
      bound = omega (arith, h.bound, o.few, length-append children ahead);
      few = omega (arith, h.few);
      first_cap = first_on m a.path seen first (λ s w lead.
          let same = one_reached m a.path a.level lead.0 a.segment a.word s w r lead.3 in
          cap_no_object m s w lead.1 lead.2 k t b q lead.4 (search rules)) h.first_cap;
    }
