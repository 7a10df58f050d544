-- The pointer that a verdict names can be traced.
use Rattle.cap_spec.specs.declared.Reason.{Reason}
use Rattle.cap_spec.proofs.Lemmas.{Before-irreflexive, one_reached, kept_before, fault_tour, one_of_last}
use Rattle.cap_spec.proofs.Lemmas.{paths_within_depth, reached_not_wrong}
use Rattle.cap_spec.proofs.ProofNames.{List, None, Option, Some, [], ap, arith, inl, inr, length, subst, sym, ℕ, ◌∙◌}
use Rattle.cap_spec.proofs.ProofNames.{◌∷◌, ◌≡◌, ◌⊎◌, IsWithin, IsFirstFault, Wrong, IsOneOf, IsFirstOverlap, Before}
use Rattle.cap_spec.proofs.ProofNames.{Reaches, IsFirstLax, CostOf, IsNumbered}
use Rattle.cap_spec.proofs.Verdicts.OneFault.{costs_not_wrong}
use Rattle.cap_trace.specs.PointerNumbers.{IsPassable}
use Rattle.cap_trace.specs.TraceNames.{Lax, Refusal, Step, IsPut, IsTraceable, GivesPath, ReportsPath}
use Rattle.cap_trace.proofs.Numbering.{one_numbered}

-- nothing is wrong at the paths that have a cost
not_wrong_among : (m : List (List ℕ)) (ps : List (List Step)) (x : ℕ) (p : List Step) (level s w : ℕ) (v : Reason)
    → CostOf m ps x → IsOneOf p ps → Reaches m p level s w → Wrong m s w v → ⊥
not_wrong_among m [] x p level s w v h i r wrong = absurd i
not_wrong_among m (q ∷ qs) x p level s w v h (inl e) r wrong =
    let (level', s', w', one, rest, reached, costs, after, sum) = h in
    let o = one_reached m q level level' s w s' w' (subst (λ (u : List Step). Reaches m u level s w) e r) reached in
    costs_not_wrong m s' w' one v costs
    (subst (λ (u : ℕ). Wrong m s' u v) o.2 (subst (λ (u : ℕ). Wrong m u w v) o.1 wrong))
not_wrong_among m (q ∷ qs) x p level s w v h (inr i) r wrong =
    let (level', s', w', one, rest, reached, costs, after, sum) = h in
    not_wrong_among m qs rest p level s w v after i r wrong

-- The paths before the first fault are passable.
pub fault_traceable : (m : List (List ℕ)) (words depth : ℕ) (r : Refusal) → (f : IsFirstFault m words depth r)
    → IsTraceable m depth r.pointers f.path
fault_traceable m words depth r f = record {
  segment = r.segment;
  at = r.word;
  numbered = f.fault.numbered;
  passable = λ q b level s w reach.
      let tour = fault_tour f.fault in
      let i = before q b (one_of_last q f.path f.fault.before (tour.all q level s w reach (inr b))) in (
        (λ v wrong. not_wrong_among m f.fault.before f.fault.charge q level s w v f.fault.costs i reach wrong),
        (kept_before f).1 q level s w i reach,
      );
}
  where
    before : (q : List Step) → Before q f.path → (q ≡ f.path) ⊎ IsOneOf q f.fault.before → IsOneOf q f.fault.before
    before q b (inl e) = absurd (Before-irreflexive q (subst (λ (u : List Step). Before q u) (sym e) b))
    before q b (inr i) = i

-- All paths of an accepted message are passable.
pub accepted_passable : (m : List (List ℕ)) (words depth : ℕ) → IsWithin m words depth → (q : List Step) → IsPassable m depth q
accepted_passable m words depth (t, c, d, a) q = λ level s w r. (
  (λ v wrong. reached_not_wrong m t c d a.denotes q level s w v r wrong),
  (λ (k, t', b, x, tag, f, tagged, past).
      omega (arith, paths_within_depth m t c d a.denotes q level s w k t' b x tag r f tagged, a.few_levels, past)),
)

pub accepted_traceable : (m : List (List ℕ)) (words depth s w n : ℕ) (path : List Step) → IsWithin m words depth
    → IsNumbered m path s w n → IsTraceable m depth n path
accepted_traceable m words depth s w n path a numbered = record {
  segment = s;
  at = w;
  numbered = numbered;
  passable = λ q b. accepted_passable m words depth a q;
}

pub lax_traceable : (m : List (List ℕ)) (words depth s w : ℕ) (what : Lax) (n : ℕ) → IsWithin m words depth
    → (f : IsFirstLax m s w what n) → IsTraceable m depth n f.path
lax_traceable m words depth s w what n a f = accepted_traceable m words depth s w n f.path a f.numbered

pub overlap_traceable : (m : List (List ℕ)) (words depth s w n : ℕ) → IsWithin m words depth
    → (f : IsFirstOverlap m s w n) → IsTraceable m depth n f.path
overlap_traceable m words depth s w n a f = accepted_traceable m words depth s w n f.path a f.numbered

-- What is written is the traceable path of its number.
pub gives_traceable : {S : Type 0} (slot : Step → S) (m : List (List ℕ)) (depth n : ℕ) (path : List Step) (old : List S)
    (result : Option ℕ) (new : List S) → ReportsPath slot m depth n old result new → IsTraceable m depth n path
    → GivesPath slot path old result new
gives_traceable slot m depth n path old None new h a = absurd (h.0 path a)
gives_traceable slot m depth n path old (Some count) new h a =
    let e = one_numbered m n h.0 path h.1.numbered a.numbered in
    (ap Some (h.2 ∙ ap length e), subst (λ (u : List Step). IsPut slot u old new) e h.3)

-- So it is that of the first fault.
pub gives_fault : {S : Type 0} (slot : Step → S) (m : List (List ℕ)) (words depth n : ℕ) (r : Refusal) (old : List S)
    (result : Option ℕ) (new : List S) → ReportsPath slot m depth n old result new
    → (f : IsFirstFault m words depth r) → r.pointers ≡ n → GivesPath slot f.path old result new
gives_fault slot m words depth n r old result new h f e =
    gives_traceable slot m depth n f.path old result new h
    (subst (λ (u : ℕ). IsTraceable m depth u f.path) e (fault_traceable m words depth r f))
