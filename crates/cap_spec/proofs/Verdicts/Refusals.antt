-- A refusal at the first fault is justified, so that a message isn't both accepted and refused.
use Rattle.cap_spec.specs.Faults.{is_wrong}
use Rattle.cap_spec.specs.Verdicts.{is_wrong as wrong_there}
use Rattle.cap_spec.proofs.Paths.Preorder.{Rises-distinct}
use Rattle.cap_spec.proofs.ProofNames.{List, [], inl, inr, ℕ, ◌++◌, ◌∷◌, IsWithin, IsFirstReason, IsRefused, is_deep}
use Rattle.cap_spec.proofs.ProofNames.{is_past, Justified, no_root, past_limit, too_deep, Refusal}
use Rattle.cap_spec.proofs.Verdicts.KeptBefore.{kept_before}
use Rattle.cap_spec.proofs.Verdicts.OneFault.{distinct_last, fault_tour}
use Rattle.cap_spec.proofs.Verdicts.OneVerdict.{within_not_justified}

-- A refusal at the first fault is justified.
pub refused_justified : (m : List (List ℕ)) (words depth : ℕ) (r : Refusal) → IsRefused m words depth r
    → Justified m words depth r
refused_justified m words depth r (inl h) = no_root h.lacks
refused_justified m words depth r (inr f) = by_reason f.fault.reason
  where
    by_reason : IsFirstReason m words depth f.fault.charge r.segment r.word f.fault.numbered.level r.reason
        → Justified m words depth r
    by_reason (is_wrong h) = wrong_there (f.path, f.fault.numbered.level, f.fault.numbered.reached, h)
    by_reason (is_deep e deep) = too_deep e (f.path, f.fault.numbered.level, f.fault.numbered.reached, deep)
    by_reason (is_past cost e not_deep costs past) = past_limit e record {
      paths = f.fault.before;
      last = f.path;
      level = f.fault.numbered.level;
      before = f.fault.charge;
      one = cost;
      reached = f.fault.numbered.reached;
      costs = costs;
      others = f.fault.costs;
      distinct = distinct_last f.fault.before f.path
          (Rises-distinct (f.fault.before ++ f.path ∷ []) (fault_tour f.fault).rising);
      within = (kept_before f).0;
      past = past;
    }

-- An accepted message isn't refused.
pub within_not_refused : (m : List (List ℕ)) (words depth : ℕ) (r : Refusal) → IsWithin m words depth
    → ¬ IsRefused m words depth r
within_not_refused m words depth r a f = within_not_justified m words depth r a (refused_justified m words depth r f)
