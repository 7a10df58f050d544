-- The pointer that a refusal names has its path.
use Rattle.cap_spec.specs.declared.StrictRefusal.{StrictRefusal}
use Rattle.cap_spec.specs.declared.StrictRefusal.TheVariants.{ManySegments, Pointer, Refused}
use Rattle.cap_spec.proofs.ProofNames.{IfSome, List, None, Option, Some, ap, arith, inl, inr, length, option_map, refl}
use Rattle.cap_spec.proofs.ProofNames.{subst, sym, take, ℕ, ◌∙◌, ◌≡◌, ◌≤◌, IsWithin, IsFirstFault, IsRefused, IsFirstLax}
use Rattle.cap_walk.specs.Demands.{IsDemandFault, words_under}
use Rattle.cap_walk.specs.declared.demands.Demands.{Demands}
use Rattle.cap_trace.specs.NamedPaths.{IsTraced, fault_path, pointer_number, refused_path}
use Rattle.cap_trace.specs.TraceNames.{Lax, Refusal, Step, IsTraceable, GivesPath, ReportsPath}
use Rattle.cap_trace.proofs.Coming.{some_number}
use Rattle.cap_trace.proofs.Filling.{take_put}
use Rattle.cap_trace.proofs.Numbering.{one_numbered}
use Rattle.cap_trace.proofs.Traceable.{fault_traceable, lax_traceable}

-- There is no path of number 0.
pub none_traced : (m : List (List ℕ)) (depth n : ℕ) (path : Option (List Step)) → n ≡ 0 → IsTraced m depth n path → path ≡ None
none_traced m depth n None z t = refl
none_traced m depth n (Some path) z t = absurd (omega (arith, z, some_number m n path t.segment t.at t.numbered))

-- What is found by the number of a refusal is the path of the refusal.
pub path_named : (demands : Demands) (m : List (List ℕ)) (words depth n : ℕ) (found : Option (List Step))
    (fault : StrictRefusal) → n ≡ pointer_number fault → IsTraced m depth n found
    → ((words : ℕ) (r : Refusal) → (f : IsFirstFault m words depth r) → r.pointers ≡ n → found ≡ Some f.path)
    → ((words s w : ℕ) (what : Lax) → IsWithin m words depth → (f : IsFirstLax m s w what n) → found ≡ Some f.path)
    → (h : IsDemandFault demands m words depth fault) → found ≡ fault_path demands m words depth fault h
path_named demands m words depth n found (Refused r) e t first lax (inl none) =
    none_traced m depth n found (e ∙ none.pointers) t
path_named demands m words depth n found (Refused r) e t first lax (inr f) = first (words_under demands m words) r f (sym e)
path_named demands m words depth n found ManySegments e t first lax h = none_traced m depth n found e t
path_named demands m words depth n found (Pointer what s w k) e t first lax h =
    subst (λ (u : ℕ). (f : IsFirstLax m s w what u) → found ≡ Some f.path) e
    (lax (words_under demands m words) s w what h.1.0) h.1.2

-- The first steps of a buffer with enough capacity are the path that was written to it.
pub path_taken : (path old : List Step) (count : Option ℕ) (new : List Step) (depth : ℕ) → IfSome count (λ k. k ≤ depth)
    → depth ≤ length old → GivesPath (λ (s : Step). s) path old count new → option_map (λ n. take n new) count ≡ Some path
path_taken path old count new depth few most g =
    let fits : length path ≤ depth = subst (λ (u : Option ℕ). IfSome u (λ k. k ≤ depth)) g.0 few in
    ap (option_map (λ n. take n new)) g.0 ∙ ap Some (take_put path old new (omega (arith, fits, most)) g.1)

-- So they are the traceable path.
pub traced_taken : (m : List (List ℕ)) (depth n : ℕ) (old : List Step) (count : Option ℕ) (new : List Step)
    → IfSome count (λ k. k ≤ depth) → depth ≤ length old → ReportsPath (λ (s : Step). s) m depth n old count new
    → IsTraced m depth n (option_map (λ n. take n new) count)
traced_taken m depth n old None new few most t = t.0
traced_taken m depth n old (Some k) new few most t =
    let e : take k new ≡ t.0 = ap (λ (j : ℕ). take j new) t.2 ∙ take_put t.0 old new (omega (arith, t.2, few, most)) t.3 in
    subst (λ (u : List Step). IsTraceable m depth n u) (sym e) t.1

-- The refusal decides the path.
one_refused : (m : List (List ℕ)) (words depth : ℕ) (r : Refusal) (h k : IsRefused m words depth r)
    → refused_path m words depth r h ≡ refused_path m words depth r k
one_refused m words depth r (inl none) (inl also) = refl
one_refused m words depth r (inl none) (inr g) =
    absurd (omega (arith, none.pointers, some_number m r.pointers g.path _ _ (fault_traceable m words depth r g).numbered))
one_refused m words depth r (inr f) (inl none) =
    absurd (omega (arith, none.pointers, some_number m r.pointers f.path _ _ (fault_traceable m words depth r f).numbered))
one_refused m words depth r (inr f) (inr g) =
    ap Some (one_numbered m r.pointers f.path g.path (fault_traceable m words depth r f).numbered
    (fault_traceable m words depth r g).numbered)

pub one_path : (demands : Demands) (m : List (List ℕ)) (words depth : ℕ) (fault : StrictRefusal)
    (h k : IsDemandFault demands m words depth fault)
    → fault_path demands m words depth fault h ≡ fault_path demands m words depth fault k
one_path demands m words depth (Refused r) h k = one_refused m (words_under demands m words) depth r h k
one_path demands m words depth ManySegments h k = refl
one_path demands m words depth (Pointer what s w n) h k =
    let limit = words_under demands m words in
    ap Some (one_numbered m n h.1.2.path k.1.2.path (lax_traceable m limit depth s w what n h.1.0 h.1.2).numbered
    (lax_traceable m limit depth s w what n k.1.0 k.1.2).numbered)
