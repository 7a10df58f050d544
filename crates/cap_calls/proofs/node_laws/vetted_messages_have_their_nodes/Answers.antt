use Rattle.cap_spec.proofs.ProofNames.{rules}
use Rattle.std.proofs.Common.{IsFalse, List, ap, inl, inr, length, not, subst, sym, true, ℕ, ◌∙◌, ◌≡◌, ◌⊎◌}
use Rattle.cap_spec.specs.PathTexts.{IsPath}
use Rattle.cap_spec.proofs.Paths.PathTexts.{path_not_bad}
use Rattle.cap_vet.specs.VetNames.{Meets, words_under, MeetsOnPath}
use Rattle.cap_vet.proofs.PathFaults.{meets_no_path_fault}
use Rattle.cap_calls.specs.CallFindings.{accepted, without}
use Rattle.cap_calls.specs.NodeCalls.{bad_limits}
use Rattle.cap_calls.specs.CallNames.{Step, Demands, refusal_answer, framed, refused, reports, trailing}
use Rattle.cap_calls.specs.CallNames.{allows_trailing, demands_of, has_no_table, HasFrame, HasTrailing, of_frame}
use Rattle.cap_calls.specs.CallNames.{of_no_words, of_words, none_node, ReportsMessage, ReportsVet, Gets, ReportsGet}
use Rattle.cap_calls.specs.CallNames.{a_path, bad_path, AreStepKinds, EndsRange, GetsRange, ReportsRange, full, past}
use Rattle.cap_calls.specs.CallNames.{path_after, stops, unknown, Answer, Found, CallLimits, CallNode, CallReport}
use Rattle.cap_calls.specs.CallNames.{CallStep}
use Rattle.cap_calls.proofs.Answers.{no_cause, one_extent}
use Rattle.cap_calls.proofs.PathCharges.{path_charged}
use Rattle.cap_calls.proofs.Wider.{cause_not_zero, not_zero, refusal_not_zero}
use Rattle.cap_calls.proofs.Words.{one_input}
use Rattle.cap_calls.specs.RangeCalls as range
use Rattle.cap_calls.specs.declared.answer.Answer.TheVariants as answer
use Rattle.cap_calls.proofs.node_laws.vetted_messages_have_their_nodes.Goals as goal

-- The call for the node at a path refuses nothing that the vetter accepts.
-- What a message meets, the pointers on each path meet.
meets_on_path : (demands : Demands) (m : List (List ℕ)) (words depth : ℕ) → Meets demands m words depth
    → (path : List Step) → MeetsOnPath demands m words depth path
meets_on_path demands m words depth h path =
    record {
      within = path_charged m (words_under demands m words) depth h.within path;
      strict = λ e. let s = h.strict e in (s.few_segments, λ q b. s.none q);
    }

-- the frame of a message that is accepted
record IsAcceptedFrame (l : CallLimits) (bs : List ℕ) : Type 0 where
  m : List (List ℕ)
  frame : ℕ
  segments : ℕ
  framed : HasFrame l bs frame segments m
  meets : Meets (demands_of l) m l.charge l.depth
  alone : not (allows_trailing l) ≡ true → ¬ HasTrailing l bs

accepted_frame : (l : CallLimits) (bs : List ℕ) (r : CallReport) → IsFalse (has_no_table l) → ReportsVet l bs answer.Good r
    → IsAcceptedFrame l bs
accepted_frame l bs r off (f, of_no_words on c h e k, q) = one_input l off on
accepted_frame l bs r off (f, of_words on g h p e, q) = one_input l off on
accepted_frame l bs r off (f, of_frame n (trailing m x y t h more e k), q) = search (rules, not_zero)
accepted_frame l bs r off (f, of_frame n (reports only (without c h e k)), q) = search (rules, not_zero, cause_not_zero)
accepted_frame l bs r off (f, of_frame n (reports only (framed m x y g h (refused v u j i) e)), q) =
    search (rules, not_zero (refusal_answer v) (refusal_not_zero v) (sym (ap (λ (z : Found). z.answer) j) ∙ sym (ap (λ (z : Found). z.answer) e) ∙ sym q.0), refusal_not_zero v)
accepted_frame l bs r off (f, of_frame n (reports only (framed m x y g h (accepted v u n' j) e)), q) = search rules

-- what is found where the pointers on the path meet the demands
got : (path : List Step) (node : CallNode) (demands : Demands) (m : List (List ℕ)) (words depth : ℕ) (g : Found)
    → MeetsOnPath demands m words depth path → Gets path node demands m words depth g
    → (g.answer ≡ answer.Good) ⊎ (g.answer ≡ answer.NoNode)
got path node demands m words depth g h k = search (rules, meets_no_path_fault)

-- So each path of an accepted message has a node or none.
module _ (l : CallLimits) (bs : List ℕ) (k : IsAcceptedFrame l bs) where
  on_path : (m : List (List ℕ)) (x y : ℕ) → HasFrame l bs x y m → (path : List Step)
      → MeetsOnPath (demands_of l) m l.charge l.depth path
  on_path m x y h path =
      subst (λ (z : List (List ℕ)). MeetsOnPath (demands_of l) z l.charge l.depth path)
      (one_extent l bs k.frame x k.segments y k.m m k.framed h).2
      (meets_on_path (demands_of l) k.m l.charge l.depth k.meets path)

  path_got : (path : List Step) (node : CallNode) (f : Found)
      → ReportsMessage (node ≡ none_node) (Gets path node (demands_of l)) l bs f
      → (f.answer ≡ answer.Good) ⊎ (f.answer ≡ answer.NoNode)
  path_got path node f (trailing m x y t h more e i) = absurd (k.alone t (m, x, y, h, more))
  path_got path node f (reports only (without c h e i)) = absurd (no_cause l bs c k.frame k.segments k.m h k.framed)
  path_got path node f (reports only (framed m x y g h p e)) = search (rules, got path node (demands_of l) m l.charge l.depth g (on_path m x y h path) p, on_path m x y h path)

  -- and so does each path of a range.
  ends_got : (path : ℕ → List Step) (capacity : ℕ) (m : List (List ℕ)) (f : Found)
      → ((p : List Step) → MeetsOnPath (demands_of l) m l.charge l.depth p)
      → EndsRange path capacity (demands_of l) m l.charge l.depth f → (f.answer ≡ answer.Good) ⊎ (f.answer ≡ answer.NoNode)
  ends_got path capacity m f meets (full e) = inl (ap (λ (z : Found). z.answer) e)
  ends_got path capacity m f meets (stops less g h none e) = search (rules, got (path f.count) none_node (demands_of l) m l.charge l.depth g (meets (path f.count)) h)

  range_got : (path : ℕ → List Step) (old new : List CallNode) (f : Found)
      → ReportsMessage (new ≡ old) (GetsRange path old new (demands_of l)) l bs f
      → (f.answer ≡ answer.Good) ⊎ (f.answer ≡ answer.NoNode)
  range_got path old new f (trailing m x y t h more e i) = absurd (k.alone t (m, x, y, h, more))
  range_got path old new f (reports only (without c h e i)) = absurd (no_cause l bs c k.frame k.segments k.m h k.framed)
  range_got path old new f (reports only (framed m x y g h p e)) = search (rules, ends_got path (length old) m g (on_path m x y h) p.end, on_path m x y h)

-- The call for the node at a path refuses nothing in a message that the vetter accepts.
vetted_got : (l : CallLimits) (bs text : List ℕ) (a : Answer) (node : CallNode) (r q : CallReport)
    → IsFalse (has_no_table l) → IsPath text → ReportsVet l bs answer.Good r → ReportsGet l bs text a node q
    → (a ≡ answer.Good) ⊎ (a ≡ answer.NoNode)
vetted_got l bs text a node r q off is vets (f, bad_limits bad e n, (i, j)) = search (rules, accepted_frame)
vetted_got l bs text a node r q off is vets (f, bad_path at are bad e n, (i, j)) = absurd (path_not_bad text at is bad)
vetted_got l bs text a node r q off is vets (f, a_path path are whole t, (i, j)) =
    elim (path_got l bs (accepted_frame l bs r off vets) path node f t) [ inl e ↦ inl (i ∙ e) | inr e ↦ inr (i ∙ e) ]

-- Nor does the call for the nodes of a range.
vetted_range : (l : CallLimits) (bs : List ℕ) (steps : List CallStep) (varying : ℕ) (old : List CallNode) (a : Answer)
    (n : ℕ) (new : List CallNode) (r q : CallReport) → IsFalse (has_no_table l) → AreStepKinds steps varying
    → ReportsVet l bs answer.Good r → ReportsRange l bs steps varying old a n new q → (a ≡ answer.Good) ⊎ (a ≡ answer.NoNode)
vetted_range l bs steps varying old a n new r q off are vets (f, range.bad_limits bad e i, h, c) = search (rules, accepted_frame)
vetted_range l bs steps varying old a n new r q off are vets (f, range.bad_steps at lim (unknown less two first) e i, h, c) = search rules
vetted_range l bs steps varying old a n new r q off are vets (f, range.bad_steps at lim (past known more last) e i, h, c) = search rules
vetted_range l bs steps varying old a n new r q off are vets (f, range.range is t, (i, j), c) =
    search (rules, range_got l bs (accepted_frame l bs r off vets) (λ k. path_after steps varying k) old new f t, accepted_frame l bs r off vets)

pub returns-clause-paths : goal.returns-clause-paths
returns-clause-paths c = meets_on_path

pub returns-clause-get : goal.returns-clause-get
returns-clause-get c = vetted_got

pub returns-clause-get_range : goal.returns-clause-get_range
returns-clause-get_range c = λ l bs r call off are vets.
    vetted_range l bs call.steps call.varying call.before call.returned call.count call.after r call.report off are vets call.reports
