-- The lines that explain a refusal, and those after the text of a message that meets the demands.
use Rattle.cap_spec.specs.declared.Step.{Step}
use Rattle.cap_spec.specs.declared.StrictRefusal.{StrictRefusal}
use Rattle.cap_spec.proofs.ProofNames.{Bool, Err, List, None, Ok, Option, Some, [], ap, append-nil, codes, refl, same_Some}
use Rattle.cap_spec.proofs.ProofNames.{subst, sym, true, ℕ, ◌++◌, ◌∙◌, ◌≡◌, IsWithin}
use Rattle.cap_spec.proofs.ProofNames.{IsFirstOverlap, refused, strict_verdict, vet_text, rules}
use Rattle.cap_vet.specs.VetNames.{IsDemandFault}
use Rattle.cap_explain.specs.Explaining.{overlap_explanation}
use Rattle.cap_explain.specs.declared.numbers.MessageStart.{MessageStart}
use Rattle.cap_explain.specs.ExplainedFaults.{fault_lines, earlier_lines}
use Rattle.cap_trace.specs.EarlierPointers.{FindsEarlier}
use Rattle.cap_trace.specs.declared.earlier.EarlierPointer.{EarlierPointer}
use Rattle.cap_text.proofs.Writing.{stopped_more}
use Rattle.cap_text.specs.Lines.{filter_line}
use Rattle.cap_text.specs.Writing.{Wrote}
use Rattle.cap_text.specs.declared.fault.Cause.{Cause}
use Rattle.cap_text.specs.declared.fault.Cause.TheVariants.{Output}
use Rattle.cap_run.specs.Explained.{HasLinesAfter, IsOverlapText, RefusedByFilter}
use Rattle.cap_run.specs.Explained.{filter_demands, filter_lines, lines_after, start_after}
use Rattle.cap_run.specs.Running.{WritesOneOf}
use Rattle.cap_run.specs.declared.engines.stream.Counted.{Counted}
use Rattle.cap_walk.specs.Reports.{IsAccepted}
use Rattle.cap_walk.specs.declared.report.Report.{Report}
use Rattle.cap_words.specs.declared.byte_io.ByteOut as output

-- the text of an overlap, by the paths that were found
pub overlap_text : (m : List (List ℕ)) (n : ℕ) (start : Option MessageStart) {s w pointers : ℕ} (f : IsFirstOverlap m s w pointers)
    (path found : Option (List Step)) (earlier : Option EarlierPointer) → path ≡ Some f.path
    → FindsEarlier m f.path earlier found → IsOverlapText m n start f
    ((vet_text n (refused (codes "Overlap") s w pointers) ++ overlap_explanation path m start s w) ++ earlier_lines found earlier)
overlap_text m n start f path found earlier e h = search rules

module _ {O : Type 0} (g : output.Ghosts O) (packed : Bool) (words depth before : ℕ) (m : List (List ℕ))
    (texts : List ℕ → Counted → Type 0) (refusal : Option StrictRefusal) (h : RefusedByFilter m words depth refusal) where
  -- a text, and what comes after it
  pub with_after : (text : List ℕ) (counted : Counted) → texts text counted
      → HasLinesAfter packed words depth before m texts
      (text ++ lines_after m words depth (start_after packed before) refusal h counted) counted
  with_after text counted t = record { first = text; is_first = t; refusal = refusal; is_refused = h; lines = refl }

  -- nothing comes after the text of a message that isn't accepted,
  pub without_lines : (allocates : Type 0) (old new : O) (counted : Counted)
      → lines_after m words depth (start_after packed before) refusal h counted ≡ []
      → WritesOneOf g texts allocates old new (Ok counted)
      → WritesOneOf g (HasLinesAfter packed words depth before m texts) allocates old new (Ok counted)
  without_lines allocates old new counted none (text, t, w) =
      let more = lines_after m words depth (start_after packed before) refusal h counted in
      let same : text ≡ text ++ more = sym (ap (λ (l : List ℕ). text ++ l) none ∙ append-nil text) in
      (text ++ more, with_after text counted t, subst (Wrote g old new) same w)

  -- or after a part of a text
  pub stops_before : (allocates : Type 0) (old new : O) (cause : Cause) → WritesOneOf g texts allocates old new (Err cause)
      → WritesOneOf g (HasLinesAfter packed words depth before m texts) allocates old new (Err cause)
  stops_before allocates old new (Output fault) (text, counted, t, s) =
      let more = lines_after m words depth (start_after packed before) refusal h counted in
      (text ++ more, counted, with_after text counted t, stopped_more g old new fault text more s)
  stops_before allocates old new cause w = w

-- the lines of filter by why it refuses a message: there are none,
pub no_filter_lines : (m : List (List ℕ)) (words depth : ℕ) (start : MessageStart) (r : Option StrictRefusal)
    (h : RefusedByFilter m words depth r) → r ≡ None → filter_lines m words depth start r h ≡ []
no_filter_lines m words depth start None h e = refl
no_filter_lines m words depth start (Some fault) h e = absurd (search rules)

-- or this is the reason
pub some_filter_lines : (m : List (List ℕ)) (words depth : ℕ) (start : MessageStart) (r : Option StrictRefusal)
    (h : RefusedByFilter m words depth r) (fault : StrictRefusal) → r ≡ Some fault
    → (k : IsDemandFault filter_demands m words depth fault) × (filter_lines m words depth start r h
    ≡ filter_line (strict_verdict fault) ++ fault_lines true filter_demands m words depth fault k None (Some start))
some_filter_lines m words depth start None h fault e = absurd (search rules)
some_filter_lines m words depth start (Some own) h fault e =
    subst (λ (x : StrictRefusal). (k : IsDemandFault filter_demands m words depth x) × (filter_lines m words depth start (Some own) h
    ≡ filter_line (strict_verdict x) ++ fault_lines true filter_demands m words depth x k None (Some start))) (same_Some own fault e) (h, refl)

-- an accepted message is within the limits
pub accepted_within : (m : List (List ℕ)) (words depth : ℕ) (report : Report) → IsAccepted m words depth report
    → IsWithin m words depth
accepted_within m words depth report (t, a) = (t, report.charge, report.depth, a.within)
