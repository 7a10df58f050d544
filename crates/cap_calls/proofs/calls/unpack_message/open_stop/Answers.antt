-- The buffer is full, or the input ends.
use Rattle.cap_spec.proofs.ProofNames.{ap, ap₂, arith, inl, inr, length, refl, sym, ℕ, ◌+◌, ◌<◌, ◌∙◌, cases_lt, nat_tests}
use Rattle.cap_calls.specs.UnpackingMessages.{too_small, truncated}
use Rattle.cap_calls.specs.declared.report.CallReport.{CallReport}
use Rattle.cap_calls.proofs.calls.unpack_message.open_stop.Goals.{else-given-eq0-via-else-given-eq0}
use Rattle.cap_calls.proofs.calls.unpack_message.open_stop.Goals.{else-given-eq0-via-then-given-eq0+else-given-eq0-2}
use Rattle.cap_calls.proofs.calls.unpack_message.open_stop.Goals.{else-given-eq0-via-then-given-eq0+then-given-eq0-2+else-is_empty}
use Rattle.cap_calls.proofs.calls.unpack_message.open_stop.Goals as goal

pub returns-then-has_word-clause-stops : goal.returns-then-has_word-clause-stops
returns-then-has_word-clause-stops c = λ limit size held e.
    let some = c.has_word.ensures.some c.if-has_word.true in
    let full : size < length held + 8 = elim (cases_lt size (length held + 8)) [
      | inl less ↦ less
      | inr more ↦ absurd (some (e.ends (omega (arith, more, e.long))))
    ] in
    too_small e.is_stage some full refl (c.requires.3 ∙ sym e.long) c.requires.2

pub returns-clause-stops : goal.returns-clause-stops
returns-clause-stops c = λ limit size held e.
    truncated c.args.needed e.is_stage (c.has_word.ensures.none c.if-has_word.false)
    (λ (h, p, r). elim c.else-given-eq0.branch [
      | else-given-eq0-via-then-given-eq0+then-given-eq0-2+else-is_empty w ↦
          let some : 0 < length c.args.rest.now = grind (arith, nat_tests, w.is_empty.ensures, w.if-is_empty.false) in
          omega (arith, some, ap length r)
      | else-given-eq0-via-then-given-eq0+else-given-eq0-2 w ↦ w.if-given-eq0-2.false p
      | else-given-eq0-via-else-given-eq0 w ↦ w.if-given-eq0.false (sym e.long ∙ ap length h)
    ])
    c.requires.0 c.requires.1 (c.requires.3 ∙ sym e.long)
    (ap₂ (λ (x : CallReport) (k : ℕ). record x { input_required = k }) c.requires.2 c.bytes_required.ensures)
