use Rattle.cap_spec.proofs.ProofNames.{flat_map, length, take, ◌*◌, ◌++◌, ◌+◌, ◌≡◌, ◌≤◌, step_text}
use Rattle.cap_buffer.proofs.text_buffer.TextBuffer.push_steps.Given as goal

abbrev pub invariant-loop-step : goal.invariant-loop-step
invariant-loop-step g l = record {
  items : l.self ≡ l.initial.self ++ flat_map step_text (take l.step-index l.steps);
  few : length l.self ≤ length l.initial.self + 12 * l.step-index;
}
