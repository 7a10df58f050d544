-- An output that puts marks into lines, by its parts.
use Rattle.std.proofs.Common.{ap, ◌∙◌, ◌≡◌, ◌≤◌}
use Rattle.std.proofs.Props.{props}
use Rattle.std.specs.Prelude.{vec_len}
use Rattle.cap_cmd.specs.declared.marked.MarkedLines.{MarkedLines}

-- the same output in the same state
pub same_marked : {O : Type 0} (s : MarkedLines O) (o : O) (w : s.done ≤ vec_len s.mark) → o ≡ s.out
    → ◌≡◌ {A = MarkedLines O} (record { out = o; mark = s.mark; place = s.place; column = s.column; done = s.done; within = w }) s
same_marked {O} s o w e =
    let one : IsProp (s.done ≤ vec_len s.mark) = hlevel props in
    ap {B = MarkedLines O} (λ (x : O). record { out = x; mark = s.mark; place = s.place; column = s.column; done = s.done; within = w }) e
    ∙ ap {B = MarkedLines O} (λ (x : s.done ≤ vec_len s.mark). record { out = s.out; mark = s.mark; place = s.place; column = s.column; done = s.done; within = x }) (one w s.within)
