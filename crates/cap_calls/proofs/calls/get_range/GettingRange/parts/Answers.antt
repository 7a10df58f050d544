-- The steps are cut around the one that varies.
use Rattle.std.proofs.Common.{List, ap, arith, drop, get_or, length, length-drop, suc, sym, take, take_all, ℕ, ◌++◌}
use Rattle.std.proofs.Common.{◌+◌, ◌-◌, ◌∙◌, ◌∷◌, ◌≡◌}
use Rattle.cap_calls.specs.CallNames.{path_after, step_after, CallStep}
use Rattle.cap_calls.proofs.RangePaths.{path_parts}
use Rattle.cap_calls.proofs.calls.get_range.GettingRange.parts.Goals as goal

pub returns : goal.returns
returns c = λ k.
    let steps = c.args.self.now.steps.now in
    let v = c.args.self.now.varying in
    let none : CallStep = record { kind = 0; number = 0 } in
    let next : suc v ≡ v + 1 = omega arith in
    let cut : drop (suc v) steps ≡ take (length steps - (v + 1)) (drop (v + 1) steps) =
    ap (λ (n : ℕ). drop n steps) next
    ∙ sym (take_all (length steps - (v + 1)) (drop (v + 1) steps) (omega (arith, length-drop (v + 1) steps))) in
    path_parts steps v k none (omega (arith, c.args.self.now.inside))
    ∙ ap (λ (rest : List CallStep). path_after (take v steps) 0 0 ++ step_after (get_or steps v none) k ∷ path_after rest 0 0) cut
