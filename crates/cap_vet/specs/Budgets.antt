-- What is left of a budget (profile).
use Rattle.std.specs.Prelude.{ℕ}
use Rattle.cap_vet.specs.declared.nodes.budget.Budget.{Budget}

abbrev pub left_of : Budget → ℕ
left_of b = b.words
