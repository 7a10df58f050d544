-- Texts that are appended one after the other.
use Rattle.std.proofs.Common.{List, ap, append_assoc, ℕ, ◌++◌, ◌∙◌, ◌≡◌}

-- two texts, or one and all that follow
pub then : (a b c x y : List ℕ) → b ≡ a ++ x → c ≡ b ++ y → c ≡ a ++ (x ++ y)
then a b c x y p q = q ∙ ap (λ t. t ++ y) p ∙ append_assoc a x y
