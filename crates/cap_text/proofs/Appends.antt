-- Texts that are appended one after the other.
use Rattle.std.proofs.Common.{List, ap, append_assoc, ℕ, ◌++◌, ◌∙◌, ◌≡◌}

-- two texts, or one and all that follow
pub then : (a b c x y : List ℕ) → b ≡ a ++ x → c ≡ b ++ y → c ≡ a ++ (x ++ y)
then a b c x y p q = q ∙ ap (λ t. t ++ y) p ∙ append_assoc a x y

-- three texts
pub then_both : (a b c d x y z : List ℕ) → b ≡ a ++ x → c ≡ b ++ y → d ≡ c ++ z → d ≡ a ++ (x ++ (y ++ z))
then_both a b c d x y z p q r = then a b d x (y ++ z) p (then b c d y z q r)

-- two texts as one, and then another
pub both_then : (a b c d x y z : List ℕ) → b ≡ a ++ x → c ≡ b ++ y → d ≡ c ++ z → d ≡ a ++ ((x ++ y) ++ z)
both_then a b c d x y z p q r = then a c d (x ++ y) z (then a b c x y p q) r
