-- The words of a prefix of bytes are a prefix of their words.
use Rattle.cap_spec.proofs.ProofNames.{IfSome, List, None, Option, Some, [], ap, option_map, rules, ℕ, ◌++◌, ◌∷◌}
use Rattle.cap_spec.proofs.ProofNames.{◌≡◌, little_number, plain_words}
use Rattle.cap_words.specs.WordNames.{bytes_left, Phase, Open}
use Rattle.cap_words.proofs.plain_words.PlainWords.held.Goals as goal

-- bytes begin with the words of a prefix
front_words : (xs ys : List ℕ) → (rest : List ℕ) × (plain_words (xs ++ ys) ≡ plain_words xs ++ rest)
front_words (a ∷ b ∷ c ∷ d ∷ e ∷ f ∷ g ∷ h ∷ xs) ys =
    let t = front_words xs ys in
    (t.0, ap (λ (ws : List ℕ). little_number 8 (a ∷ b ∷ c ∷ d ∷ e ∷ f ∷ g ∷ h ∷ []) ∷ ws) t.1)
front_words xs ys = search rules

-- the same of a source that is open
shown : (phase : Phase) (known : Option (List ℕ)) (bytes : List ℕ) → phase ≡ Open
    → IfSome known (λ xs. (rest : List ℕ) × (xs ≡ bytes ++ rest))
    → IfSome (option_map plain_words (bytes_left phase known)) (λ ws. (rest : List ℕ) × (ws ≡ plain_words bytes ++ rest))
shown phase known bytes is_open h = rw is_open (go known h)
  where
    go : (known : Option (List ℕ)) → IfSome known (λ xs. (rest : List ℕ) × (xs ≡ bytes ++ rest))
        → IfSome (option_map plain_words known) (λ ws. (rest : List ℕ) × (ws ≡ plain_words bytes ++ rest))
    go None h = tt
    go (Some xs) h = let t = front_words bytes h.0 in (t.0, rw h.1 t.1)

pub returns-in-Open-clause-words : goal.returns-in-Open-clause-words
returns-in-Open-clause-words g c = search (rules, shown)

pub returns-in_default : goal.returns-in_default
returns-in_default g c = search rules
