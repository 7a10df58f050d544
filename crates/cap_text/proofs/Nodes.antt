-- The lines of a node and of its own words.
use Rattle.cap_spec.proofs.ProofNames.{rules, arith, common_steps}
use Rattle.std.proofs.Common.{List, None, Result, Some, [], ap, append_assoc, drop, replicate, slice_get}
use Rattle.std.proofs.Common.{subst, suc, sym, ℕ, ◌*◌, ◌++◌, ◌+◌, ◌∙◌, ◌∷◌, ◌≡◌}
use Rattle.cap_spec.specs.Showing.{Own, kind_of, own_of}
use Rattle.cap_spec.specs.Showing.{words_of_own}
use Rattle.cap_spec.specs.Texts.{head, hex, label, line, own_lines, own_text, word_lines}
use Rattle.cap_spec.specs.Tree.{Tree}
use Rattle.cap_spec.specs.declared.Kind.TheVariants.{Scalars, Struct}
use Rattle.cap_spec.proofs.Canonical.Placing.{rest_at}
use Rattle.cap_text.specs.Dumping.{head_of}
use Rattle.cap_text.specs.TextNames.{Kind, OutFault, word_letter_of, Added, Adds, Halted}
use Rattle.cap_text.proofs.Paging.{Left, adds_then, left_done, left_step, left_stop}
use Rattle.cap_words.specs.declared.byte_io.ByteOut as output

-- a line that is put together from a name, a space and a text
pub four_texts : (name text a b c d : List ℕ) → a ≡ name → b ≡ a ++ 32 ∷ [] → c ≡ b ++ text → d ≡ c ++ 10 ∷ [] → d ≡ name ++ 32 ∷ text ++ 10 ∷ []
four_texts name text a b c d p q r s = search (rules, append_assoc)

-- the same after the spaces of a level
pub five_texts : (spaces name text a b c d e : List ℕ) → a ≡ spaces → b ≡ a ++ name → c ≡ b ++ 32 ∷ [] → d ≡ c ++ text → e ≡ d ++ 10 ∷ []
    → e ≡ spaces ++ (name ++ 32 ∷ text ++ 10 ∷ [])
five_texts spaces name text a b c d e p q r s t = search (rules, append_assoc)

-- the head of a tree is that of its kind
pub head_is : (t : Tree) → head_of (kind_of (own_of t)) ≡ head t
head_is t = search rules

-- and its own words have the letter of its kind
pub words_are : (level : ℕ) (t : Tree) → word_lines level (word_letter_of (kind_of (own_of t))) 0 (words_of_own (own_of t)) ≡ own_lines level t
words_are level t = search rules

-- a node that is neither a struct nor a list of values has no words of its own
pub no_words : (own : Own) (kind : Kind) → kind ≡ kind_of own → ((d p : ℕ) → kind ≡ Struct d p → ⊥)
    → ((c n : ℕ) → kind ≡ Scalars c n → ⊥) → words_of_own own ≡ []
no_words own kind e f g = search rules

-- the same of what a view shows of a tree
pub head_shown : (t : Tree) (own : Own) (kind : Kind) (name written : List ℕ) → own ≡ own_of t → kind ≡ kind_of own
    → written ≡ name ++ 32 ∷ head_of kind ++ 10 ∷ []
    → written ≡ name ++ 32 ∷ head t ++ 10 ∷ []
head_shown t own kind name written e k w = w ∙ ap (λ h. name ++ 32 ∷ h ++ 10 ∷ []) (ap head_of k ∙ ap (λ o. head_of (kind_of o)) e ∙ head_is t)

pub words_shown : (level : ℕ) (t : Tree) (own : Own) (kind : Kind) (letter : ℕ) → own ≡ own_of t → kind ≡ kind_of own → letter ≡ word_letter_of kind
    → word_lines level letter 0 (words_of_own own) ≡ own_lines level t
words_shown level t own kind letter e k l = search (rules, words_are)

-- a line at a level, from what is written
pub line_is : (level : ℕ) (text written : List ℕ) → written ≡ text ++ 10 ∷ [] → replicate (2 * level) 32 ++ written ≡ line level text
line_is level text written e = ap (λ l. replicate (2 * level) 32 ++ l) e ∙ sym (append_assoc (replicate (2 * level) 32) text (10 ∷ []))

-- no words follow the last
drop_last : (ws : List ℕ) (i : ℕ) → None ≡ slice_get ws i → drop i ws ≡ []
drop_last (w ∷ ws) (suc i) e = drop_last ws i e
drop_last ws i e = grind (arith, common_steps)

-- the lines from the next word on
module _ (level letter i w : ℕ) (ws : List ℕ) (at_i : Some w ≡ slice_get ws i) where
  pub lines_next : word_lines level letter i (drop i ws)
      ≡ (replicate (2 * level) 32 ++ (label letter i ++ 32 ∷ hex w ++ 10 ∷ [])) ++ word_lines level letter (i + 1) (drop (i + 1) ws)
  lines_next = search (rules, rest_at, line_is)

module _ {O : Type 0} (g : output.Ghosts O) (level letter i w : ℕ) (ws : List ℕ) (at_i : Some w ≡ slice_get ws i) where
  -- one more word is put
  pub word_step : (a b c : O × List ℕ) → Left g a b (word_lines level letter 0 ws) (word_lines level letter i (drop i ws))
      → Added g b c (replicate (2 * level) 32 ++ (label letter i ++ 32 ∷ hex w ++ 10 ∷ []))
      → Left g a c (word_lines level letter 0 ws) (word_lines level letter (i + 1) (drop (i + 1) ws))
  word_step a b c l v = search (rules, left_step, lines_next level letter i w ws at_i)

module _ {O : Type 0} (g : output.Ghosts O) where
  -- a fault came before its line
  pub lines_stop : (a b c : O × List ℕ) (fault : OutFault) (all rest : List ℕ) → Left g a b all rest → Halted g b c fault [] → Halted g a c fault all
  lines_stop a b c fault all rest l q = left_stop g a b c fault all [] rest l q

  -- all words are put
  pub words_done : (level letter i : ℕ) (ws : List ℕ) (a b : O × List ℕ) → None ≡ slice_get ws i
      → Left g a b (word_lines level letter 0 ws) (word_lines level letter i (drop i ws))
      → Added g a b (word_lines level letter 0 ws)
  words_done level letter i ws a b e l = search (rules, left_done, drop_last)

  -- a node's line, and then the lines of its own words
  pub adds_own : {T : Type 0} (a b c : O × List ℕ) (r : Result T OutFault) (level : ℕ) (name written words : List ℕ)
      (t : Tree) → written ≡ name ++ 32 ∷ head t ++ 10 ∷ []
      → words ≡ own_lines (level + 1) t → Added g a b (replicate (2 * level) 32 ++ written) → Adds g b c r words → Adds g a c r (own_text level name t)
  adds_own a b c r level name written words t e f v w =
      adds_then g a b c r (line level (name ++ 32 ∷ head t)) (own_lines (level + 1) t)
      (subst (Added g a b) (line_is level (name ++ 32 ∷ head t) written e) v) (subst (Adds g b c r) f w)
