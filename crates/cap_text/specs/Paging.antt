-- What a call that puts a text on a page says of the output and the page before and after
-- (profile). g has the members of the output's type.
use Rattle.std.specs.Prelude.{List, MatchResult, Result, [], ℕ, ◌++◌, ◌≡◌, ◌⊎◌}
use Rattle.cap_words.specs.declared.byte_io.OutFault.{OutFault}
use Rattle.cap_text.specs.Writing.{Stopped, Wrote}
use Rattle.cap_words.specs.declared.byte_io.ByteOut as output

module _ {O : Type 0} (g : output.Ghosts O) where
  -- the page's old text and then this text: some or none of it was written, and the rest is on the
  -- page
  pub record Added (old new : O × List ℕ) (text : List ℕ) : Type 0 where
    pub gone : List ℕ
    pub whole : old.1 ++ text ≡ gone ++ new.1
    pub out : ((new.0 ≡ old.0) × (gone ≡ [])) ⊎ Wrote g old.0 new.0 gone

  -- the output returned this error, after a prefix of the page's old text and this text
  abbrev pub Halted : O × List ℕ → O × List ℕ → OutFault → List ℕ → Type 0
  Halted old new fault text = Stopped g old.0 new.0 fault (old.1 ++ text)

  -- the text was put after the page's old text, or the output failed
  abbrev pub Adds : {T : Type 0} → O × List ℕ → O × List ℕ → Result T OutFault → List ℕ → Type 0
  Adds old new r text = MatchResult r (λ _. Added old new text) (λ fault. Halted old new fault text)
