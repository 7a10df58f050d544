-- The lines of the command hash, for a message that is accepted (profile).
use Rattle.std.specs.Prelude.{List, [], codes, ℕ, ◌++◌, ◌∷◌}
use Rattle.hex.specs.Hex.{encode_lower}
use Rattle.cap_spec.specs.Texts.{message_text}
use Rattle.cap_text.specs.FaultLines.{place_text}

-- the line of message n, with the two lower-case digits of each byte of its hash
abbrev pub hash_text : ℕ → List ℕ → List ℕ
hash_text n hash = message_text n (codes "sha256 " ++ encode_lower hash)

-- the digits alone, as a line
abbrev pub digest_text : List ℕ → List ℕ
digest_text hash = encode_lower hash ++ 10 ∷ []

-- the line of message n, which has no canonical form, with the place of its first capability
abbrev pub no_form_text : ℕ → ℕ → ℕ → List ℕ
no_form_text n s w = message_text n (codes "no canonical form, capability" ++ place_text s w)
