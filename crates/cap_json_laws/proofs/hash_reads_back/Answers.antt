use Rattle.std.proofs.Common.{List, [], append_assoc, refl, subst, ℕ, ◌++◌, ◌∷◌, ◌≡◌, arith, suc, zero, ◌/◌, ◌%◌, ◌<◌}
use Rattle.std.specs.Prelude.{codes, slice_index}
use Rattle.hex.specs.Hex.{encode_lower, encode_with, lower_digits}
use Rattle.json.specs.Print.{escape_byte, escape}
use Rattle.serde_json.specs.Data.{string}
use Rattle.cap_text.specs.JsonLines.{object_start}
use Rattle.cap_json_laws.specs.JsonFields.{Field, IsLineOf, hash_value}
use Rattle.cap_json_laws.proofs.Fields.{string_read}
use Rattle.cap_json_laws.proofs.Lines.{object_line}
use Rattle.cap_json_laws.proofs.Members.{string-later}
use Rattle.std.specs.List.{AllByRecursion}
use Rattle.cap_json_laws.proofs.hash_reads_back.Goals as goal

-- The digits of a hash need no escape.
digit_escapes : (k : ℕ) → k < 16 → escape_byte (slice_index lower_digits k) ≡ slice_index lower_digits k ∷ []
unfolding escape_byte
digit_escapes zero h = refl
digit_escapes (suc zero) h = refl
digit_escapes (suc (suc zero)) h = refl
digit_escapes (suc (suc (suc zero))) h = refl
digit_escapes (suc (suc (suc (suc zero)))) h = refl
digit_escapes (suc (suc (suc (suc (suc zero))))) h = refl
digit_escapes (suc (suc (suc (suc (suc (suc zero)))))) h = refl
digit_escapes (suc (suc (suc (suc (suc (suc (suc zero))))))) h = refl
digit_escapes (suc (suc (suc (suc (suc (suc (suc (suc zero)))))))) h = refl
digit_escapes (suc (suc (suc (suc (suc (suc (suc (suc (suc zero))))))))) h = refl
digit_escapes (suc (suc (suc (suc (suc (suc (suc (suc (suc (suc zero)))))))))) h = refl
digit_escapes (suc (suc (suc (suc (suc (suc (suc (suc (suc (suc (suc zero))))))))))) h = refl
digit_escapes (suc (suc (suc (suc (suc (suc (suc (suc (suc (suc (suc (suc zero)))))))))))) h = refl
digit_escapes (suc (suc (suc (suc (suc (suc (suc (suc (suc (suc (suc (suc (suc zero))))))))))))) h = refl
digit_escapes (suc (suc (suc (suc (suc (suc (suc (suc (suc (suc (suc (suc (suc (suc zero)))))))))))))) h = refl
digit_escapes (suc (suc (suc (suc (suc (suc (suc (suc (suc (suc (suc (suc (suc (suc (suc zero))))))))))))))) h = refl
digit_escapes (suc (suc (suc (suc (suc (suc (suc (suc (suc (suc (suc (suc (suc (suc (suc (suc k)))))))))))))))) h = absurd (omega (h, arith))

digits_escape : (bytes : List ℕ) → AllByRecursion (λ b. b < 256) bytes → escape (encode_lower bytes) ≡ encode_lower bytes
unfolding encode_with
digits_escape [] h = refl
digits_escape (b ∷ bytes) h =
    rw (digit_escapes (b / 16) (omega (h.0, arith)), digit_escapes (b % 16) (omega arith), digits_escape bytes h.1) refl

regroup : (a b c d e : List ℕ) → (a ++ ((b ++ c) ++ d)) ++ e ≡ ((a ++ b) ++ c) ++ (d ++ e)
regroup a b c d e = simp append_assoc

pub returns : goal.returns
unfolding escape_byte
returns c = λ n hash fits bytes.
    let digits = encode_lower hash in
    let member : List Field = (codes "sha256", string digits) ∷ [] in
    let start = object_start n (codes "accepted") in
    subst (λ line. IsLineOf line (hash_value n hash)) (regroup start (codes ",\"sha256\":\"") digits (codes "\"") (codes "}\n"))
    (object_line n (codes "accepted") ((codes ",\"sha256\":\"" ++ digits) ++ codes "\"") member member refl
    (string-later (codes "sha256") digits refl (digits_escape hash bytes)) fits (string_read 1 (codes "sha256") digits, tt) refl)
