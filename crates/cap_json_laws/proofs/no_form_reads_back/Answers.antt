use Rattle.std.proofs.Common.{List, [], ap₂, append_assoc, refl, subst, sym, ℕ, ◌++◌, ◌∙◌, ◌∷◌, ◌≡◌}
use Rattle.std.specs.Prelude.{codes}
use Rattle.json.specs.Print.{escape_byte}
use Rattle.serde_json.specs.Data.{null}
use Rattle.cap_text.specs.JsonLines.{number_member, object_start}
use Rattle.cap_json_laws.specs.JsonFields.{Field, IsLineOf, no_form_value, numeral}
use Rattle.cap_json_laws.proofs.Fields.{null_read, number_read}
use Rattle.cap_json_laws.proofs.Lines.{object_line}
use Rattle.cap_json_laws.proofs.Members.{later-append, number-later}
use Rattle.cap_json_laws.proofs.no_form_reads_back.Goals as goal

regroup : (a b c d e : List ℕ) → (a ++ ((b ++ c) ++ d)) ++ e ≡ (((a ++ b) ++ c) ++ d) ++ e
regroup a b c d e = simp append_assoc

pub returns : goal.returns
unfolding escape_byte
returns c = λ n s w fits s_fits w_fits.
    let hash : Field = (codes "sha256", null) in
    let segment : Field = (codes "segment", numeral s) in
    let word : Field = (codes "word", numeral w) in
    let members : List Field = hash ∷ segment ∷ word ∷ [] in
    let start = object_start n (codes "accepted") in
    let first = number_member (codes "segment") s in
    let second = number_member (codes "word") w in
    subst (λ line. IsLineOf line (no_form_value n s w)) (regroup start (codes ",\"sha256\":null") first second (codes "}\n"))
    (object_line n (codes "accepted") ((codes ",\"sha256\":null" ++ first) ++ second) members members refl
    (ap₂ (λ (x y : List ℕ). (codes ",\"sha256\":null" ++ x) ++ y) (number-later (codes "segment") s refl) (number-later (codes "word") w refl)
    ∙ sym (later-append (hash ∷ segment ∷ []) (word ∷ []))) fits
    (null_read 1 (codes "sha256"), (number_read 1 (codes "segment") s s_fits, (number_read 1 (codes "word") w w_fits, tt))) refl)
