use Rattle.std.proofs.Common.{Bool, List, [], append_assoc, false, refl, subst, sym, true, ◌++◌, ◌∷◌, ◌≡◌}
use Rattle.std.specs.Prelude.{codes, if◌then◌else◌}
use Rattle.json.specs.Print.{escape_byte}
use Rattle.serde_json.specs.Data.{boolean}
use Rattle.cap_text.specs.JsonLines.{object_start}
use Rattle.cap_json_laws.specs.JsonFields.{Field, IsLineOf, check_value}
use Rattle.cap_json_laws.proofs.Fields.{boolean_read}
use Rattle.cap_json_laws.proofs.Lines.{object_line}
use Rattle.cap_json_laws.proofs.Members.{later}
use Rattle.cap_json_laws.proofs.check_reads_back.Goals as goal

abbrev written : Bool → List Field
written canonical = (codes "canonical", boolean canonical) ∷ []

written-later : (canonical : Bool) → codes ",\"canonical\":" ++ (if canonical then codes "true" else codes "false") ≡ later (written canonical)
unfolding escape_byte
written-later true = refl
written-later false = refl

pub returns : goal.returns
unfolding escape_byte
returns c = λ n canonical fits.
    let start = object_start n (codes "accepted") in
    let value = if canonical then codes "true" else codes "false" in
    subst (λ front. IsLineOf (front ++ codes "}\n") (check_value n canonical)) (sym (append_assoc start (codes ",\"canonical\":") value))
    (object_line n (codes "accepted") (codes ",\"canonical\":" ++ value) (written canonical) (written canonical) refl (written-later canonical)
    fits (boolean_read 1 (codes "canonical") canonical, tt) refl)
