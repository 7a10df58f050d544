-- The lines of objects by their members. Members that a definition names are written here again: so where a
-- definition has another value, the law is refused, and not a lemma.
use Rattle.std.proofs.Common.{List, [], ap, ap₂, append_assoc, refl, subst, suc, sym, zero, ℕ, ◌++◌, ◌∙◌, ◌∷◌, ◌≡◌}
use Rattle.std.specs.Prelude.{codes}
use Rattle.json.specs.Print.{escape, escape_byte}
use Rattle.serde_json.specs.Data.{no_members, string}
use Rattle.serde_json.specs.Written.{compact_text}
use Rattle.cap_spec.specs.Texts.{refused}
use Rattle.cap_text.specs.JsonLines.{accepted_json, number_members, object_start, place_members, verdict_json}
use Rattle.cap_json_laws.specs.JsonFields.{Field, Fits, IsLineOf, head_fields, members_of, numeral, object_of}
use Rattle.cap_json_laws.proofs.Fields.{AreRead, number_read, putting, string_read, text_read}
use Rattle.cap_json_laws.proofs.Members.{later, later-append, line-later, number-later, string-later}
use Rattle.cap_json_laws.proofs.Objects.{ordered}

-- Members that are put in one after another, in the order of the text, are those of these fields.
abbrev pub IsSame : List Field → Type 0
IsSame values = putting values no_members ≡ members_of values

head_read : (n : ℕ) (verdict : List ℕ) (fields values : List Field) → Fits n → AreRead 1 fields values →
    AreRead 1 (head_fields n verdict fields) (head_fields n verdict values)
head_read n verdict fields values fits h = (number_read 1 (codes "message") n fits, (string_read 1 (codes "verdict") verdict, h))

-- the line of an object with these members
pub object_line : (n : ℕ) (verdict text : List ℕ) (fields values : List Field) → escape verdict ≡ verdict → text ≡ later fields →
    Fits n → AreRead 1 fields values → IsSame (head_fields n verdict values) →
    IsLineOf ((object_start n verdict ++ text) ++ codes "}\n") (object_of (head_fields n verdict values))
object_line n verdict text fields values plain is fits h same = (
  compact_text (ordered (head_fields n verdict fields)),
  line-later n verdict text fields plain is,
  text_read (head_fields n verdict fields) (head_fields n verdict values) (head_read n verdict fields values fits h) same,
)

-- ---- an accepted message

-- the numbers of a tree, and these members
abbrev pub numbered : ℕ → ℕ → ℕ → ℕ → List Field → List Field
numbered c d p k rest =
    (codes "charge", numeral c) ∷ (codes "depth", numeral d) ∷ (codes "pointers", numeral p) ∷ (codes "capabilities", numeral k) ∷ rest

pub four : (a b c d : List Field) → ((later a ++ later b) ++ later c) ++ later d ≡ later (((a ++ b) ++ c) ++ d)
four a b c d = simp later-append

numbers-later : (c d p k : ℕ) (rest : List Field) → number_members c d p k ++ later rest ≡ later (numbered c d p k rest)
unfolding escape_byte
numbers-later c d p k rest =
    let charge : Field = (codes "charge", numeral c) in
    let depth : Field = (codes "depth", numeral d) in
    let pointers : Field = (codes "pointers", numeral p) in
    let capabilities : Field = (codes "capabilities", numeral k) in
    let first = number-later (codes "charge") c refl in
    let second = number-later (codes "depth") d refl in
    let third = number-later (codes "pointers") p refl in
    let fourth = number-later (codes "capabilities") k refl in
    ap (λ text. text ++ later rest) (ap₂ (λ (x y : List ℕ). x ++ y)
    (ap₂ (λ (x y : List ℕ). x ++ y) (ap₂ (λ (x y : List ℕ). x ++ y) first second) third) fourth
    ∙ four (charge ∷ []) (depth ∷ []) (pointers ∷ []) (capabilities ∷ []))
    ∙ sym (later-append (numbered c d p k []) rest)

-- the line of an accepted message with these members after the numbers of its tree
pub accepted_line : (n c d p k : ℕ) (text : List ℕ) (fields values : List Field) → Fits n → Fits c → Fits d → Fits p → Fits k →
    text ≡ later fields → AreRead 1 fields values → IsSame (head_fields n (codes "accepted") (numbered c d p k values)) →
    IsLineOf (accepted_json n c d p k text) (object_of (head_fields n (codes "accepted") (numbered c d p k values)))
unfolding escape_byte
accepted_line n c d p k text fields values fits c_fits d_fits p_fits k_fits is h same =
    let numbers = number_members c d p k in
    let numbers_read : AreRead 1 (numbered c d p k fields) (numbered c d p k values) = (
      number_read 1 (codes "charge") c c_fits,
      (number_read 1 (codes "depth") d d_fits, (number_read 1 (codes "pointers") p p_fits, (number_read 1 (codes "capabilities") k k_fits, h))),
    ) in
    let line = object_line n (codes "accepted") (numbers ++ text) (numbered c d p k fields) (numbered c d p k values) refl
    (ap (λ t. numbers ++ t) is ∙ numbers-later c d p k fields) fits numbers_read same in
    subst (λ front. IsLineOf (front ++ codes "}\n") (object_of (head_fields n (codes "accepted") (numbered c d p k values))))
    (sym (append_assoc (object_start n (codes "accepted")) numbers text)) line

-- ---- a refused message

-- the members of a place
abbrev pub placed : ℕ → ℕ → ℕ → List Field
placed s w zero = []
placed s w (suc p) =
    (codes "segment", numeral s) ∷ (codes "word", numeral w) ∷ (codes "pointer", numeral (suc p)) ∷ []

pub place-later : (s w p : ℕ) → place_members s w p ≡ later (placed s w p)
unfolding escape_byte
place-later s w zero = refl
place-later s w (suc p) =
    let segment : Field = (codes "segment", numeral s) in
    let word : Field = (codes "word", numeral w) in
    let pointer : Field = (codes "pointer", numeral (suc p)) in
    let first = number-later (codes "segment") s refl in
    let second = number-later (codes "word") w refl in
    let third = number-later (codes "pointer") (suc p) refl in
    ap₂ (λ (x y : List ℕ). x ++ y) (ap₂ (λ (x y : List ℕ). x ++ y) first second ∙ sym (later-append (segment ∷ []) (word ∷ []))) third
    ∙ sym (later-append (segment ∷ word ∷ []) (pointer ∷ []))

pub place_read : (levels s w p : ℕ) → Fits s → Fits w → Fits p → AreRead levels (placed s w p) (placed s w p)
place_read levels s w zero s_fits w_fits p_fits = tt
place_read levels s w (suc p) s_fits w_fits p_fits =
    (number_read levels (codes "segment") s s_fits, (number_read levels (codes "word") w w_fits, (number_read levels (codes "pointer") (suc p) p_fits, tt)))

refused_same : (n : ℕ) (name : List ℕ) (s w p : ℕ) → IsSame (head_fields n (codes "refused") ((codes "reason", string name) ∷ placed s w p))
refused_same n name s w zero = refl
refused_same n name s w (suc p) = refl

regroup : (a b c d e : List ℕ) → a ++ (((b ++ c) ++ d) ++ e) ≡ (((a ++ b) ++ c) ++ d) ++ e
regroup a b c d e = simp append_assoc

pub refused_line : (n : ℕ) (name : List ℕ) (s w p : ℕ) → escape name ≡ name → Fits n → Fits s → Fits w → Fits p →
    IsLineOf (verdict_json n (refused name s w p))
    (object_of (head_fields n (codes "refused") ((codes "reason", string name) ∷ placed s w p)))
unfolding escape_byte
refused_line n name s w p named fits s_fits w_fits p_fits =
    let place = placed s w p in
    let members : List Field = (codes "reason", string name) ∷ place in
    let reason = codes ",\"reason\":\"" ++ name ++ codes "\"" in
    let text = ap₂ (λ (x y : List ℕ). x ++ y) (string-later (codes "reason") name refl named) (place-later s w p)
    ∙ sym (later-append ((codes "reason", string name) ∷ []) place) in
    let line = object_line n (codes "refused") (reason ++ place_members s w p) members members refl text fits
    (string_read 1 (codes "reason") name, place_read 1 s w p s_fits w_fits p_fits) (refused_same n name s w p) in
    subst (λ front. IsLineOf (front ++ codes "}\n") (object_of (head_fields n (codes "refused") members)))
    (regroup (object_start n (codes "refused")) (codes ",\"reason\":\"") name (codes "\"") (place_members s w p)) line
