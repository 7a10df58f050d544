-- The text of an object's members, each with the comma before it.
use Rattle.std.proofs.Common.{List, [], ap, ap₂, append-nil, append_assoc, refl, sym, true, ℕ, ◌++◌, ◌∙◌, ◌∷◌, ◌≡◌}
use Rattle.std.specs.Prelude.{codes, decimal}
use Rattle.json.specs.Print.{escape, escape_byte, quoted}
use Rattle.serde_json.specs.Data.{string}
use Rattle.serde_json.specs.Written.{compact_text, members_text}
use Rattle.cap_text.specs.JsonLines.{number_member, object_start}
use Rattle.cap_json_laws.specs.JsonFields.{Field, head_fields, numeral}
use Rattle.cap_json_laws.proofs.Objects.{in_order, ordered}

abbrev pub later : List Field → List ℕ
later [] = []
later (field ∷ fields) = 44 ∷ (quoted field.0 ++ 58 ∷ (compact_text field.1 ++ later fields))

regroup : (name value first rest : List ℕ) →
    44 ∷ (name ++ 58 ∷ (value ++ (first ++ rest))) ≡ (44 ∷ (name ++ 58 ∷ (value ++ first))) ++ rest
regroup name value first rest = simp append_assoc

pub later-append : (fields more : List Field) → later (fields ++ more) ≡ later fields ++ later more
later-append [] more = refl
later-append (field ∷ fields) more =
    ap (λ text. 44 ∷ (quoted field.0 ++ 58 ∷ (compact_text field.1 ++ text))) (later-append fields more)
    ∙ regroup (quoted field.0) (compact_text field.1) (later fields) (later more)

members-later : (fields : List Field) → members_text true (in_order fields) ≡ later fields ++ 125 ∷ []
members-later [] = refl
members-later (field ∷ fields) =
    ap (λ text. 44 ∷ (quoted field.0 ++ 58 ∷ (compact_text field.1 ++ text))) (members-later fields)
    ∙ regroup (quoted field.0) (compact_text field.1) (later fields) (125 ∷ [])

-- an object, whose first member has no comma
pub object-later : (field : Field) (fields : List Field) (text : List ℕ) → later (field ∷ fields) ≡ 44 ∷ text →
    compact_text (ordered (field ∷ fields)) ≡ 123 ∷ (text ++ 125 ∷ [])
object-later field fields text same =
    let whole = members-later (field ∷ fields) ∙ ap (λ members. members ++ 125 ∷ []) same in cc

-- ---- one member

quoted-same : (text : List ℕ) → escape text ≡ text → quoted text ≡ 34 ∷ (text ++ 34 ∷ [])
quoted-same text same = ap (λ t. 34 ∷ (t ++ 34 ∷ [])) same

number_text : (name digits : List ℕ) → codes ",\"" ++ name ++ codes "\":" ++ digits ≡ 44 ∷ ((34 ∷ (name ++ 34 ∷ [])) ++ 58 ∷ (digits ++ []))
number_text name digits = simp (append_assoc, append-nil)

pub number-later : (name : List ℕ) (n : ℕ) → escape name ≡ name → number_member name n ≡ later ((name, numeral n) ∷ [])
number-later name n same =
    number_text name (decimal n) ∙ sym (ap (λ key. 44 ∷ (key ++ 58 ∷ (decimal n ++ []))) (quoted-same name same))

string_text : (name text : List ℕ) → codes ",\"" ++ name ++ codes "\":\"" ++ text ++ codes "\""
    ≡ 44 ∷ ((34 ∷ (name ++ 34 ∷ [])) ++ 58 ∷ ((34 ∷ (text ++ 34 ∷ [])) ++ []))
string_text name text = simp (append_assoc, append-nil)

pub string-later : (name text : List ℕ) → escape name ≡ name → escape text ≡ text →
    codes ",\"" ++ name ++ codes "\":\"" ++ text ++ codes "\"" ≡ later ((name, string text) ∷ [])
string-later name text same plain =
    string_text name text
    ∙ sym (ap₂ (λ (key value : List ℕ). 44 ∷ (key ++ 58 ∷ (value ++ []))) (quoted-same name same) (quoted-same text plain))

-- ---- lines

head_text : (n : ℕ) (verdict rest : List ℕ) →
    codes "{\"message\":" ++ (decimal n ++ (codes ",\"verdict\":" ++ ((34 ∷ (verdict ++ 34 ∷ [])) ++ rest))) ≡ object_start n verdict ++ rest
head_text n verdict rest = simp append_assoc

-- an object from its number and its verdict on
head-later : (n : ℕ) (verdict : List ℕ) (fields : List Field) → escape verdict ≡ verdict →
    compact_text (ordered (head_fields n verdict fields)) ≡ object_start n verdict ++ (later fields ++ 125 ∷ [])
unfolding escape_byte
head-later n verdict fields same =
    let rest = later fields ++ 125 ∷ [] in
    ap (λ text. codes "{\"message\":" ++ (decimal n ++ text)) (members-later ((codes "verdict", string verdict) ∷ fields)
    ∙ ap (λ text. codes ",\"verdict\":" ++ text) (append_assoc (quoted verdict) (later fields) (125 ∷ [])
    ∙ ap (λ text. text ++ rest) (quoted-same verdict same)))
    ∙ head_text n verdict rest

ends : (start text : List ℕ) → (start ++ text) ++ 125 ∷ 10 ∷ [] ≡ (start ++ (text ++ 125 ∷ [])) ++ 10 ∷ []
ends start text = simp append_assoc

-- the line of an object whose members have this text
pub line-later : (n : ℕ) (verdict text : List ℕ) (fields : List Field) → escape verdict ≡ verdict → text ≡ later fields →
    (object_start n verdict ++ text) ++ codes "}\n" ≡ compact_text (ordered (head_fields n verdict fields)) ++ 10 ∷ []
line-later n verdict text fields same is =
    ap (λ t. (object_start n verdict ++ t) ++ codes "}\n") is
    ∙ (ends (object_start n verdict) (later fields) ∙ sym (ap (λ t. t ++ 10 ∷ []) (head-later n verdict fields same)))
