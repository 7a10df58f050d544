-- What the members of an object are read as.
use Rattle.std.proofs.Common.{Bool, List, Some, [], ap, arith, refl, suc, ℕ, ◌++◌, ◌≡◌, ◌≤◌, ◌∙◌, ◌∷◌, Option}
use Rattle.std.proofs.Common.{append-nil, sym}
use Rattle.std.specs.Prelude.{option_map, ⊤, option_and_then}
use Rattle.json.proofs.Printed.Trees.{ArePrintable-json_tokens, value-json_tokens}
use Rattle.json.proofs.Printed.Decimals.{IsNumber-decimal}
use Rattle.serde_json.specs.Data.{Members, boolean, no_members, null, number, object, put, string, Data}
use Rattle.serde_json.specs.Read.{of_json, of_members, read, max_depth}
use Rattle.serde_json.specs.Written.{compact_text, members_outline, outline}
use Rattle.serde_json.proofs.Numbers.{number_of-decimal}
use Rattle.cap_json_laws.specs.JsonFields.{Field, Fits, members_of, numeral, object_of}
use Rattle.cap_json_laws.proofs.Objects.{in_order, ordered}
use Rattle.json.specs.Lex.{tokens}
use Rattle.json.specs.Print.{ArePrintable}
use Rattle.json.specs.Tree.{depth, json_tokens}
use Rattle.json.proofs.Printed.Tokens.{tokens-print}
use Rattle.json.specs.Token.{Token}
use Rattle.serde_json.proofs.Texts.{print-outline}
use Rattle.json.specs.Tree as tree
use Rattle.json.specs.Json as json

-- The text of a value reads as what its members give.
abbrev whole : Option (json.Json × List Token) → Option Data
whole parsed = option_and_then of_json (option_and_then (λ p. json.if_last p.0 p.1) parsed)

pub reads_as : (d : Data) → ArePrintable (json_tokens (outline d)) → depth (outline d) ≤ max_depth →
    read (compact_text d) ≡ of_json (outline d)
reads_as d printable shallow =
    let ts = json_tokens (outline d) in
    let same = ap tokens (sym (print-outline d)) ∙ tokens-print ts printable in
    ap whole (ap (json.value max_depth) (same ∙ sym (append-nil ts)) ∙ value-json_tokens (outline d) max_depth [] shallow)

-- a member is read as one of the same name and this value
pub record IsRead (levels : ℕ) (field value : Field) : Type 0 where
  pub name : field.0 ≡ value.0
  pub numbers : tree.HasNumbers (outline field.1)
  pub shallow : tree.depth (outline field.1) ≤ levels
  pub reads : of_json (outline field.1) ≡ Some value.1

abbrev pub AreRead : ℕ → List Field → List Field → Type 0
AreRead levels [] [] = ⊤
AreRead levels [] (value ∷ values) = ⊥
AreRead levels (field ∷ fields) [] = ⊥
AreRead levels (field ∷ fields) (value ∷ values) = IsRead levels field value × AreRead levels fields values

-- the members with these, in the order in which they are read
abbrev pub putting : List Field → Members → Members
putting [] found = found
putting (value ∷ values) found = putting values (put value.0 value.1 found)

members_read : (levels : ℕ) (fields values : List Field) (found : Members) → AreRead levels fields values →
    of_members (members_outline (in_order fields)) found ≡ Some (putting values found)
members_read levels [] [] found h = refl
members_read levels [] (value ∷ values) found h = absurd h
members_read levels (field ∷ fields) [] found h = absurd h
members_read levels (field ∷ fields) (value ∷ values) found h =
    rw h.0.reads (members_read levels fields values (put field.0 value.1 found) h.1
    ∙ ap (λ name. Some (putting values (put name value.1 found))) h.0.name)

members_numbers : (levels : ℕ) (fields values : List Field) → AreRead levels fields values →
    tree.MembersHaveNumbers (members_outline (in_order fields))
members_numbers levels [] [] h = tt
members_numbers levels [] (value ∷ values) h = tt
members_numbers levels (field ∷ fields) [] h = absurd h
members_numbers levels (field ∷ fields) (value ∷ values) h = (h.0.numbers, members_numbers levels fields values h.1)

members_shallow : (levels : ℕ) (fields values : List Field) → AreRead levels fields values →
    tree.members_depth (members_outline (in_order fields)) ≤ levels
members_shallow levels [] [] h = omega arith
members_shallow levels [] (value ∷ values) h = omega arith
members_shallow levels (field ∷ fields) [] h = absurd h
members_shallow levels (field ∷ fields) (value ∷ values) h =
    let first = h.0.shallow in let rest = members_shallow levels fields values h.1 in omega arith

-- an object whose members are read in another order than by name
pub object_read : (levels : ℕ) (name : List ℕ) (fields values : List Field) → AreRead levels fields values →
    putting values no_members ≡ members_of values → IsRead (suc levels) (name, ordered fields) (name, object_of values)
object_read levels name fields values h same =
    let rest = members_shallow levels fields values h in record {
      name = refl;
      numbers = members_numbers levels fields values h;
      shallow = omega arith;
      reads = ap (option_map object) (members_read levels fields values no_members h ∙ ap (λ ms. Some ms) same);
    }

pub text_read : (fields values : List Field) → AreRead 1 fields values → putting values no_members ≡ members_of values →
    read (compact_text (ordered fields)) ≡ Some (object_of values)
text_read fields values h same =
    let whole = object_read 1 [] fields values h same in
    let shallow = whole.shallow in
    reads_as (ordered fields) (ArePrintable-json_tokens (outline (ordered fields)) whole.numbers) (omega arith) ∙ whole.reads

pub number_read : (levels : ℕ) (name : List ℕ) (n : ℕ) → Fits n → IsRead levels (name, numeral n) (name, numeral n)
number_read levels name n fits = record {
  name = refl;
  numbers = IsNumber-decimal n fits;
  shallow = omega arith;
  reads = ap (option_map number) (number_of-decimal n fits);
}

pub string_read : (levels : ℕ) (name text : List ℕ) → IsRead levels (name, string text) (name, string text)
string_read levels name text = record { name = refl; numbers = tt; shallow = omega arith; reads = refl }

pub AreRead-append : (levels : ℕ) (fields values more others : List Field) → AreRead levels fields values →
    AreRead levels more others → AreRead levels (fields ++ more) (values ++ others)
AreRead-append levels [] [] more others h rest = rest
AreRead-append levels [] (value ∷ values) more others h rest = absurd h
AreRead-append levels (field ∷ fields) [] more others h rest = absurd h
AreRead-append levels (field ∷ fields) (value ∷ values) more others h rest =
    (h.0, AreRead-append levels fields values more others h.1 rest)

pub boolean_read : (levels : ℕ) (name : List ℕ) (b : Bool) → IsRead levels (name, boolean b) (name, boolean b)
boolean_read levels name b = record { name = refl; numbers = tt; shallow = omega arith; reads = refl }

pub null_read : (levels : ℕ) (name : List ℕ) → IsRead levels (name, null) (name, null)
null_read levels name = record { name = refl; numbers = tt; shallow = omega arith; reads = refl }
