-- The values that the lines of the option --json are (profile; RFC 8259).
use Rattle.std.specs.List.{AllByRecursion}
use Rattle.std.specs.Prelude.{Bool, List, None, Option, Some, [], codes, false, if◌then◌else◌, length, nat_lt, suc, true, zero, ℕ, ⊤}
use Rattle.std.specs.Prelude.{◌++◌, ◌<◌, ◌^◌, ◌≡◌, ◌≢◌, ◌≤◌, ◌∷◌}
use Rattle.hex.specs.Hex.{encode_lower}
use Rattle.serde_json.specs.Data.{Data, Members, boolean, no_members, null, number, object, put, string, unsigned}
use Rattle.serde_json.specs.Read.{read}
use Rattle.cap_spec.specs.PathTexts.{path_text}
use Rattle.cap_spec.specs.Texts.{Verdict, accepted, refused}
use Rattle.cap_spec.specs.declared.Step.{Step}
use Rattle.cap_difference.specs.declared.difference.Difference.{Difference}
use Rattle.cap_trace.specs.declared.returning.Cycle.{Cycle}
use Rattle.cap_text.specs.DifferenceLines.{difference_name}

-- a member of this name
abbrev pub Field : Type 0
Field = List ℕ × Data

abbrev pub numeral : ℕ → Data
numeral n = number (unsigned n)

-- an object with these members
abbrev pub members_of : List Field → Members
members_of [] = no_members
members_of (field ∷ fields) = put field.0 field.1 (members_of fields)

abbrev pub object_of : List Field → Data
object_of fields = object (members_of fields)

-- The line is a text and a newline, and the text reads as this value.
abbrev pub IsLineOf : List ℕ → Data → Type 0
IsLineOf line value = (text : List ℕ) × (line ≡ text ++ 10 ∷ []) × (read text ≡ Some value)

-- what each object of message n begins with
abbrev pub head_fields : ℕ → List ℕ → List Field → List Field
head_fields n verdict rest = (codes "message", numeral n) ∷ (codes "verdict", string verdict) ∷ rest

-- the place of a pointer and its number, which is 0 where no pointer is refused
abbrev pub place_fields : ℕ → ℕ → ℕ → List Field
place_fields s w zero = []
place_fields s w (suc p) =
    (codes "segment", numeral s) ∷ (codes "word", numeral w)
    ∷ (codes "pointer", numeral (suc p)) ∷ []

-- the numbers of a tree
abbrev pub number_fields : ℕ → ℕ → ℕ → ℕ → List Field → List Field
number_fields c d p k rest =
    (codes "charge", numeral c) ∷ (codes "depth", numeral d) ∷ (codes "pointers", numeral p)
    ∷ (codes "capabilities", numeral k) ∷ rest

-- the value of message n if it is accepted, with the numbers of its tree, and then these fields
abbrev pub accepted_value : ℕ → ℕ → ℕ → ℕ → ℕ → List Field → Data
accepted_value n c d p k rest = object_of (head_fields n (codes "accepted") (number_fields c d p k rest))

-- the value of message n with this verdict
abbrev pub verdict_value : ℕ → Verdict → Data
verdict_value n (accepted c d p k) = accepted_value n c d p k []
verdict_value n (refused name s w p) = object_of (head_fields n (codes "refused")
    ((codes "reason", string name) ∷ place_fields s w p))

-- that of an accepted message, by whether it is canonical
abbrev pub check_value : ℕ → Bool → Data
check_value n canonical =
    object_of (head_fields n (codes "accepted") ((codes "canonical", boolean canonical) ∷ []))

-- that of an accepted message, with the digits of its hash
abbrev pub hash_value : ℕ → List ℕ → Data
hash_value n hash =
    object_of (head_fields n (codes "accepted") ((codes "sha256", string (encode_lower hash)) ∷ []))

-- that of an accepted message without a canonical form, with the place of its first capability
abbrev pub no_form_value : ℕ → ℕ → ℕ → Data
no_form_value n s w = object_of (head_fields n (codes "accepted")
    ((codes "sha256", null) ∷ (codes "segment", numeral s) ∷ (codes "word", numeral w) ∷ []))

-- the path to a pointer, if there is one of at most 257 steps
abbrev pub path_fields : Option (List Step) → List Field
path_fields None = []
path_fields (Some steps) =
    if nat_lt 257 (length steps) then [] else (codes "path", string (path_text steps)) ∷ []

-- the fields of a refusal: the reason, the place of the pointer, the path to it, and the sentence
abbrev pub reason_fields : List ℕ → ℕ → ℕ → ℕ → Option (List Step) → List ℕ → List Field
reason_fields name s w p path sentence =
    (codes "reason", string name)
    ∷ (place_fields s w p ++ path_fields path ++ (codes "sentence", string sentence) ∷ [])

-- a cycle: its pointer word, and the two levels at which the path reaches it
abbrev pub word_and_levels : Cycle → List Field
word_and_levels c = (codes "segment", numeral c.segment) ∷ (codes "word", numeral c.word)
    ∷ (codes "from_level", numeral c.from_level) ∷ (codes "to_level", numeral c.to_level) ∷ []

-- the last cycle of the path, if it has one
abbrev pub cycle_fields : Option Cycle → List Field
cycle_fields None = []
cycle_fields (Some c) = (codes "cycle", object_of (word_and_levels c)) ∷ []

-- the value of message n with this verdict, which is explained if it is refused
abbrev pub explained_value : ℕ → Verdict → Option (List Step) → List ℕ → Option Cycle → Data
explained_value n (accepted c d p k) path sentence cycle = verdict_value n (accepted c d p k)
explained_value n (refused name s w p) path sentence cycle =
    object_of (head_fields n (codes "refused") (reason_fields name s w p path sentence ++ cycle_fields cycle))

-- the field of an accepted message that has this verdict by what filter, the guard and the libraries demand
abbrev pub filter_fields : Verdict → Option (List Step) → List ℕ → List Field
filter_fields (accepted c d p k) path sentence = []
filter_fields (refused name s w p) path sentence =
    (codes "filter", object_of (reason_fields name s w p path sentence)) ∷ []

-- the fields of an accepted message on whether it is canonical, and the first difference from its canonical copy
abbrev pub canonical_fields : Option Difference → Option (List Step) → List ℕ → List Field
canonical_fields None path sentence = (codes "canonical", boolean true) ∷ []
canonical_fields (Some d) path sentence = (codes "canonical", boolean false)
    ∷ (codes "difference", object_of (reason_fields (difference_name d.reason) d.segment d.word d.pointers path sentence)) ∷ []

-- JSON escapes no byte of this text: none is a control character, a quotation mark or a backslash (RFC 8259, section 7)
abbrev pub IsUnescaped : List ℕ → Type 0
IsUnescaped text = AllByRecursion (λ b. (32 ≤ b) × (b ≢ 34) × (b ≢ 92)) text

-- a number of 64 bits
abbrev pub Fits : ℕ → Type 0
Fits n = n < 2 ^ 64

-- the numbers of a verdict have 64 bits
abbrev pub HasNumbers : Verdict → Type 0
HasNumbers (accepted c d p k) = Fits c × Fits d × Fits p × Fits k
HasNumbers (refused name s w p) = Fits s × Fits w × Fits p

-- so have the numbers of the cycle, if there is one
abbrev pub HasCycleNumbers : Option Cycle → Type 0
HasCycleNumbers None = ⊤
HasCycleNumbers (Some c) = Fits c.segment × Fits c.word × Fits c.from_level × Fits c.to_level

-- so have the numbers of the first difference, if there is one
abbrev pub HasDifferencePlace : Option Difference → Type 0
HasDifferencePlace None = ⊤
HasDifferencePlace (Some d) = Fits d.segment × Fits d.word × Fits d.pointers
