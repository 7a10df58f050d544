-- The JSON objects of the option --json, one a line (profile; RFC 8259).
use Rattle.std.specs.Prelude.{Bool, List, None, Option, Some, [], codes, decimal, if◌then◌else◌, length, nat_lt, suc, zero, ℕ, ◌++◌}
use Rattle.hex.specs.Hex.{encode_lower}
use Rattle.cap_spec.specs.PathTexts.{path_text}
use Rattle.cap_spec.specs.Texts.{Verdict, accepted, refused}
use Rattle.cap_spec.specs.declared.Step.{Step}
use Rattle.cap_trace.specs.declared.returning.Cycle.{Cycle}

-- a member whose value is a number
abbrev pub number_member : List ℕ → ℕ → List ℕ
number_member name n = codes ",\"" ++ name ++ codes "\":" ++ decimal n

-- the object of message n up to its verdict
abbrev pub object_start : ℕ → List ℕ → List ℕ
object_start n verdict = codes "{\"message\":" ++ decimal n ++ codes ",\"verdict\":\"" ++ verdict ++ codes "\""

-- The place of a pointer word and its number. If no pointer is refused, the number is 0, and there are no members.
abbrev pub place_members : ℕ → ℕ → ℕ → List ℕ
place_members s w zero = []
place_members s w (suc p) = number_member (codes "segment") s ++ number_member (codes "word") w ++ number_member (codes "pointer") (suc p)

-- the numbers of a tree
abbrev pub number_members : ℕ → ℕ → ℕ → ℕ → List ℕ
number_members c d p k = number_member (codes "charge") c ++ number_member (codes "depth") d
    ++ number_member (codes "pointers") p ++ number_member (codes "capabilities") k

-- the line of message n with this verdict
abbrev pub verdict_json : ℕ → Verdict → List ℕ
verdict_json n (accepted c d p k) = object_start n (codes "accepted") ++ number_members c d p k ++ codes "}\n"
verdict_json n (refused name s w p) = object_start n (codes "refused") ++ codes ",\"reason\":\"" ++ name ++ codes "\""
    ++ place_members s w p ++ codes "}\n"

-- the line of message n if it is accepted: whether it is canonical
abbrev pub check_json : ℕ → Bool → List ℕ
check_json n canonical = object_start n (codes "accepted") ++ codes ",\"canonical\":"
    ++ (if canonical then codes "true" else codes "false") ++ codes "}\n"

-- the line of message n if it is accepted, with the lower-case digits of its hash
abbrev pub hash_json : ℕ → List ℕ → List ℕ
hash_json n hash = object_start n (codes "accepted") ++ codes ",\"sha256\":\"" ++ encode_lower hash ++ codes "\"}\n"

-- the line of message n if it is accepted and has no canonical form, with the place of its first capability
abbrev pub no_form_json : ℕ → ℕ → ℕ → List ℕ
no_form_json n s w = object_start n (codes "accepted") ++ codes ",\"sha256\":null" ++ number_member (codes "segment") s
    ++ number_member (codes "word") w ++ codes "}\n"

-- the path to a pointer
abbrev pub steps_member : List Step → List ℕ
steps_member steps = codes ",\"path\":\"" ++ path_text steps ++ codes "\""

-- that of the pointer that is refused, if there is one, and it isn't too long for an object
abbrev pub path_member : Option (List Step) → List ℕ
path_member None = []
path_member (Some steps) = if nat_lt 257 (length steps) then [] else steps_member steps

-- the name of a reason, as the first member of an object
abbrev pub reason_member : List ℕ → List ℕ
reason_member name = codes "\"reason\":\"" ++ name ++ codes "\""

-- the reason as a sentence, of which JSON escapes nothing
abbrev pub sentence_member : List ℕ → List ℕ
sentence_member sentence = codes ",\"sentence\":\"" ++ sentence ++ codes "\""

-- the members of a refusal: the reason, the place of the pointer, the path to it, and the sentence
abbrev pub reason_members : List ℕ → ℕ → ℕ → ℕ → Option (List Step) → List ℕ → List ℕ
reason_members name s w p path sentence =
    reason_member name ++ place_members s w p ++ path_member path ++ sentence_member sentence

-- the members of a cycle: its pointer word, and the two levels at which the path reaches it
abbrev pub cycle_members : Cycle → List ℕ
cycle_members c = codes "\"segment\":" ++ decimal c.segment ++ number_member (codes "word") c.word
    ++ number_member (codes "from_level") c.from_level ++ number_member (codes "to_level") c.to_level

-- the last cycle of the path, if it has one
abbrev pub cycle_member : Option Cycle → List ℕ
cycle_member None = []
cycle_member (Some c) = codes ",\"cycle\":{" ++ cycle_members c ++ codes "}"

-- the line of message n with this verdict, which is explained if it is refused
abbrev pub explained_json : ℕ → Verdict → Option (List Step) → List ℕ → Option Cycle → List ℕ
explained_json n (accepted c d p k) path sentence cycle = verdict_json n (accepted c d p k)
explained_json n (refused name s w p) path sentence cycle = object_start n (codes "refused") ++ codes ","
    ++ reason_members name s w p path sentence ++ cycle_member cycle ++ codes "}\n"

-- the member of an accepted message that has this verdict by what filter, the guard and the libraries demand
abbrev pub filter_member : Verdict → Option (List Step) → List ℕ → List ℕ
filter_member (accepted c d p k) path sentence = []
filter_member (refused name s w p) path sentence =
    codes ",\"filter\":{" ++ reason_members name s w p path sentence ++ codes "}"

-- the line of message n if it is accepted, with the numbers of its tree, and then this member
abbrev pub accepted_json : ℕ → ℕ → ℕ → ℕ → ℕ → List ℕ → List ℕ
accepted_json n c d p k member = object_start n (codes "accepted") ++ number_members c d p k ++ member ++ codes "}\n"
