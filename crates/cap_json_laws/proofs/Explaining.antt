-- The lines of explain, whatever the reason is called. The fields of a refusal are written here again, as those in Lines are.
use Rattle.std.proofs.Common.{Bool, List, None, Option, Some, [], ap, ap₂, append-nil, append_assoc, false, length}
use Rattle.std.proofs.Common.{refl, subst, suc, sym, true, zero, ℕ, ◌++◌, ◌∙◌, ◌∷◌, ◌≡◌}
use Rattle.std.specs.Prelude.{codes, if◌then◌else◌, nat_lt}
use Rattle.json.specs.Print.{escape, escape_byte}
use Rattle.serde_json.specs.Data.{string}
use Rattle.serde_json.specs.Written.{compact_text}
use Rattle.cap_spec.specs.PathTexts.{path_text}
use Rattle.cap_spec.specs.Texts.{refused}
use Rattle.cap_spec.specs.declared.Step.{Step}
use Rattle.cap_text.specs.JsonLines.{accepted_json, cycle_member, cycle_members, explained_json, filter_member, object_start, path_member, reason_members, steps_member}
use Rattle.cap_trace.specs.declared.returning.Cycle.{Cycle}
use Rattle.cap_json_laws.specs.JsonFields.{Field, Fits, HasCycleNumbers, IsLineOf, head_fields, numeral, object_of}
use Rattle.cap_json_laws.proofs.Escapes.{path_same}
use Rattle.cap_json_laws.proofs.Fields.{AreRead, AreRead-append, number_read, object_read, string_read}
use Rattle.cap_json_laws.proofs.Lines.{IsSame, accepted_line, four, numbered, object_line, place-later, place_read, placed}
use Rattle.cap_json_laws.proofs.Members.{later, later-append, number-later, object-later, string-later}
use Rattle.cap_json_laws.proofs.Objects.{ordered}

-- the member of a path, which may be left out
abbrev pub shown : Bool → List Step → List Field
shown is_long steps = if is_long then [] else (codes "path", string (path_text steps)) ∷ []

-- the member of a path, if there is one that isn't too long
abbrev pub on_path : Option (List Step) → List Field
on_path None = []
on_path (Some steps) = shown (nat_lt 257 (length steps)) steps

-- the members of a refusal with these of its place and of its path
abbrev pub why_with : List ℕ → List Field → List Field → List ℕ → List Field
why_with name place path sentence = (codes "reason", string name) ∷ (place ++ path ++ (codes "sentence", string sentence) ∷ [])

-- the members of a refusal
abbrev pub why : List ℕ → ℕ → ℕ → ℕ → Option (List Step) → List ℕ → List Field
why name s w p path sentence = why_with name (placed s w p) (on_path path) sentence

-- the members of a cycle
abbrev pub cycle_parts : Cycle → List Field
cycle_parts c = (codes "segment", numeral c.segment) ∷ (codes "word", numeral c.word)
    ∷ (codes "from_level", numeral c.from_level) ∷ (codes "to_level", numeral c.to_level) ∷ []

-- the member of a cycle, if there is one, with its members in the order of the text
abbrev pub round : Option Cycle → List Field
round None = []
round (Some c) = (codes "cycle", ordered (cycle_parts c)) ∷ []

-- what it is read as
abbrev pub rounded : Option Cycle → List Field
rounded None = []
rounded (Some c) = (codes "cycle", object_of (cycle_parts c)) ∷ []

-- ---- texts

parts-later : (c : Cycle) → 44 ∷ cycle_members c ≡ later (cycle_parts c)
unfolding escape_byte
parts-later c =
    ap₂ (λ (x y : List ℕ). x ++ y) (ap₂ (λ (x y : List ℕ). x ++ y) (ap₂ (λ (x y : List ℕ). x ++ y)
    (number-later (codes "segment") c.segment refl) (number-later (codes "word") c.word refl))
    (number-later (codes "from_level") c.from_level refl)) (number-later (codes "to_level") c.to_level refl)
    ∙ four ((codes "segment", numeral c.segment) ∷ []) ((codes "word", numeral c.word) ∷ [])
    ((codes "from_level", numeral c.from_level) ∷ []) ((codes "to_level", numeral c.to_level) ∷ [])

cycle-later : (cycle : Option Cycle) → cycle_member cycle ≡ later (round cycle)
unfolding escape_byte
cycle-later None = refl
cycle-later (Some c) =
    let object = ordered (cycle_parts c) in
    let rest : List Field = (codes "word", numeral c.word) ∷ (codes "from_level", numeral c.from_level)
    ∷ (codes "to_level", numeral c.to_level) ∷ [] in
    let same = object-later (codes "segment", numeral c.segment) rest (cycle_members c) (sym (parts-later c)) in
    ap (λ text. codes ",\"cycle\":" ++ text) (sym same) ∙ ap (λ text. codes ",\"cycle\":" ++ text) (sym (append-nil (compact_text object)))

shown-later : (is_long : Bool) (steps : List Step) →
    (if is_long then [] else steps_member steps) ≡ later (shown is_long steps)
unfolding escape_byte
shown-later true steps = refl
shown-later false steps = string-later (codes "path") (path_text steps) refl (path_same steps)

path-later : (path : Option (List Step)) → path_member path ≡ later (on_path path)
path-later None = refl
path-later (Some steps) = shown-later (nat_lt 257 (length steps)) steps

pub why-later : (name : List ℕ) (s w p : ℕ) (path : Option (List Step)) (sentence : List ℕ) → escape name ≡ name → escape sentence ≡ sentence →
    codes "," ++ reason_members name s w p path sentence ≡ later (why name s w p path sentence)
unfolding escape_byte
why-later name s w p path sentence named said =
    let reason = string-later (codes "reason") name refl named in
    let last = string-later (codes "sentence") sentence refl said in
    ap₂ (λ (x y : List ℕ). x ++ y)
    (ap₂ (λ (x y : List ℕ). x ++ y) (ap₂ (λ (x y : List ℕ). x ++ y) reason (place-later s w p)) (path-later path)) last
    ∙ four ((codes "reason", string name) ∷ []) (placed s w p) (on_path path) ((codes "sentence", string sentence) ∷ [])

pub filter-later : (name : List ℕ) (s w p : ℕ) (path : Option (List Step)) (sentence : List ℕ) → escape name ≡ name → escape sentence ≡ sentence →
    filter_member (refused name s w p) path sentence ≡ later ((codes "filter", ordered (why name s w p path sentence)) ∷ [])
unfolding escape_byte
filter-later name s w p path sentence named said =
    let members = reason_members name s w p path sentence in
    let object = ordered (why name s w p path sentence) in
    let place = placed s w p ++ on_path path ++ (codes "sentence", string sentence) ∷ [] in
    let same = object-later (codes "reason", string name) place members (sym (why-later name s w p path sentence named said)) in
    ap (λ text. codes ",\"filter\":" ++ text) (sym same) ∙ ap (λ text. codes ",\"filter\":" ++ text) (sym (append-nil (compact_text object)))

-- ---- values

cycle_read : (cycle : Option Cycle) → HasCycleNumbers cycle → AreRead 1 (round cycle) (rounded cycle)
cycle_read None fits = tt
cycle_read (Some c) fits =
    let segment = number_read 0 (codes "segment") c.segment fits.0 in
    let place = number_read 0 (codes "word") c.word fits.1 in
    let from = number_read 0 (codes "from_level") c.from_level fits.2 in
    let to = number_read 0 (codes "to_level") c.to_level fits.3 in
    let members = cycle_parts c in (object_read 0 (codes "cycle") members members (segment, (place, (from, (to, tt)))) refl, tt)

shown_read : (levels : ℕ) (is_long : Bool) (steps : List Step) → AreRead levels (shown is_long steps) (shown is_long steps)
shown_read levels true steps = tt
shown_read levels false steps = (string_read levels (codes "path") (path_text steps), tt)

path_read : (levels : ℕ) (path : Option (List Step)) → AreRead levels (on_path path) (on_path path)
path_read levels None = tt
path_read levels (Some steps) = shown_read levels (nat_lt 257 (length steps)) steps

pub why_read : (levels : ℕ) (name : List ℕ) (s w p : ℕ) (path : Option (List Step)) (sentence : List ℕ) → Fits s → Fits w → Fits p →
    AreRead levels (why name s w p path sentence) (why name s w p path sentence)
why_read levels name s w p path sentence s_fits w_fits p_fits =
    let place = placed s w p in
    let last : List Field = (codes "sentence", string sentence) ∷ [] in
    let front = AreRead-append levels place place (on_path path) (on_path path) (place_read levels s w p s_fits w_fits p_fits) (path_read levels path) in (
      string_read levels (codes "reason") name,
      AreRead-append levels (place ++ on_path path) (place ++ on_path path) last last front (string_read levels (codes "sentence") sentence, tt),
    )

pub why_same : (name : List ℕ) (s w p : ℕ) (is_long : Bool) (steps : List Step) (sentence : List ℕ) →
    IsSame (why_with name (placed s w p) (shown is_long steps) sentence)
why_same name s w zero true steps sentence = refl
why_same name s w zero false steps sentence = refl
why_same name s w (suc p) true steps sentence = refl
why_same name s w (suc p) false steps sentence = refl

explained_same : (n : ℕ) (name : List ℕ) (s w p : ℕ) (is_long : Bool) (steps : List Step) (sentence : List ℕ) (cycle : Option Cycle) →
    IsSame (head_fields n (codes "refused") (why_with name (placed s w p) (shown is_long steps) sentence ++ rounded cycle))
explained_same n name s w zero true steps sentence None = refl
explained_same n name s w zero false steps sentence None = refl
explained_same n name s w (suc p) true steps sentence None = refl
explained_same n name s w (suc p) false steps sentence None = refl
explained_same n name s w zero true steps sentence (Some c) = refl
explained_same n name s w zero false steps sentence (Some c) = refl
explained_same n name s w (suc p) true steps sentence (Some c) = refl
explained_same n name s w (suc p) false steps sentence (Some c) = refl

pub on_paths : (P : List Field → Type 0) (path : Option (List Step)) →
    ((is_long : Bool) (steps : List Step) → P (shown is_long steps)) → P (on_path path)
on_paths P None h = h true []
on_paths P (Some steps) h = h (nat_lt 257 (length steps)) steps

regroup : (a b c d : List ℕ) → a ++ ((b ++ c) ++ d) ≡ ((a ++ b) ++ c) ++ d
regroup a b c d = simp append_assoc

pub explained_line : (n : ℕ) (name : List ℕ) (s w p : ℕ) (path : Option (List Step)) (sentence : List ℕ) (cycle : Option Cycle) →
    escape name ≡ name → escape sentence ≡ sentence → Fits n → Fits s → Fits w → Fits p → HasCycleNumbers cycle →
    IsLineOf (explained_json n (refused name s w p) path sentence cycle)
    (object_of (head_fields n (codes "refused") (why name s w p path sentence ++ rounded cycle)))
unfolding escape_byte
explained_line n name s w p path sentence cycle named said fits s_fits w_fits p_fits cycle_fits =
    let reasons = why name s w p path sentence in
    let fields = reasons ++ round cycle in
    let members = reasons ++ rounded cycle in
    let text = (codes "," ++ reason_members name s w p path sentence) ++ cycle_member cycle in
    let is = ap₂ (λ (x y : List ℕ). x ++ y) (why-later name s w p path sentence named said) (cycle-later cycle)
    ∙ sym (later-append reasons (round cycle)) in
    let same = on_paths (λ shown_path. IsSame (head_fields n (codes "refused")
    (why_with name (placed s w p) shown_path sentence ++ rounded cycle)))
    path (λ is_long steps. explained_same n name s w p is_long steps sentence cycle) in
    let line = object_line n (codes "refused") text fields members refl is fits
    (AreRead-append 1 reasons reasons (round cycle) (rounded cycle) (why_read 1 name s w p path sentence s_fits w_fits p_fits)
    (cycle_read cycle cycle_fits)) same in
    subst (λ front. IsLineOf (front ++ codes "}\n") (object_of (head_fields n (codes "refused") members)))
    (regroup (object_start n (codes "refused")) (codes ",") (reason_members name s w p path sentence) (cycle_member cycle)) line

pub filtered_line : (n c d p k : ℕ) (name : List ℕ) (s w q : ℕ) (path : Option (List Step)) (sentence : List ℕ) →
    escape name ≡ name → escape sentence ≡ sentence → Fits n → Fits c → Fits d → Fits p → Fits k → Fits s → Fits w → Fits q →
    IsLineOf (accepted_json n c d p k (filter_member (refused name s w q) path sentence))
    (object_of (head_fields n (codes "accepted") (numbered c d p k ((codes "filter", object_of (why name s w q path sentence)) ∷ []))))
filtered_line n c d p k name s w q path sentence named said fits c_fits d_fits p_fits k_fits s_fits w_fits q_fits =
    let members = why name s w q path sentence in
    let same = on_paths (λ shown_path. IsSame (why_with name (placed s w q) shown_path sentence))
    path (λ is_long steps. why_same name s w q is_long steps sentence) in
    let inner = object_read 0 (codes "filter") members members (why_read 0 name s w q path sentence s_fits w_fits q_fits) same in
    accepted_line n c d p k (filter_member (refused name s w q) path sentence) ((codes "filter", ordered members) ∷ [])
    ((codes "filter", object_of members) ∷ []) fits c_fits d_fits p_fits k_fits (filter-later name s w q path sentence named said) (inner, tt) refl
