use Rattle.cap_spec.specs.declared.Step.{Step}
use Rattle.cap_spec.specs.declared.StrictRefusal.TheVariants.{ManySegments, Pointer, Refused}
use Rattle.std.specs.Prelude.{codes, ⊤}
use Rattle.std.proofs.Common.{List, None, Option, Some, [], refl, ℕ, ◌++◌, ap, ap₂, append-nil, false, sym}
use Rattle.std.proofs.Common.{true, ◌∙◌, ◌∷◌, ◌≡◌}
use Rattle.json.specs.Print.{escape_byte, escape}
use Rattle.cap_spec.specs.Texts.{lax_name, reason_name, refused}
use Rattle.cap_spec.specs.SpecNames.{strict_verdict}
use Rattle.cap_difference.specs.declared.difference.Difference.{Difference}
use Rattle.cap_text.specs.DifferenceLines.{canonical_members, difference_name}
use Rattle.cap_text.specs.JsonLines.{accepted_json, filter_member, reason_members}
use Rattle.cap_json_laws.specs.JsonFields.{Fits, HasNumbers, HasDifferencePlace, IsLineOf, IsUnescaped, accepted_value}
use Rattle.cap_json_laws.specs.JsonFields.{canonical_fields, filter_fields, Field, head_fields, object_of}
use Rattle.cap_json_laws.proofs.Escapes.{plain_same}
use Rattle.cap_json_laws.proofs.ReasonNames.{lax_escapes, reason_escapes, difference_escapes}
use Rattle.serde_json.specs.Data.{boolean, string}
use Rattle.serde_json.specs.Written.{compact_text}
use Rattle.cap_json_laws.proofs.Explaining.{filter-later, on_path, on_paths, why, why-later, why_read, why_same}
use Rattle.cap_json_laws.proofs.Explaining.{why_with}
use Rattle.cap_json_laws.proofs.Fields.{AreRead, AreRead-append, boolean_read, object_read}
use Rattle.cap_json_laws.proofs.Lines.{IsSame, accepted_line, numbered, placed}
use Rattle.cap_json_laws.proofs.Members.{later, later-append, object-later}
use Rattle.cap_json_laws.proofs.Objects.{ordered}
use Rattle.cap_json_laws.proofs.explained_canonical_reads_back.Goals as goal

-- The members of explain on whether a message is canonical. The fields are written here again, as those in Lines are.
-- the fields as they are written,
abbrev written : Option Difference → Option (List Step) → List ℕ → List Field
written None path sentence = (codes "canonical", boolean true) ∷ []
written (Some d) path sentence = (codes "canonical", boolean false)
    ∷ (codes "difference", ordered (why (difference_name d.reason) d.segment d.word d.pointers path sentence)) ∷ []

-- and as they are read
abbrev told : Option Difference → Option (List Step) → List ℕ → List Field
told None path sentence = (codes "canonical", boolean true) ∷ []
told (Some d) path sentence = (codes "canonical", boolean false)
    ∷ (codes "difference", object_of (why (difference_name d.reason) d.segment d.word d.pointers path sentence)) ∷ []

-- the numbers of a first difference have 64 bits
abbrev HasBits : Option Difference → Type 0
HasBits None = ⊤
HasBits (Some d) = Fits d.segment × Fits d.word × Fits d.pointers

written-later : (found : Option Difference) (path : Option (List Step)) (sentence : List ℕ) → escape sentence ≡ sentence →
    canonical_members found path sentence ≡ later (written found path sentence)
unfolding escape_byte
written-later None path sentence said = refl
written-later (Some d) path sentence said =
    let name = difference_name d.reason in
    let members = reason_members name d.segment d.word d.pointers path sentence in
    let object = ordered (why name d.segment d.word d.pointers path sentence) in
    let place = placed d.segment d.word d.pointers ++ on_path path ++ (codes "sentence", string sentence) ∷ [] in
    let same = object-later (codes "reason", string name) place members
    (sym (why-later name d.segment d.word d.pointers path sentence (difference_escapes d.reason) said)) in
    ap (λ text. codes ",\"canonical\":false,\"difference\":" ++ text) (sym same)
    ∙ ap (λ text. codes ",\"canonical\":false,\"difference\":" ++ text) (sym (append-nil (compact_text object)))

reason_read : (key name : List ℕ) (s w q : ℕ) (path : Option (List Step)) (sentence : List ℕ) → Fits s → Fits w → Fits q →
    AreRead 1 ((key, ordered (why name s w q path sentence)) ∷ []) ((key, object_of (why name s w q path sentence)) ∷ [])
reason_read key name s w q path sentence s_fits w_fits q_fits =
    let members = why name s w q path sentence in
    let same = on_paths (λ shown_path. IsSame (why_with name (placed s w q) shown_path sentence))
    path (λ is_long steps. why_same name s w q is_long steps sentence) in
    (object_read 0 key members members (why_read 0 name s w q path sentence s_fits w_fits q_fits) same, tt)

told_read : (found : Option Difference) (path : Option (List Step)) (sentence : List ℕ) → HasBits found →
    AreRead 1 (written found path sentence) (told found path sentence)
told_read None path sentence h = (boolean_read 1 (codes "canonical") true, tt)
told_read (Some d) path sentence h = (
  boolean_read 1 (codes "canonical") false,
  reason_read (codes "difference") (difference_name d.reason) d.segment d.word d.pointers path sentence h.0 h.1 h.2,
)

told_same : (n c d p k : ℕ) (found : Option Difference) (path : Option (List Step)) (sentence : List ℕ) →
    IsSame (head_fields n (codes "accepted") (numbered c d p k (told found path sentence)))
told_same n c d p k None path sentence = refl
told_same n c d p k (Some own) path sentence = refl

-- the line of an accepted message with these members
canonical_line : (n c d p k : ℕ) (found : Option Difference) (path : Option (List Step)) (sentence : List ℕ) →
    escape sentence ≡ sentence → Fits n → Fits c → Fits d → Fits p → Fits k → HasBits found →
    IsLineOf (accepted_json n c d p k (canonical_members found path sentence ++ []))
    (object_of (head_fields n (codes "accepted") (numbered c d p k (told found path sentence))))
canonical_line n c d p k found path sentence said fits c_fits d_fits p_fits k_fits h =
    accepted_line n c d p k (canonical_members found path sentence ++ []) (written found path sentence) (told found path sentence)
    fits c_fits d_fits p_fits k_fits (append-nil (canonical_members found path sentence) ∙ written-later found path sentence said)
    (told_read found path sentence h) (told_same n c d p k found path sentence)

both_same : (n c d p k : ℕ) (found : Option Difference) (path : Option (List Step)) (sentence : List ℕ) (key : List Field) →
    IsSame (head_fields n (codes "accepted") (numbered c d p k (told found path sentence ++ (codes "filter", object_of key) ∷ [])))
both_same n c d p k None path sentence key = refl
both_same n c d p k (Some own) path sentence key = refl

-- and with the member of filter
both_line : (n c d p k : ℕ) (found : Option Difference) (path : Option (List Step)) (sentence name : List ℕ) (s w q : ℕ)
    (other : Option (List Step)) (reason : List ℕ) →
    escape sentence ≡ sentence → escape name ≡ name → escape reason ≡ reason → Fits n → Fits c → Fits d → Fits p → Fits k →
    HasBits found → Fits s → Fits w → Fits q →
    IsLineOf (accepted_json n c d p k (canonical_members found path sentence ++ filter_member (refused name s w q) other reason))
    (object_of (head_fields n (codes "accepted") (numbered c d p k
    (told found path sentence ++ (codes "filter", object_of (why name s w q other reason)) ∷ []))))
both_line n c d p k found path sentence name s w q other reason said named given fits c_fits d_fits p_fits k_fits h s_fits w_fits q_fits =
    let filter : List Field = (codes "filter", ordered (why name s w q other reason)) ∷ [] in
    let filtered : List Field = (codes "filter", object_of (why name s w q other reason)) ∷ [] in
    let text = ap₂ (λ (x y : List ℕ). x ++ y) (written-later found path sentence said) (filter-later name s w q other reason named given)
    ∙ sym (later-append (written found path sentence) filter) in
    accepted_line n c d p k (canonical_members found path sentence ++ filter_member (refused name s w q) other reason)
    (written found path sentence ++ filter) (told found path sentence ++ filtered) fits c_fits d_fits p_fits k_fits text
    (AreRead-append 1 (written found path sentence) (told found path sentence) filter filtered (told_read found path sentence h)
    (reason_read (codes "filter") name s w q other reason s_fits w_fits q_fits))
    (both_same n c d p k found path sentence (why name s w q other reason))

pub returns-clause-passes : goal.returns-clause-passes
returns-clause-passes g = λ n c d p k found path sentence fits h. elim found as (λ f. HasDifferencePlace f → IsUnescaped sentence →
    IsLineOf (accepted_json n c d p k (canonical_members f path sentence ++ []))
    (accepted_value n c d p k (canonical_fields f path sentence))) [
      | None ↦ λ place plain. canonical_line n c d p k None path sentence (plain_same sentence plain) fits h.0 h.1 h.2 h.3 place
      | Some x ↦ λ place plain. canonical_line n c d p k (Some x) path sentence (plain_same sentence plain) fits h.0 h.1 h.2 h.3 place
    ]

pub returns-clause-is_filtered : goal.returns-clause-is_filtered
unfolding escape_byte
returns-clause-is_filtered g = λ n c d p k found path sentence fault other why fits h. elim found as (λ f.
    HasDifferencePlace f → IsUnescaped sentence → HasNumbers (strict_verdict fault) → IsUnescaped why →
    IsLineOf (accepted_json n c d p k (canonical_members f path sentence ++ filter_member (strict_verdict fault) other why))
    (accepted_value n c d p k (canonical_fields f path sentence ++ filter_fields (strict_verdict fault) other why))) [
      | None ↦ λ place plain. elim fault as (λ v. HasNumbers (strict_verdict v) → IsUnescaped why →
          IsLineOf (accepted_json n c d p k (canonical_members None path sentence ++ filter_member (strict_verdict v) other why))
          (accepted_value n c d p k (canonical_fields None path sentence ++ filter_fields (strict_verdict v) other why))) [
            | Refused r ↦ λ numbers said. both_line n c d p k None path sentence (reason_name r.reason) r.segment r.word r.pointers other why (plain_same sentence plain) (reason_escapes r.reason)
                (plain_same why said) fits h.0 h.1 h.2 h.3 place numbers.0 numbers.1 numbers.2
            | ManySegments ↦ λ numbers said. both_line n c d p k None path sentence (codes "ManySegments") 0 0 0 other why (plain_same sentence plain) refl
                (plain_same why said) fits h.0 h.1 h.2 h.3 place numbers.0 numbers.1 numbers.2
            | Pointer what s w q ↦ λ numbers said. both_line n c d p k None path sentence (lax_name what) s w q other why (plain_same sentence plain) (lax_escapes what)
                (plain_same why said) fits h.0 h.1 h.2 h.3 place numbers.0 numbers.1 numbers.2
          ]
      | Some x ↦ λ place plain. elim fault as (λ v. HasNumbers (strict_verdict v) → IsUnescaped why →
          IsLineOf (accepted_json n c d p k (canonical_members (Some x) path sentence ++ filter_member (strict_verdict v) other why))
          (accepted_value n c d p k (canonical_fields (Some x) path sentence ++ filter_fields (strict_verdict v) other why))) [
            | Refused r ↦ λ numbers said. both_line n c d p k (Some x) path sentence (reason_name r.reason) r.segment r.word r.pointers other why (plain_same sentence plain) (reason_escapes r.reason)
                (plain_same why said) fits h.0 h.1 h.2 h.3 place numbers.0 numbers.1 numbers.2
            | ManySegments ↦ λ numbers said. both_line n c d p k (Some x) path sentence (codes "ManySegments") 0 0 0 other why (plain_same sentence plain) refl
                (plain_same why said) fits h.0 h.1 h.2 h.3 place numbers.0 numbers.1 numbers.2
            | Pointer what s w q ↦ λ numbers said. both_line n c d p k (Some x) path sentence (lax_name what) s w q other why (plain_same sentence plain) (lax_escapes what)
                (plain_same why said) fits h.0 h.1 h.2 h.3 place numbers.0 numbers.1 numbers.2
          ]
    ]
