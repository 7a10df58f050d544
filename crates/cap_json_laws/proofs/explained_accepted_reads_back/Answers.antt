use Rattle.cap_spec.specs.declared.StrictRefusal.TheVariants.{ManySegments, Pointer, Refused}
use Rattle.std.specs.Prelude.{codes}
use Rattle.std.proofs.Common.{[], refl}
use Rattle.json.specs.Print.{escape_byte}
use Rattle.cap_spec.specs.Texts.{lax_name, reason_name}
use Rattle.cap_spec.specs.SpecNames.{strict_verdict}
use Rattle.cap_text.specs.JsonLines.{accepted_json, filter_member}
use Rattle.cap_json_laws.specs.JsonFields.{HasNumbers, IsLineOf, IsUnescaped, accepted_value, filter_fields}
use Rattle.cap_json_laws.proofs.Escapes.{plain_same}
use Rattle.cap_json_laws.proofs.Explaining.{filtered_line}
use Rattle.cap_json_laws.proofs.Lines.{accepted_line}
use Rattle.cap_json_laws.proofs.ReasonNames.{lax_escapes, reason_escapes}
use Rattle.cap_json_laws.proofs.explained_accepted_reads_back.Goals as goal

pub returns-clause-passes : goal.returns-clause-passes
returns-clause-passes g = λ n c d p k fits h. accepted_line n c d p k [] [] [] fits h.0 h.1 h.2 h.3 refl tt refl

pub returns-clause-is_filtered : goal.returns-clause-is_filtered
unfolding escape_byte
returns-clause-is_filtered g = λ n c d p k fault path sentence fits h. elim fault as (λ f.
    HasNumbers (strict_verdict f) → IsUnescaped sentence →
    IsLineOf (accepted_json n c d p k (filter_member (strict_verdict f) path sentence))
    (accepted_value n c d p k (filter_fields (strict_verdict f) path sentence))) [
      | Refused r ↦ λ f plain. filtered_line n c d p k (reason_name r.reason) r.segment r.word r.pointers path sentence
          (reason_escapes r.reason) (plain_same sentence plain) fits h.0 h.1 h.2 h.3 f.0 f.1 f.2
      | ManySegments ↦ λ f plain. filtered_line n c d p k (codes "ManySegments") 0 0 0 path sentence
          refl (plain_same sentence plain) fits h.0 h.1 h.2 h.3 f.0 f.1 f.2
      | Pointer what s w q ↦ λ f plain. filtered_line n c d p k (lax_name what) s w q path sentence
          (lax_escapes what) (plain_same sentence plain) fits h.0 h.1 h.2 h.3 f.0 f.1 f.2
    ]
