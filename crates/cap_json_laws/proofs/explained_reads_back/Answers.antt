use Rattle.cap_spec.specs.declared.StrictRefusal.TheVariants.{ManySegments, Pointer, Refused}
use Rattle.std.specs.Prelude.{codes}
use Rattle.std.proofs.Common.{refl}
use Rattle.json.specs.Print.{escape_byte}
use Rattle.cap_spec.specs.Texts.{lax_name, reason_name}
use Rattle.cap_spec.specs.SpecNames.{strict_verdict}
use Rattle.cap_text.specs.JsonLines.{explained_json}
use Rattle.cap_json_laws.specs.JsonFields.{HasCycleNumbers, HasNumbers, IsLineOf, IsUnescaped, explained_value}
use Rattle.cap_json_laws.proofs.Escapes.{plain_same}
use Rattle.cap_json_laws.proofs.Explaining.{explained_line}
use Rattle.cap_json_laws.proofs.ReasonNames.{lax_escapes, reason_escapes}
use Rattle.cap_json_laws.proofs.explained_reads_back.Goals as goal

pub returns : goal.returns
unfolding escape_byte
returns c = λ n fault path sentence cycle fits. elim fault as (λ f.
    HasNumbers (strict_verdict f) → IsUnescaped sentence → HasCycleNumbers cycle
    → IsLineOf (explained_json n (strict_verdict f) path sentence cycle)
    (explained_value n (strict_verdict f) path sentence cycle)) [
      | Refused r ↦ λ h plain. explained_line n (reason_name r.reason) r.segment r.word r.pointers path sentence cycle
          (reason_escapes r.reason) (plain_same sentence plain) fits h.0 h.1 h.2
      | ManySegments ↦ λ h plain. explained_line n (codes "ManySegments") 0 0 0 path sentence cycle refl (plain_same sentence plain)
          fits h.0 h.1 h.2
      | Pointer what s w p ↦ λ h plain. explained_line n (lax_name what) s w p path sentence cycle
          (lax_escapes what) (plain_same sentence plain) fits h.0 h.1 h.2
    ]
