use Rattle.cap_spec.specs.declared.StrictRefusal.TheVariants.{ManySegments, Pointer, Refused}
use Rattle.std.specs.Prelude.{codes}
use Rattle.std.proofs.Common.{refl}
use Rattle.json.specs.Print.{escape_byte}
use Rattle.cap_spec.specs.SpecNames.{strict_verdict}
use Rattle.cap_spec.specs.Texts.{lax_name, reason_name}
use Rattle.cap_text.specs.JsonLines.{verdict_json}
use Rattle.cap_json_laws.specs.JsonFields.{HasNumbers, IsLineOf, verdict_value}
use Rattle.cap_json_laws.proofs.Lines.{refused_line}
use Rattle.cap_json_laws.proofs.ReasonNames.{lax_escapes, reason_escapes}
use Rattle.cap_json_laws.proofs.refused_reads_back.Goals as goal

pub returns : goal.returns
unfolding escape_byte
returns c = λ n fault fits. elim fault as (λ f.
    HasNumbers (strict_verdict f) → IsLineOf (verdict_json n (strict_verdict f)) (verdict_value n (strict_verdict f))) [
      | Refused r ↦ λ h. refused_line n (reason_name r.reason) r.segment r.word r.pointers (reason_escapes r.reason) fits h.0 h.1 h.2
      | ManySegments ↦ λ h. refused_line n (codes "ManySegments") 0 0 0 refl fits h.0 h.1 h.2
      | Pointer what s w p ↦ λ h. refused_line n (lax_name what) s w p (lax_escapes what) fits h.0 h.1 h.2
    ]
