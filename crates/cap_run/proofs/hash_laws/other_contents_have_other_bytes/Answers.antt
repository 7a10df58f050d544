use Rattle.std.proofs.Common.{ap, sym, ◌∙◌}
use Rattle.cap_spec.specs.Canonical.{layout, trim}
use Rattle.cap_spec.specs.Plain.{plain_words}
use Rattle.cap_spec.proofs.Canonical.LayoutWords.{layout_is_words}
use Rattle.cap_spec.proofs.Canonical.Layouts.{one_layout}
use Rattle.cap_spec.proofs.Packed.Unpacking.{plain_reads}
use Rattle.cap_run.proofs.hash_laws.other_contents_have_other_bytes.Goals as goal

pub returns : goal.returns
returns c = λ m k t u x d x' d' a b h h' l l' same.
    let first = plain_reads (layout (trim t)) (layout_is_words m 0 0 t x d a h l) in
    let second = plain_reads (layout (trim u)) (layout_is_words k 0 0 u x' d' b h' l') in
    (one_layout m 0 0 t x d h l k 0 0 u x' d' h' l').0 (sym first ∙ (ap plain_words same ∙ second))
