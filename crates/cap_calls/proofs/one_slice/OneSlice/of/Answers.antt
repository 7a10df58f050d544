-- The slice has the words of the one segment.
use Rattle.cap_spec.proofs.ProofNames.{List, [], ap, subst, sym, ℕ, ◌∙◌, ◌∷◌, IsMessage}
use Rattle.cap_frame.specs.Bytes.{cut}
use Rattle.cap_calls.proofs.OneSegments.{only_segment}
use Rattle.cap_calls.proofs.one_slice.OneSlice.of.Goals as goal

pub invariant_of-result : goal.invariant_of-result
invariant_of-result c =
    let view = c.args.view.now in
    let m = cut view.sizes.now view.bytes.now in
    let same = ap (λ (ws : List ℕ). ws ∷ []) c.in-Some.ensures.words ∙ sym (only_segment m c.requires) in
    record { is_message = subst IsMessage (sym same) view.is_message }

pub returns : goal.returns
returns c =
    let view = c.args.view.now in
    ap (λ (ws : List ℕ). ws ∷ []) c.in-Some.ensures.words ∙ sym (only_segment (cut view.sizes.now view.bytes.now) c.requires)
