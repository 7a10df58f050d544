use Rattle.cap_spec.proofs.ProofNames.{arith, filter, not, refl, ◌==◌, ◌∙◌, word_bytes}
use Rattle.cap_pack.proofs.Written.{take-marked}
use Rattle.cap_pack.proofs.pieces.encode_marked.Goals as goal

pub returns-clause-encoded : goal.returns-clause-encoded
returns-clause-encoded c =
    take-marked c.args.text.now (filter (λ b. not (b == 0)) (word_bytes c.args.word)) _ _ c.args.len _ c.args.tag _ _
    c.count_present.ensures.count (omega arith)
    (c.copy_from_slice.ensures.after ∙ c.squeezed.ensures) refl
