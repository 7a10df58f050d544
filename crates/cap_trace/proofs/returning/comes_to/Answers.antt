use Rattle.std.proofs.Common.{arith, get_or, length, sym, ◌+◌, ◌-◌, ◌<◌, ◌≡◌, ◌∙◌}
use Rattle.cap_spec.proofs.Lemmas.{short_segment}
use Rattle.cap_spec.proofs.ProofNames.{word}
use Rattle.cap_trace.specs.TraceNames.{Struct, row_branch}
use Rattle.cap_trace.proofs.Branches.{branch_at, is_row, row_fits, row_spot}
use Rattle.cap_trace.proofs.Returns.{element_no_word, few_taken, last_step}
use Rattle.cap_trace.proofs.returning.comes_to.Goals as goal

pub place-requires : goal.place-requires
place-requires c =
    let (m, depth, message, h) = c.requires.message in
    let less : c.args.steps - 1 < length c.args.branches.now = omega (arith, c.requires.few, c.if-steps-eq0.false) in
    let f = get_or c.args.branches.now (c.args.steps - 1) (row_branch Struct 0 0 0) in
    let b = branch_at m depth 1 c.args.branches.now (c.args.steps - 1) (row_branch Struct 0 0 0) h less in
    omega (arith, row_fits m depth _ f (is_row f.form c.in_default.not-Structs) b, short_segment m f.segment message b.exists, few_taken f.form f b.counted)

pub returns-in-Structs : goal.returns-in-Structs
returns-in-Structs c =
    let less : c.args.steps - 1 < length c.args.branches.now = omega (arith, c.requires.few, c.if-steps-eq0.false) in
    let f = get_or c.args.branches.now (c.args.steps - 1) (row_branch Struct 0 0 0) in
    let more : c.args.steps - 1 + 1 ≡ c.args.steps = omega (arith, c.if-steps-eq0.false) in
    let at = rw more at (last_step (word 0 0) c.args.branches.now (c.args.steps - 1) (row_branch Struct 0 0 0) less) in (
      (λ yes. absurd (cc yes)),
      (λ e. absurd (element_no_word f.form f (f.taken - 1) _ _ c.in-Structs.is (sym at ∙ e))),
    )

pub returns-in_default : goal.returns-in_default
returns-in_default c =
    let less : c.args.steps - 1 < length c.args.branches.now = omega (arith, c.requires.few, c.if-steps-eq0.false) in
    let f = get_or c.args.branches.now (c.args.steps - 1) (row_branch Struct 0 0 0) in
    let more : c.args.steps - 1 + 1 ≡ c.args.steps = omega (arith, c.if-steps-eq0.false) in
    let at = (rw more at (last_step (word 0 0) c.args.branches.now (c.args.steps - 1) (row_branch Struct 0 0 0) less))
    ∙ row_spot f.form f (is_row f.form c.in_default.not-Structs) in
    let same = rw c.place.ensures at c.is_same-in_default.ensures in (
      (λ yes. at ∙ same.0 yes),
      (λ e. same.1 (sym at ∙ e)),
    )
