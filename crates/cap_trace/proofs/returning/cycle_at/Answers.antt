use Rattle.std.proofs.Common.{arith, get_or, length, ◌+◌, ◌-◌, ◌<◌, ◌∙◌, ◌≡◌}
use Rattle.cap_spec.proofs.Lemmas.{short_segment}
use Rattle.cap_spec.proofs.ProofNames.{word}
use Rattle.cap_trace.specs.TraceNames.{Struct, row_branch}
use Rattle.cap_trace.proofs.Branches.{branch_at, is_row, row_fits, row_spot}
use Rattle.cap_trace.proofs.Returns.{cycle_here, few_taken, last_step, no_cycle_here, no_element_cycle}
use Rattle.cap_trace.proofs.returning.cycle_at.Goals as goal

pub place-here-requires : goal.place-here-requires
place-here-requires c =
    let (m, depth, message, h) = c.requires.message in
    let less : c.args.steps - 1 < length c.args.branches.now = omega (arith, c.requires.few.0, c.requires.some) in
    let f = get_or c.args.branches.now (c.args.steps - 1) (row_branch Struct 0 0 0) in
    let b = branch_at m depth 1 c.args.branches.now (c.args.steps - 1) (row_branch Struct 0 0 0) h less in
    omega (arith, row_fits m depth _ f (is_row f.form c.in_default.not-Structs) b, short_segment m f.segment message b.exists, few_taken f.form f b.counted)

pub returns-in-Structs : goal.returns-in-Structs
returns-in-Structs c = λ m h.
    let less : c.args.steps - 1 < length c.args.branches.now = omega (arith, c.requires.few.0, c.requires.some) in
    let f = get_or c.args.branches.now (c.args.steps - 1) (row_branch Struct 0 0 0) in
    let more : c.args.steps - 1 + 1 ≡ c.args.steps = omega (arith, c.requires.some) in
    let at = rw more at (last_step (word 0 0) c.args.branches.now (c.args.steps - 1) (row_branch Struct 0 0 0) less) in
    no_element_cycle m c.args.branches.now c.args.steps f h c.requires.few.0 c.in-Structs.is at

pub returns-in-Some : goal.returns-in-Some
returns-in-Some c = λ m h.
    let less : c.args.steps - 1 < length c.args.branches.now = omega (arith, c.requires.few.0, c.requires.some) in
    let f = get_or c.args.branches.now (c.args.steps - 1) (row_branch Struct 0 0 0) in
    let more : c.args.steps - 1 + 1 ≡ c.args.steps = omega (arith, c.requires.some) in
    let at = (rw more at (last_step (word 0 0) c.args.branches.now (c.args.steps - 1) (row_branch Struct 0 0 0) less))
    ∙ row_spot f.form f (is_row f.form c.in_default.not-Structs) in
    let there = rw c.place-here.ensures at c.last_before.ensures in
    rw c.place-here.ensures
    (cycle_here m c.args.branches.now c.args.steps _ _ c.in-Some.level h c.requires.few.0 at (rw c.in-Some.is at (there m h)))

pub returns-in-None : goal.returns-in-None
returns-in-None c = λ m h.
    let less : c.args.steps - 1 < length c.args.branches.now = omega (arith, c.requires.few.0, c.requires.some) in
    let f = get_or c.args.branches.now (c.args.steps - 1) (row_branch Struct 0 0 0) in
    let more : c.args.steps - 1 + 1 ≡ c.args.steps = omega (arith, c.requires.some) in
    let at = (rw more at (last_step (word 0 0) c.args.branches.now (c.args.steps - 1) (row_branch Struct 0 0 0) less))
    ∙ row_spot f.form f (is_row f.form c.in_default.not-Structs) in
    let there = rw c.place-here.ensures at c.last_before.ensures in
    no_cycle_here m c.args.branches.now c.args.steps _ _ h c.requires.few.0 at (rw c.in-None.is at (there m h))
