use Rattle.cap_spec.proofs.ProofNames.{rules}
use Rattle.std.proofs.Common.{None, Some, [], arith, ◌∙◌, ◌∷◌}
use Rattle.cap_frame.proofs.Skips.{cut_no_root, cut_root, first_of_sum, skipped_all}
use Rattle.cap_frame.proofs.Taking.{reads_both, takes_both}
use Rattle.cap_frame.proofs.skipping.skip_contents.Goals as goal

pub returns-then-sizes-eq0-clause-ok : goal.returns-then-sizes-eq0-clause-ok
returns-then-sizes-eq0-clause-ok g c =
    let skipped = c.in_ok-skip_words.ensures.ok in
    skipped_all g.S.WordSource c.args.source.now c.skip_words.new.source c.args.sizes.now skipped.0 None skipped.1 (skipped.2 ∙ c.total-words.ensures)
    (cut_no_root c.args.sizes.now skipped.0 c.if-sizes-eq0.true)

pub returns-clause-ok : goal.returns-clause-ok
returns-clause-ok g c =
    let skipped = c.in_ok-skip_words-2.ensures.ok in
    let own = c.in_ok-root.root ∷ skipped.0 in
    let more = first_of_sum c.args.sizes.now in
    skipped_all g.S.WordSource c.args.source.now c.skip_words-2.new.source c.args.sizes.now own (Some c.in_ok-root.root)
    (takes_both g.S.WordSource c.args.source.now c.next_word.new.source c.skip_words-2.new.source
    (c.in_ok-root.root ∷ []) skipped.0 c.in_ok-root.ensures.ok skipped.1)
    (omega (arith, skipped.2, c.total-words.ensures, c.if-sizes-eq0.false))
    (cut_root c.args.sizes.now skipped.0 c.in_ok-root.root (omega (arith, c.if-sizes-eq0.false)))

pub returns-clause-reads : goal.returns-clause-reads
returns-clause-reads g c = search (rules, reads_both)

pub returns-in_err-skip_words-2-clause-reads : goal.returns-in_err-skip_words-2-clause-reads
returns-in_err-skip_words-2-clause-reads g c = search (rules, reads_both)
