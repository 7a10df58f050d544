use Rattle.cap_spec.proofs.ProofNames.{rules}
use Rattle.std.proofs.Common.{get_or, refl, vec_capacity}
use Rattle.cap_frame.proofs.Contents.{segments_more, segments_start, segments_stop}
use Rattle.cap_frame.proofs.Taking.{reads_both}
use Rattle.cap_frame.proofs.table.read_contents.Goals as goal

pub segments-init : goal.segments-init
segments-init g c = search (rules, segments_start)

pub returns-in-Err-clause-err : goal.returns-in-Err-clause-err
returns-in-Err-clause-err g c = search (rules, segments_stop, vec_capacity)

pub returns-in-Err-clause-reads : goal.returns-in-Err-clause-reads
returns-in-Err-clause-reads g c = search (rules, reads_both)

pub segments-preserved : goal.segments-preserved
segments-preserved g c =
    segments_more g.S.WordSource (λ v. v.items) (λ v. vec_capacity v) c.args.source.now c.segments.source c.read_words.new.source c.segments.s
    c.segments.segments.items _ c.args.sizes.now c.read_words.new.words
    (get_or c.args.sizes.now c.segments.s 0) c.segments-test.true refl c.segments.invariant c.in-Ok.ensures.ok c.in-Ok.ensures.size
    c.read_words.ensures.reads c.in-Ok.ensures.works refl
