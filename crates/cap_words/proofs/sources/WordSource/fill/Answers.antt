use Rattle.std.proofs.lemmas.Slice.{overwrites}
use Rattle.cap_spec.proofs.ProofNames.{ap, arith, length, rules, ◌/◌, ◌∙◌, ◌≡◌, word_bytes}
use Rattle.cap_words.proofs.Filling.{ends_both, filled_all, filled_more, filled_still, filled_words, next_gives}
use Rattle.cap_words.proofs.Filling.{reads_both, reads_one, ready_works, word_filled, word_within}
use Rattle.cap_words.proofs.Turns.{filled, filled_within}
use Rattle.cap_words.proofs.sources.WordSource.fill.Goals as goal

pub loop-done-preserved-then-count-gt0 : goal.loop-done-preserved-then-count-gt0
loop-done-preserved-then-count-gt0 g c =
    let s = g.Self.WordSource in
    let far = c.loop-done.invariant.filled in
    let e = c.ready-count.ensures in
    record {
      filled =
          filled_more s _ _ _ c.loop-done.done c.ready-count.result c.loop-done.out _ c.ready-count.new.out far
          record {
            some = c.if-count-gt0.true;
            within = e.fits;
            text = e.words.0;
            takes = e.words.1;
            reads = e.reads;
            works = ready_works c.ready-count.result c.if-count-gt0.true e.usable e.broken e.failures;
            not_ended = e.stays;
            not_failed = e.for_good;
          }
          (filled _ _ _ far.within e.fits) (filled_within _ _ _ far.within e.fits);
      rest = search (rules, overwrites);
    }

pub loop-done-preserved : goal.loop-done-preserved
loop-done-preserved g c =
    let s = g.Self.WordSource in
    let far = c.loop-done.invariant.filled in
    let e = rw c.in-Ok-Some.field-0-is at c.in-Ok-Some.ensures in
    let still = filled_still s _ (c.ready-count.ensures.none (omega arith)) far in
    let given = c.copy_from_slice.new.self in
    let bytes : given ≡ word_bytes c.in-Ok-Some.word = c.copy_from_slice.ensures.after ∙ c.bytes_of.ensures.value in
    let long : length given ≡ 8 = ap length bytes in
    record {
      filled =
          filled_more s _ _ _ c.loop-done.done 8 c.loop-done.out _ given still
          (next_gives s _ _ given c.in-Ok-Some.word bytes (search rules) e.words e.word (reads_one c.next.ensures.reads) e.ok
          (λ is. let h = (e.stays is).0 in cc) (λ is. let h = (e.for_good is).0 in cc))
          (word_filled _ _ c.loop-done.out _ given far.within (omega arith))
          (word_within _ _ c.loop-done.out _ given far.within (omega arith));
      rest = search (rules, overwrites);
    }

pub returns-in-Ok-None-clause-reads : goal.returns-in-Ok-None-clause-reads
returns-in-Ok-None-clause-reads g c = search (rules, reads_both, reads_one)

pub returns-in-Err-clause-reads : goal.returns-in-Err-clause-reads
returns-in-Err-clause-reads g c = search (rules, reads_both, reads_one)

pub returns-in-Ok-None-clause-ended : goal.returns-in-Ok-None-clause-ended
returns-in-Ok-None-clause-ended g c = search (rules, filled_still, filled_words, ends_both)

pub returns-in-Err-clause-truncated : goal.returns-in-Err-clause-truncated
returns-in-Err-clause-truncated g c = search (
  rules,
  filled_still g.Self.WordSource _ (c.ready-count.ensures.none (omega arith)) c.loop-done.invariant.filled,
  filled_words g.Self.WordSource _ c.loop-done.invariant.filled,
  ends_both,
)

pub returns-clause-full : goal.returns-clause-full
returns-clause-full g c = λ is.
    let far = c.loop-done.invariant.filled in
    filled_all g.Self.WordSource _ _ c.loop-done.done c.loop-done.out (length c.args.out.now / 8) far (omega arith) (omega arith)

pub returns-in-Ok-None-clause-rest : goal.returns-in-Ok-None-clause-rest
returns-in-Ok-None-clause-rest g c = search (rules, overwrites)

pub returns-in-Err-clause-rest : goal.returns-in-Err-clause-rest
returns-in-Err-clause-rest g c = search (rules, overwrites)
