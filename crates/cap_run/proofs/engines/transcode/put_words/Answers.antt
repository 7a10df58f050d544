use Rattle.std.proofs.Common.{arith, length-take-le, refl, ◌*◌, ◌+◌, rules}
use Rattle.cap_run.proofs.Handed.{copies_both, copies_start, gives_no_next, stops_midway}
use Rattle.cap_run.proofs.Transcoding.{copied_stopped, copies_more, copies_stops, gives_one}
use Rattle.cap_run.proofs.engines.transcode.put_words.Goals as goal

pub loop-put-init : goal.loop-put-init
loop-put-init g c = record { few = omega arith; fits = refl; copies = copies_start }

pub returns-in-Err : goal.returns-in-Err
returns-in-Err g c =
    let long = length-take-le (8 * c.min-most.result) c.loop-put.buffer (omega arith) in
    stops_midway c.loop-put.invariant.copies c.in-Err.ensures.err (omega (arith, long)) (omega (arith, long))

pub loop-put-preserved-then-count-gt0 : goal.loop-put-preserved-then-count-gt0
loop-put-preserved-then-count-gt0 g c = search (rules, length-take-le, copies_both)

pub returns-in-Err-put_word : goal.returns-in-Err-put_word
returns-in-Err-put_word g c =
    let now = copies_both c.loop-put.invariant.copies c.in-Ok.ensures.ok in
    let gives = gives_one g.S.WordSource c.put_ready.new.source c.next.new.self c.in-Ok-Some.word
    (rw c.in-Ok-Some.field-0-is at c.in-Ok-Some.ensures.words) (rw c.in-Ok-Some.field-0-is at c.in-Ok-Some.ensures.word) c.in-Ok-Some.ensures.ok in
    copied_stopped (omega arith) (copies_stops (omega arith) now gives c.in-Err-put_word.ensures.err)

pub returns-in-Ok-None : goal.returns-in-Ok-None
returns-in-Ok-None g c =
    let now = copies_both c.loop-put.invariant.copies c.in-Ok.ensures.ok in (
      c.put_ready.new.source,
      omega arith,
      now,
      record {
        none = c.in-Ok-None.ensures.none (cc);
        ended = c.in-Ok-None.ensures.ended
            (cc);
        works = c.in-Ok-None.ensures.ok;
      },
    )

pub returns-in-Err-next : goal.returns-in-Err-next
returns-in-Err-next g c =
    let now = copies_both c.loop-put.invariant.copies c.in-Ok.ensures.ok in (
      c.put_ready.new.source,
      c.loop-put.put + c.in-Ok.count,
      omega arith,
      now,
      gives_no_next g.S.WordSource c.put_ready.new.source c.next.new.self c.in-Err-next.fault c.in-Err-next.ensures.err
          (λ byte e. c.in-Err-next.ensures.truncated byte (cc)) (λ byte e. c.in-Err-next.ensures.at byte (cc))
          (λ e. c.in-Err-next.ensures.device (cc)) (λ e. c.in-Err-next.ensures.was_broken (cc)),
    )

pub loop-put-preserved : goal.loop-put-preserved
loop-put-preserved g c =
    let now = copies_both c.loop-put.invariant.copies c.in-Ok.ensures.ok in
    let gives = gives_one g.S.WordSource c.put_ready.new.source c.next.new.self c.in-Ok-Some.word
    (rw c.in-Ok-Some.field-0-is at c.in-Ok-Some.ensures.words) (rw c.in-Ok-Some.field-0-is at c.in-Ok-Some.ensures.word) c.in-Ok-Some.ensures.ok in
    record {
      few = omega arith;
      fits = omega arith;
      copies = copies_more now gives c.in_default.ensures.ok;
    }

pub returns-in-Ok-Some-next : goal.returns-in-Ok-Some-next
returns-in-Ok-Some-next g c = search (rules, gives_one)

pub returns-in-Err-next-2 : goal.returns-in-Err-next-2
returns-in-Err-next-2 g c = search (rules, gives_no_next)
