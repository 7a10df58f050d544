use Rattle.std.proofs.Common.{Err, List, refl, subst, ℕ, rules}
use Rattle.cap_frame.specs.HeldBytes.{held_segments}
use Rattle.cap_frame.specs.Limit.{limit_of}
use Rattle.cap_run.specs.Reporting.{place_if}
use Rattle.cap_run.specs.Running.{WritesOneOf}
use Rattle.cap_run.proofs.Breaking.{read_breaks}
use Rattle.cap_run.proofs.Going.{frame_small, place_small}
use Rattle.cap_run.proofs.Printing.{step_stops}
use Rattle.cap_run.proofs.Streams.{reads_named}
use Rattle.cap_run.proofs.engines.whole.WholeEngine.print_next.Goals as goal

pub returns-in-Ok-clause-some : goal.returns-in-Ok-clause-some
returns-in-Ok-clause-some g c =
    let r = c.in-Ok-true.ensures.read.message (cc) in
    let reported = rw c.place_of-place.ensures.place at (rw c.view-message.ensures at c.in-Ok.ensures) in
    let words = rw c.view-message.ensures at c.place_of-place.ensures.words in (
      record { message = _; text = reported.0; counted = c.in-Ok.counted },
      refl,
      reported.1,
      reads_named g.S.WordSource (limit_of c.args.limit) c.args.source.now c.read_next.new.source
          _ r c.in-Ok-true.ensures.read.next.works,
      reported.2,
      words,
      rw words (frame_small g.S.WordSource c.args.self.now.counts (limit_of c.args.limit) c.args.source.now c.read_next.new.source
          _ r c.args.limit.within),
    )

pub returns-in-Err-print_message-clause-err : goal.returns-in-Err-print_message-clause-err
returns-in-Err-print_message-clause-err g c =
    let r = c.in-Ok-true.ensures.read.message (cc) in
    let w = c.args.self.now in
    let reports = g.P.MessagePrinter.reports w.printer (place_if w.counts c.args.before) in
    let allocates = g.P.MessagePrinter.allocates w.printer in
    step_stops g.S.WordSource g.O.ByteOut reports allocates
    (limit_of c.args.limit) c.args.number _ c.args.source.now c.read_next.new.source
    c.args.out.now c.print_message.new.out c.in-Err-print_message.cause
    (reads_named g.S.WordSource (limit_of c.args.limit) c.args.source.now c.read_next.new.source
    _ r c.in-Ok-true.ensures.read.next.works)
    (subst (λ (p : ℕ). WritesOneOf g.O.ByteOut
    (g.P.MessagePrinter.reports w.printer p c.args.number (held_segments c.read_next.new.message))
    (allocates (held_segments c.read_next.new.message))
    c.args.out.now c.print_message.new.out (Err c.in-Err-print_message.cause)) c.place_of-place.ensures.place
    (subst (λ (m : List (List ℕ)). WritesOneOf g.O.ByteOut
    (g.P.MessagePrinter.reports w.printer c.place_of-place.result.0 c.args.number m) (allocates m)
    c.args.out.now c.print_message.new.out (Err c.in-Err-print_message.cause)) c.view-message.ensures c.in-Err-print_message.ensures))

pub returns-in-Ok-clause-none : goal.returns-in-Ok-clause-none
returns-in-Ok-clause-none g c = λ e. absurd (cc)

pub returns-in-Ok-false-clause-err : goal.returns-in-Ok-false-clause-err
returns-in-Ok-false-clause-err g c = tt

pub returns-in-Err-print_message-clause-at : goal.returns-in-Err-print_message-clause-at
returns-in-Err-print_message-clause-at g c = search (rules, read_breaks)

pub print_message-requires : goal.print_message-requires
print_message-requires g c = rw c.place_of-place.ensures.place (place_small c.args.self.now.counts c.args.before c.requires)
