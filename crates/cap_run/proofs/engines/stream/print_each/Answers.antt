use Rattle.std.proofs.Common.{arith, refl, sym, ◌∙◌, rules}
use Rattle.cap_text.specs.declared.fault.Cause.TheVariants.{Output}
use Rattle.cap_run.proofs.Going.{going_more, going_noncanonical, going_none, going_refused, going_stops}
use Rattle.cap_run.specs.Reporting.{messages_of}
use Rattle.cap_run.proofs.Reporting.{length-messages_of}
use Rattle.cap_run.proofs.engines.stream.print_each.Goals as goal

pub loop-number-init : goal.loop-number-init
loop-number-init g c = (going_none, refl)

pub count-outcome-requires-clause-refused : goal.count-outcome-requires-clause-refused
count-outcome-requires-clause-refused g c = search (rules, going_refused)

pub count-outcome-requires-clause-noncanonical : goal.count-outcome-requires-clause-noncanonical
count-outcome-requires-clause-noncanonical g c = search (rules, going_noncanonical)

pub print_next-requires : goal.print_next-requires
print_next-requires g c = omega (arith, c.loop-number.invariant.0.few)

pub returns-in-Err-clause-err : goal.returns-in-Err-clause-err
returns-in-Err-clause-err g c =
    let w = c.loop-number.invariant.0 in (
      w.ts,
      c.loop-number.source,
      sym w.many,
      omega (arith, w.many),
      w.reads,
      w.each,
      going_stops _ _ _ _ (g.E.Engine.allocates c.args.engine.now) _ _ _ c.print_next.new.source _ _ c.print_next.new.out
          _ _ _ c.args.settings.now.messages c.in-Err.cause w (omega arith) c.in-Err.ensures.err,
    )

pub returns-in-Err-flush_output-clause-err : goal.returns-in-Err-flush_output-clause-err
returns-in-Err-flush_output-clause-err g c =
    let w = c.loop-number.invariant.0 in
    let r = rw c.in-Ok-Some.field-0-is at c.in-Ok-Some.ensures.some in
    rw c.output_fault_at.ensures (
      w.ts,
      c.loop-number.source,
      sym w.many,
      omega (arith, w.many),
      w.reads,
      w.each,
      going_stops _ _ _ _ (g.E.Engine.allocates c.args.engine.now) _ _ _ c.print_next.new.source _ _ c.flush_output.new.out
          _ _ _ c.args.settings.now.messages (Output c.in-Err-flush_output.fault) w (omega arith)
          (r.0, r.2, r.3, c.in-Err-flush_output.ensures c.loop-number.out r.0.text r.4),
    )

pub loop-number-preserved : goal.loop-number-preserved
loop-number-preserved g c =
    let r = rw c.in-Ok-Some.field-0-is at c.in-Ok-Some.ensures.some in (
      going_more r.0 c.in-Ok-Some.counted r.1 c.loop-number.invariant.0 r.2 r.3
          (c.in-Ok.ensures c.loop-number.out r.0.text r.4) r.5 r.6 c.count-outcome.ensures,
      c.print_next.ensures.packed ∙ c.loop-number.invariant.1,
    )

pub returns-in-Err-clause-broken : goal.returns-in-Err-clause-broken
returns-in-Err-clause-broken g c = λ notes.
    let w = c.loop-number.invariant.0 in (
      messages_of w.ts,
      c.loop-number.source,
      length-messages_of w.ts ∙ w.many,
      w.reads,
      rw c.loop-number.invariant.1 at c.in-Err.ensures.at notes,
    )

pub returns-in-Err-flush_output-clause-broken : goal.returns-in-Err-flush_output-clause-broken
returns-in-Err-flush_output-clause-broken g c = λ notes.
    let w = c.loop-number.invariant.0 in
    rw c.output_fault_at.ensures (messages_of w.ts, c.loop-number.source, length-messages_of w.ts ∙ w.many, w.reads, tt)

pub returns-clause-broken : goal.returns-clause-broken
returns-clause-broken g c = search (rules, length-messages_of)
