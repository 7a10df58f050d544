use Rattle.std.proofs.Common.{false, sym, true, ◌∙◌}
use Rattle.cap_words.specs.Inner.{input_of}
use Rattle.cap_pack.specs.Input.{unpacker_input}
use Rattle.cap_cmd.proofs.JobEnds.{job_writes_all}
use Rattle.cap_cmd.proofs.running.run_job_with.Goals as goal

pub returns-then-input_is_packed-clause-packed : goal.returns-then-input_is_packed-clause-packed
returns-then-input_is_packed-clause-packed g c = λ _.
    let new = c.new.ensures in
    record {
      first = c.new.result;
      begins = record {
        words = new.words;
        is_cut = new.is_cut;
        places = new.places;
        place = new.place;
        broken = new.broken;
        failures = new.failures;
        reads_from = unpacker_input;
        shows_failures = new.shows_failures;
      };
      does = c.run_over.ensures;
    }

pub returns-else-input_is_packed-clause-plain : goal.returns-else-input_is_packed-clause-plain
returns-else-input_is_packed-clause-plain g c = λ _.
    let new = c.new-else-input_is_packed.ensures in
    record {
      first = c.new-else-input_is_packed.result;
      begins = record {
        words = new.words;
        is_cut = new.is_cut;
        places = new.places;
        place = new.place;
        broken = new.broken;
        failures = new.failures;
        reads_from = input_of;
        shows_failures = new.shows_failures;
      };
      does = c.run_over-else-input_is_packed.ensures;
    }

pub returns-then-input_is_packed-clause-success : goal.returns-then-input_is_packed-clause-success
returns-then-input_is_packed-clause-success g c = λ e.
    job_writes_all {go = g.O.ByteOut} {ge = g.E.ByteOut} {gi = g.I.ByteIn} {packed = true}
    (sym c.input_is_packed.ensures ∙ c.if-input_is_packed.true) e
    (returns-then-input_is_packed-clause-packed g c (sym c.input_is_packed.ensures ∙ c.if-input_is_packed.true))

pub returns-else-input_is_packed-clause-success : goal.returns-else-input_is_packed-clause-success
returns-else-input_is_packed-clause-success g c = λ e.
    job_writes_all {go = g.O.ByteOut} {ge = g.E.ByteOut} {gi = g.I.ByteIn} {packed = false}
    (sym c.input_is_packed.ensures ∙ c.if-input_is_packed.false) e
    (returns-else-input_is_packed-clause-plain g c (sym c.input_is_packed.ensures ∙ c.if-input_is_packed.false))
