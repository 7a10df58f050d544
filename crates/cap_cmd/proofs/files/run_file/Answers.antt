use Rattle.std.proofs.Common.{Bool, subst}
use Rattle.cap_cmd.specs.Jobs.{WritesAll, input_is_cut, input_words}
use Rattle.cap_cmd.specs.Marked.{shown_by}
use Rattle.cap_cmd.proofs.PuttingMarks.{puts_marks}
use Rattle.cap_cmd.proofs.files.run_file.Goals as goal

pub returns-clause-plain : goal.returns-clause-plain
returns-clause-plain g c = λ is.
    let new = c.new-out.ensures in
    let begin = c.new-err.ensures in
    let job = c.args.job.now in
    record {
      begun = c.new-out.result;
      ended = c.run_job_with-done.result.1;
      first = c.new-err.result;
      last = c.run_job_with-done.new.err;
      done = c.run_job_with-done.result.0;
      does = c.run_job_with-done.ensures.plain is;
      out = puts_marks g.O.ByteOut _ new.shows_written new.shows_failures new.shows_broken _ _ _ _ _ _ new.out c.into_inner.ensures new.fresh;
      err = puts_marks g.E.ByteOut _ begin.shows_written begin.shows_failures begin.shows_broken _ _ _ _ _ _ begin.out c.into_inner-2.ensures begin.fresh;
      status_is = c.file_status-status.ensures.is_done;
      whole = λ other. c.is_whole.ensures.whole (c.file_status-status.ensures.whole other);
      same = λ none. c.file_status-status.ensures.kept (c.is_whole.ensures.only none);
      success = λ e. subst (λ (b : Bool). WritesAll job.task job.packed job.settings (input_words b (g.I.ByteIn.to_come c.args.input))
          (input_is_cut b (g.I.ByteIn.to_come c.args.input)) (shown_by g.O.ByteOut c.new-out.result) (shown_by g.O.ByteOut c.run_job_with-done.result.1)) is (c.run_job_with-done.ensures.success (c.file_status-status.ensures.success e));
    }

pub returns-clause-packed : goal.returns-clause-packed
returns-clause-packed g c = λ is.
    let new = c.new-out.ensures in
    let begin = c.new-err.ensures in
    let job = c.args.job.now in
    record {
      begun = c.new-out.result;
      ended = c.run_job_with-done.result.1;
      first = c.new-err.result;
      last = c.run_job_with-done.new.err;
      done = c.run_job_with-done.result.0;
      does = c.run_job_with-done.ensures.packed is;
      out = puts_marks g.O.ByteOut _ new.shows_written new.shows_failures new.shows_broken _ _ _ _ _ _ new.out c.into_inner.ensures new.fresh;
      err = puts_marks g.E.ByteOut _ begin.shows_written begin.shows_failures begin.shows_broken _ _ _ _ _ _ begin.out c.into_inner-2.ensures begin.fresh;
      status_is = c.file_status-status.ensures.is_done;
      whole = λ other. c.is_whole.ensures.whole (c.file_status-status.ensures.whole other);
      same = λ none. c.file_status-status.ensures.kept (c.is_whole.ensures.only none);
      success = λ e. subst (λ (b : Bool). WritesAll job.task job.packed job.settings (input_words b (g.I.ByteIn.to_come c.args.input))
          (input_is_cut b (g.I.ByteIn.to_come c.args.input)) (shown_by g.O.ByteOut c.new-out.result) (shown_by g.O.ByteOut c.run_job_with-done.result.1)) is (c.run_job_with-done.ensures.success (c.file_status-status.ensures.success e));
    }
