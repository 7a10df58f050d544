use Rattle.cap_frame.specs.Limit.{limit_of}
use Rattle.cap_run.specs.Filtering.{ReportsIn, AllocatesInForm}
use Rattle.cap_run.proofs.Sifting.{filter_settled}
use Rattle.cap_run.proofs.engines.filter.run_filter.Goals as goal

pub returns : goal.returns
returns g c =
    let e = c.sift_each.ensures in
    let s = c.args.settings.now in
    record {
      ok = e.ok;
      err = e.err;
      whole = λ own ms.
          filter_settled g.S.WordSource g.O.ByteOut g.E.ByteOut c.args.form (ReportsIn c.args.form c.args.demands s.limits)
          (AllocatesInForm c.args.form c.args.demands s.limits) (limit_of s.size) s.messages c.args.source.now c.sift_each.new.source c.args.out.now
          c.sift_each.new.out c.args.log.now c.sift_each.new.log c.sift_each.result own ms e.ok e.err;
    }
