use Rattle.cap_ptr.proofs.Answers.{answer-err, answer-ok, cap-answer, null-answer, object-answer, wrong-answer}
use Rattle.cap_ptr.proofs.following.follow.Goals as goal

pub returns : goal.returns
returns g c =
    let m = g.M.Segments.segments c.args.message.now in
    let answer = c.followed.ensures in
    record {
      ok = answer-ok m c.args.s c.args.w c.followed.result answer;
      err = answer-err m c.args.s c.args.w c.followed.result answer;
      wrong = wrong-answer m c.args.s c.args.w c.followed.result answer;
      null = null-answer m c.args.s c.args.w c.followed.result answer;
      cap = cap-answer m c.args.s c.args.w c.followed.result answer;
      object = object-answer m c.args.s c.args.w c.followed.result answer;
    }
