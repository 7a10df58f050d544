use Rattle.cap_spec.proofs.ProofNames.{arith, length, layout}
use Rattle.cap_canon.proofs.Afters.{kept_so}
use Rattle.cap_canon.proofs.copying.CopyingPass.visit.Goals as goal

pub lay-requires-clause-is : goal.lay-requires-clause-is
lay-requires-clause-is g c =
    let r = c.requires in
    (r.3.meets.d, c.args.place.segment, c.args.place.word, r.1, r.3.meets.is, omega (arith, r.3.inside, r.4.space))

pub returns-clause-goes_on : goal.returns-clause-goes_on
returns-clause-goes_on g c = λ whole tree due turn k.
    (let laid = c.lay.ensures in record {
      ends = laid.ends turn.meets.d c.args.place.segment c.args.place.word tree turn.meets.is;
      agrees = laid.agrees turn.meets.d c.args.place.segment c.args.place.word tree (layout whole) due turn.meets.is turn.pointed turn.own k.agrees;
      space = omega (arith, k.space, laid.capacity);
    })

pub returns-clause-kept : goal.returns-clause-kept
returns-clause-kept g c = λ whole tree due turn k.
    (let long = c.lay.ensures.ends turn.meets.d c.args.place.segment c.args.place.word tree turn.meets.is in
    let after = c.lay.ensures.after (length (layout whole)) (omega (arith, long, turn.inside)) in
    kept_so c.args.self.now.output.ghost_name c.lay.ensures.capacity c.lay.ensures.borrow after)
