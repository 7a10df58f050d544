use Rattle.cap_spec.proofs.ProofNames.{◌≡◌}
use Rattle.cap_explain.specs.Leading.{word_of}
use Rattle.cap_explain.proofs.explaining.push_fault.Goals as goal

pub returns-in-Some-clause-items : goal.returns-in-Some-clause-items
returns-in-Some-clause-items g c =
    let m = g.M.Segments.segments c.args.message.now in
    let found : c.word_of.result ≡ word_of m c.args.segment c.args.word = rw (← c.from.ensures) c.word_of.ensures in
    rw (← found, c.in-Some.is, ← c.landing_of-landing.ensures, ← c.target_of-target.ensures.value) c.push_lines.ensures.items
