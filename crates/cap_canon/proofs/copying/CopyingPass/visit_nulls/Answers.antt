use Rattle.cap_spec.proofs.ProofNames.{ap, arith, length, ◌∙◌, ◌+◌, ◌≤◌, layout}
use Rattle.cap_canon.proofs.Afters.{kept_so}
use Rattle.cap_canon.proofs.Agreeing.{agrees_zeros}
use Rattle.cap_canon.proofs.ZerosPut.{length-zeros_put}
use Rattle.cap_canon.proofs.copying.CopyingPass.visit_nulls.Goals as goal

pub set_zeros-requires : goal.set_zeros-requires
set_zeros-requires g c = omega (arith, c.requires.4.before, c.requires.5.ends)

pub returns-clause-goes_on : goal.returns-clause-goes_on
returns-clause-goes_on g c = λ m whole end due turns k.
    (let old = g.T.CopyOutput.words c.args.self.now.output.now in
    let inside : c.args.slot + c.args.count ≤ length old = omega (arith, turns.before, k.ends) in
    let same = c.set_zeros.ensures.words in record {
      ends = ap length same ∙ (length-zeros_put c.args.slot c.args.count old inside ∙ k.ends);
      agrees = rw same (agrees_zeros old (layout whole) c.args.slot c.args.count due inside turns.zeros k.agrees);
      space = omega (arith, k.space, c.set_zeros.ensures.capacity);
    })

pub returns-clause-kept : goal.returns-clause-kept
returns-clause-kept g c = λ m u end due turns k.
    (let old = g.T.CopyOutput.words c.args.self.now.output.now in
    let inside : c.args.slot + c.args.count ≤ length old = omega (arith, turns.before, k.ends) in
    let long = ap length c.set_zeros.ensures.words ∙ (length-zeros_put c.args.slot c.args.count old inside ∙ k.ends) in
    let after = c.set_zeros.ensures.after (length (layout u)) (omega (arith, long, turns.inside)) in
    kept_so c.args.self.now.output.ghost_name c.set_zeros.ensures.capacity c.set_zeros.ensures.borrow after)
