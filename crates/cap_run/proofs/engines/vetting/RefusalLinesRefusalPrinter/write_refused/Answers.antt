use Rattle.cap_spec.proofs.ProofNames.{refl}
use Rattle.cap_run.proofs.engines.vetting.RefusalLinesRefusalPrinter.write_refused.Goals as goal

pub returns : goal.returns
returns g c = λ demands words h.
    (_, record { fault = c.args.refusal.now; is_fault = h; line = refl; counts = refl }, c.write_refused.ensures)
