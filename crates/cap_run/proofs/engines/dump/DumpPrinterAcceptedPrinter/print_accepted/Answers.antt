use Rattle.cap_spec.proofs.ProofNames.{rules}
use Rattle.cap_run.proofs.Printing.{writes_text}
use Rattle.cap_run.proofs.engines.dump.DumpPrinterAcceptedPrinter.print_accepted.Goals as goal

pub returns : goal.returns
returns g c = search (rules, writes_text)
