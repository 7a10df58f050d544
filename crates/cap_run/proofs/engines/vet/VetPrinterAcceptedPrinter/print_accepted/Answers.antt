use Rattle.std.proofs.Common.{rules}
use Rattle.cap_run.proofs.Printing.{writes_text}
use Rattle.cap_run.proofs.engines.vet.VetPrinterAcceptedPrinter.print_accepted.Goals as goal

pub returns : goal.returns
returns g c = search (rules, writes_text)
