use Rattle.std.proofs.Common.{rules}
use Rattle.cap_words.proofs.sinks.SinkFaultFromOutFault.from.Goals as goal

pub returns-in-Device : goal.returns-in-Device
returns-in-Device c = search rules
