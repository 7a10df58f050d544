use Rattle.std.proofs.Common.{rules}
use Rattle.cap_cmd.proofs.running.fault_status.Goals as goal

pub returns-in-Memory : goal.returns-in-Memory
returns-in-Memory c = rw c.in-Memory.is

pub returns-in-Canon-HasCapability : goal.returns-in-Canon-HasCapability
returns-in-Canon-HasCapability c = search rules
