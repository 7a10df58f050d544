use Rattle.std.proofs.Common.{rules}
use Rattle.cap_frame.proofs.fault.frame_fault.Goals as goal

pub returns-in-Device : goal.returns-in-Device
returns-in-Device c = search rules
