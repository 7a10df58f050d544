use Rattle.cap_text.proofs.fault_lines.push_frame_fault.Goals as goal

pub returns-in-Memory-clause-items : goal.returns-in-Memory-clause-items
returns-in-Memory-clause-items c = rw c.in-Memory.is c.push_text-in-Memory.ensures
