use Rattle.cap_text.proofs.fault_lines.push_copy_fault.Goals as goal

pub returns-in-TooManyWords-clause-items : goal.returns-in-TooManyWords-clause-items
returns-in-TooManyWords-clause-items c = rw c.in-TooManyWords.is c.push_text.ensures

pub returns-in-Output-clause-items : goal.returns-in-Output-clause-items
returns-in-Output-clause-items c = rw c.in-Output.is c.push_text-in-Output.ensures
