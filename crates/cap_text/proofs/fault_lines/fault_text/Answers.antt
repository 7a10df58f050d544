use Rattle.cap_text.proofs.fault_lines.fault_text.Goals as goal

pub returns-clause-line : goal.returns-clause-line
returns-clause-line c = rw (c.push_text-2.ensures, c.push_cause.ensures.items, c.push_text.ensures, c.new-page.ensures)
