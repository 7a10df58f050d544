use Rattle.std.proofs.Common.{rules}
use Rattle.cap_ptr.proofs.forms.Pointer.of.Goals as goal

pub returns-in-1-clause-value : goal.returns-in-1-clause-value
returns-in-1-clause-value c = search rules

pub returns-in-2-clause-value : goal.returns-in-2-clause-value
returns-in-2-clause-value c = search rules

pub returns-then-middle-eq0-clause-value : goal.returns-then-middle-eq0-clause-value
returns-then-middle-eq0-clause-value c = search rules

pub returns-then-middle-eq0-clause-form : goal.returns-then-middle-eq0-clause-form
returns-then-middle-eq0-clause-form c = search rules

pub returns-then-middle-eq0-clause-one_form : goal.returns-then-middle-eq0-clause-one_form
returns-then-middle-eq0-clause-one_form c = search rules

pub returns-then-middle-eq0-clause-inverse : goal.returns-then-middle-eq0-clause-inverse
returns-then-middle-eq0-clause-inverse c = search rules
