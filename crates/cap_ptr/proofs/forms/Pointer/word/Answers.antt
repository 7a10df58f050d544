use Rattle.std.proofs.Common.{rules}
use Rattle.cap_ptr.proofs.forms.Pointer.word.Goals as goal

pub returns-in-List-clause-value : goal.returns-in-List-clause-value
returns-in-List-clause-value c = search rules

pub returns-in-List-clause-form : goal.returns-in-List-clause-form
returns-in-List-clause-form c = search rules

pub returns-in-List-clause-inverse : goal.returns-in-List-clause-inverse
returns-in-List-clause-inverse c = search rules
