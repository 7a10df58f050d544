-- Nothing else is reported of the bytes.
use Rattle.std.proofs.Common.{refl}
use Rattle.cap_calls.proofs.Answers.{one_frame_reported}
use Rattle.cap_calls.proofs.Bounds.{frame_reported}
use Rattle.cap_calls.proofs.calls.frame.frame.Goals as goal

pub returns-clause-reports : goal.returns-clause-reports
returns-clause-reports c = (c.extent-found.result, c.extent-found.ensures, (refl, refl))

pub returns-clause-only : goal.returns-clause-only
returns-clause-only c = λ a r h. one_frame_reported c.args.limits.now c.args.bytes.now _ a _ r (returns-clause-reports c) h

pub returns-clause-input_required : goal.returns-clause-input_required
returns-clause-input_required c = (frame_reported c.args.limits.now c.args.bytes.now c.extent-found.result c.extent-found.ensures).0

pub returns-clause-whole : goal.returns-clause-whole
returns-clause-whole c = (frame_reported c.args.limits.now c.args.bytes.now c.extent-found.result c.extent-found.ensures).1
