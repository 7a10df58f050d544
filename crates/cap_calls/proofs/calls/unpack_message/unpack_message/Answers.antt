-- Nothing else is reported of the bytes, the state and the buffer.
use Rattle.cap_calls.proofs.UnpackedMessages.{one_unpack_reported}
use Rattle.cap_spec.proofs.ProofNames.{rules}
use Rattle.std.proofs.Common.{List, arith, length, ℕ, ◌≤◌}
use Rattle.cap_calls.specs.CallNames.{frame_bound, IsOpen, StopsCall, ReportsUnpackMessage, bad, too_many, truncated}
use Rattle.cap_calls.specs.CallNames.{unpacks, Answer, CallLimits, CallReport, Unpacking}
use Rattle.cap_calls.specs.UnpackingMessages.{no_message, too_large, too_small, whole}
use Rattle.cap_calls.proofs.Bounds.{frame_short}
use Rattle.cap_calls.proofs.calls.unpack_message.unpack_message.Goals as goal

-- A message that is unpacked has no more bytes than a frame within the limit.
-- how many bytes an open message has
open_bounded : (limit : ℕ) (held : List ℕ) (needed : ℕ) → IsOpen limit held needed → needed ≤ frame_bound limit
open_bounded limit held needed x4 = search rules

stop_bounded : (limit size : ℕ) (held : List ℕ) (z literal : ℕ) (rest : List ℕ) (a : Answer) (required written : ℕ)
    (r : CallReport) → StopsCall limit size held z literal rest a required written r → required ≤ frame_bound limit
stop_bounded limit size held z literal rest a required written r (whole m front e n w i) = search (rules, frame_short)
stop_bounded limit size held z literal rest a required written r (too_many count t e n w i) = omega (arith, n)
stop_bounded limit size held z literal rest a required written r (too_large words t e n w i) = omega (arith, n)
stop_bounded limit size held z literal rest a required written r (too_small still next less e w i) = search (rules, open_bounded)
stop_bounded limit size held z literal rest a required written r (no_message none y l e q n w i) = omega (arith, n)
stop_bounded limit size held z literal rest a required written r (truncated needed still none some e n w i) = search rules

unpack_bounded : {l : CallLimits} {bs old : List ℕ} {state : Unpacking} {a : Answer} {consumed required : ℕ}
    {new : List ℕ} {left : Unpacking} {r : CallReport}
    → ReportsUnpackMessage l bs old state a consumed required new left r → required ≤ frame_bound l.message_words
unpack_bounded (bad limits e c n o s i) = omega (arith, n)
unpack_bounded {l = l} {old = old} {a = a} {required = required} {r = r} (unpacks words z literal written limits is appends stops s) =
    stop_bounded l.message_words (length old) _ z literal _ a required written r stops

pub returns-clause-only : goal.returns-clause-only
returns-clause-only c = λ u h.
    let one = one_unpack_reported c.args.limits.now c.args.bytes.now c.args.out.now c.args.state.now _ u.answer
    _ u.consumed _ u.required _ u.out _ u.state _ u.report c.unpacked-stop.ensures h in
    (one.0, (one.1, one.2, one.3, one.4, one.5))

pub returns-clause-bound : goal.returns-clause-bound
returns-clause-bound c = unpack_bounded c.unpacked-stop.ensures
