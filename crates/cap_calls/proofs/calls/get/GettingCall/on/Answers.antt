-- The view is of the message.
use Rattle.std.proofs.Common.{ap, ◌∙◌}
use Rattle.cap_frame.specs.Bytes.{cut}
use Rattle.cap_calls.specs.CallNames.{ByteView, kind_node, offset_of, a_node, no_meeting, no_node}
use Rattle.cap_calls.proofs.calls.get.GettingCall.on.Goals as goal

pub returns-in-Ok-Some : goal.returns-in-Ok-Some
returns-in-Ok-Some c = λ path left.
    let at = c.in-Ok-Some.at in
    let place = at.found.place in
    let message = rw c.in-Ok-Some.field-0-is at c.in-Ok-Some.ensures.message in
    let some = rw c.in-Ok-Some.field-0-is at (c.in-Ok-Some.ensures.some path left) in (
      c.of.result,
      a_node at.found.kind place.segment place.start place.words (c.in-Ok-Some.ensures.meets path left) some
          c.path_answer.ensures
          (c.of.ensures ∙ ap (λ (u : ByteView). kind_node at.found.kind (offset_of (cut u.sizes.now u.bytes.now) place.segment place.start)) message),
      c.put_first.ensures,
    )

pub returns-in-Ok-None : goal.returns-in-Ok-None
returns-in-Ok-None c = λ path left.
    let none = rw c.in-Ok-None.field-0-is at (c.in-Ok-None.ensures.none path left) in (
      c.none.result,
      no_node (c.in-Ok-None.ensures.meets path left) none c.path_answer-in-Ok-None.ensures c.none.ensures,
      c.put_first-in-Ok-None.ensures,
    )

pub returns-in-Err : goal.returns-in-Err
returns-in-Err c = λ path left. (
  c.none-in-Err.result,
  no_meeting c.in-Err.refusal (c.in-Err.ensures.err path left) c.refused.ensures c.none-in-Err.ensures,
  c.put_first-in-Err.ensures,
)
