-- A message that is whole is not continued.
use Rattle.cap_spec.proofs.ProofNames.{refl, take, false≢true}
use Rattle.cap_frame.specs.Limit.{limit_of}
use Rattle.cap_calls.proofs.MessageStages.{large_not_whole, many_not_whole, open_not_whole}
use Rattle.cap_calls.proofs.calls.unpack_message.is_state.Goals as goal

pub returns-in-Whole : goal.returns-in-Whole
returns-in-Whole c =
    let whole = c.in-Whole.ensures in
    (λ e. absurd (false≢true e), λ is. absurd (is.unfinished whole.0 whole.1 whole.2))

pub returns-in-Open : goal.returns-in-Open
returns-in-Open c =
    let rest = c.has_rest.ensures.0 c.if-not-has_rest.false in (
      λ _. record {
        left = rest.0;
        first = rest.1;
        second = rest.2;
        whole = c.if-state-ne0.false;
        inside = c.if-state-out.false;
        unfinished = λ m n f. open_not_whole (limit_of c.args.size) c.in-Open.needed n (take c.args.state.now.written c.args.out.now) m c.in-Open.ensures f;
      },
      λ _. refl,
    )

pub returns-in-TooMany : goal.returns-in-TooMany
returns-in-TooMany c =
    let rest = c.has_rest.ensures.0 c.if-not-has_rest.false in (
      λ _. record {
        left = rest.0;
        first = rest.1;
        second = rest.2;
        whole = c.if-state-ne0.false;
        inside = c.if-state-out.false;
        unfinished = λ m n f. many_not_whole (limit_of c.args.size) c.in-TooMany.count n
            (take c.args.state.now.written c.args.out.now) m c.in-TooMany.ensures f;
      },
      λ _. refl,
    )

pub returns-in-TooLarge : goal.returns-in-TooLarge
returns-in-TooLarge c =
    let rest = c.has_rest.ensures.0 c.if-not-has_rest.false in (
      λ _. record {
        left = rest.0;
        first = rest.1;
        second = rest.2;
        whole = c.if-state-ne0.false;
        inside = c.if-state-out.false;
        unfinished = λ m n f. large_not_whole (limit_of c.args.size) c.in-TooLarge.words n
            (take c.args.state.now.written c.args.out.now) m c.in-TooLarge.ensures f;
      },
      λ _. refl,
    )
