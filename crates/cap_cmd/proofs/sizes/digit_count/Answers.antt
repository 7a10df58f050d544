use Rattle.std.proofs.Common.{arith, sym, ◌∙◌}
use Rattle.cap_cmd.proofs.Digits.{digits_end}
use Rattle.cap_cmd.proofs.sizes.digit_count.Goals as goal

pub returns-then-not-is_ascii_digit-clause-digits : goal.returns-then-not-is_ascii_digit-clause-digits
returns-then-not-is_ascii_digit-clause-digits c = (digits_end c.loop-count.count c.args.text.now c.loop-count.invariant.within c.loop-count.invariant.digits
    (λ _. sym c.is_ascii_digit.ensures.value ∙ c.if-not-is_ascii_digit.true)).0

pub returns-then-not-is_ascii_digit-clause-rest : goal.returns-then-not-is_ascii_digit-clause-rest
returns-then-not-is_ascii_digit-clause-rest c = (digits_end c.loop-count.count c.args.text.now c.loop-count.invariant.within c.loop-count.invariant.digits
    (λ _. sym c.is_ascii_digit.ensures.value ∙ c.if-not-is_ascii_digit.true)).1

pub returns-clause-digits : goal.returns-clause-digits
returns-clause-digits c = (digits_end c.loop-count.count c.args.text.now c.loop-count.invariant.within c.loop-count.invariant.digits
    (λ inside. absurd (omega (arith, inside, c.loop-count-test.false)))).0

pub returns-clause-rest : goal.returns-clause-rest
returns-clause-rest c = (digits_end c.loop-count.count c.args.text.now c.loop-count.invariant.within c.loop-count.invariant.digits
    (λ inside. absurd (omega (arith, inside, c.loop-count-test.false)))).1
