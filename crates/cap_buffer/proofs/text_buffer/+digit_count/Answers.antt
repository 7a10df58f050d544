use Rattle.std.proofs.Common.{ap, arith, sym, ◌+◌, ◌/◌, ◌∙◌}
use Rattle.cap_buffer.proofs.Numbers.{length-decimal_digit, length-decimal_few, length-decimal_pair, length-decimal_two}
use Rattle.cap_buffer.proofs.text_buffer.+digit_count.Goals as goal

pub returns-then-n-lt10 : goal.returns-then-n-lt10
returns-then-n-lt10 t c = sym (length-decimal_digit c.args.n (omega arith))

pub returns-then-n-lt100 : goal.returns-then-n-lt100
returns-then-n-lt100 t c = sym (length-decimal_two c.args.n (omega arith) (omega arith) c.ranges.n.fits)

pub returns : goal.returns
returns t c = ap (λ k. 2 + k) c.digit_count.ensures ∙ sym (length-decimal_pair c.args.n (omega arith) c.ranges.n.fits)

pub overflow_add-result : goal.overflow_add-result
overflow_add-result t c = omega (arith, c.digit_count.ensures, length-decimal_few (c.args.n / 100) (omega arith))
