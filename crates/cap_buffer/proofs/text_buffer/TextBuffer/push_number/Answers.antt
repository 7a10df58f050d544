use Rattle.cap_spec.proofs.ProofNames.{length-decimal-le, rules}
use Rattle.std.proofs.Common.{arith, length-append, length-take-le}
use Rattle.cap_buffer.proofs.Numbers.{length-decimal_few, text_after}
use Rattle.cap_buffer.proofs.text_buffer.TextBuffer.push_number.Goals as goal

pub overflow_add-end : goal.overflow_add-end
overflow_add-end g c = omega (arith, c.digit_count.ensures, length-decimal_few c.args.n c.ranges.n.fits, c.self.invariant)

pub write_digits-requires : goal.write_digits-requires
write_digits-requires g c = search (rules, length-take-le, length-decimal_few)

pub returns-clause-items : goal.returns-clause-items
returns-clause-items g c = search (rules, text_after)

pub returns-clause-few : goal.returns-clause-few
returns-clause-few g c = search (rules, text_after, length-append, length-decimal_few)

pub returns-clause-fewer : goal.returns-clause-fewer
returns-clause-fewer g c = λ small.
    search (rules, text_after, length-append, length-decimal-le 10 c.args.n (omega arith) (omega (arith, small)) (omega (arith, small)))
