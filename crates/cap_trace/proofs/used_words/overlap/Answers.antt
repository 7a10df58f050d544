use Rattle.std.proofs.Common.{arith, lt-ltb}
use Rattle.std.proofs.lemmas.Bool.{ltb-true}
use Rattle.cap_trace.proofs.Common.{common_range, range_common}
use Rattle.cap_trace.proofs.used_words.overlap.Goals as goal

pub returns-then-a-b : goal.returns-then-a-b
returns-then-a-b c = ((λ yes. absurd (cc yes)), (λ h. absurd (c.if-a-b.true (range_common _ _ h).0)))

pub returns : goal.returns
returns c = (
  (λ yes.
      let less = ltb-true c.max-start.result c.min.result yes in
      common_range _ _ c.max-start.result c.if-a-b.false
      (omega (arith, c.max-start.ensures, c.from.ensures, c.from-2.ensures))
      (omega (arith, c.max-start.ensures, c.from.ensures, c.from-2.ensures))
      (omega (arith, less, c.min.ensures, c.from-3.ensures, c.from-4.ensures))
      (omega (arith, less, c.min.ensures, c.from-5.ensures, c.from-6.ensures))),
  (λ h.
      let (e, w, low, low', high, high') = range_common _ _ h in
      lt-ltb c.max-start.result c.min.result (omega (arith, low, low', high, high', c.max-start.ensures, c.from.ensures, c.from-2.ensures, c.min.ensures, c.from-3.ensures, c.from-4.ensures, c.from-5.ensures, c.from-6.ensures))),
)
