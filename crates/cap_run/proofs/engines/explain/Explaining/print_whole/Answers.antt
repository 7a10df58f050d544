use Rattle.cap_run.proofs.engines.explain.Explaining.print_whole.Goals as goal

pub returns-then-self : goal.returns-then-self
returns-then-self g c = λ w t h. rw c.if-self.true (c.print_difference.ensures w t h)

pub returns-else-self : goal.returns-else-self
returns-else-self g c = λ w t h. rw c.if-self.false (c.print_met.ensures w t h)
