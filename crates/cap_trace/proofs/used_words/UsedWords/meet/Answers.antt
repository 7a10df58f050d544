use Rattle.std.proofs.Common.{inl, inr, sym, ◌∙◌}
use Rattle.cap_trace.specs.EarlierPointers.{places_in}
use Rattle.cap_trace.proofs.Common.{common_earlier, earlier_common}
use Rattle.cap_trace.proofs.used_words.UsedWords.meet.Goals as goal

pub returns-then-meet_range : goal.returns-then-meet_range
returns-then-meet_range c = (
  (λ yes. earlier_common (places_in c.args.self.now.pads) (places_in c.args.self.now.object) _ (inl (c.meet_range.ensures.0 yes))),
  (λ h. c.if-meet_range.true),
)

pub returns-else-meet_range : goal.returns-else-meet_range
returns-else-meet_range c = (
  (λ yes.
      earlier_common (places_in c.args.self.now.pads) (places_in c.args.self.now.object) _
      (inr (c.meet_range-else-meet_range.ensures.0 yes))),
  (λ h. elim (common_earlier (places_in c.args.self.now.pads) (places_in c.args.self.now.object) _ h) [
    | inl k ↦ absurd (cc (sym c.if-meet_range.false ∙ c.meet_range.ensures.1 k))
    | inr k ↦ c.meet_range-else-meet_range.ensures.1 k
  ]),
)
