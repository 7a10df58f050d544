use Rattle.std.proofs.Common.{inl, inr, sym, ◌∙◌}
use Rattle.cap_trace.specs.EarlierPointers.{places_in}
use Rattle.cap_trace.proofs.Common.{common_later, later_common}
use Rattle.cap_trace.proofs.used_words.UsedWords.meet_range.Goals as goal

pub returns-then-overlap : goal.returns-then-overlap
returns-then-overlap c = (
  (λ yes. later_common _ (places_in c.args.self.now.pads) (places_in c.args.self.now.object) (inl (c.overlap.ensures.0 yes))),
  (λ h. c.if-overlap.true),
)

pub returns-else-overlap : goal.returns-else-overlap
returns-else-overlap c = (
  (λ yes. later_common _ (places_in c.args.self.now.pads) (places_in c.args.self.now.object) (inr (c.overlap-else-overlap.ensures.0 yes))),
  (λ h. elim (common_later _ (places_in c.args.self.now.pads) (places_in c.args.self.now.object) h) [
    | inl k ↦ absurd (cc (sym c.if-overlap.false ∙ c.overlap.ensures.1 k))
    | inr k ↦ c.overlap-else-overlap.ensures.1 k
  ]),
)
