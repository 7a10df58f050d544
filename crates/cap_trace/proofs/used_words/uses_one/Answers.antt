use Rattle.std.proofs.Common.{List, subst, ℕ}
use Rattle.cap_spec.proofs.Lemmas.{one_used}
use Rattle.cap_trace.specs.EarlierPointers.{HaveCommon, used_places}
use Rattle.cap_trace.proofs.used_words.uses_one.Goals as goal

pub returns-in-Some : goal.returns-in-Some
returns-in-Some g c =
    let m = g.M.Segments.segments c.args.message.now in (
      (λ yes. (used_places c.in-Some.used, c.in-Some.ensures, c.meet.ensures.0 yes)),
      (λ (used, o, h). c.meet.ensures.1
          (subst (λ (u : List (ℕ × ℕ)). HaveCommon u (used_places c.args.words.now))
          (one_used m c.args.s c.args.w used (used_places c.in-Some.used) o c.in-Some.ensures) h)),
    )

pub returns-in-None : goal.returns-in-None
returns-in-None g c = ((λ yes. absurd (cc yes)), (λ (used, o, h). absurd (c.in-None.ensures used o)))
