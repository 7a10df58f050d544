-- Limits that allow more than the default ones, so that the laws of higher limits speak of some.
use Rattle.cap_spec.proofs.ProofNames.{replicate, rules}
use Rattle.cap_calls.specs.CallFlags.{AllowsMore, default_limits}
use Rattle.cap_calls.specs.CallFrames.{AreLimits}
use Rattle.cap_calls.specs.CallInputs.{AreInputLimits}
use Rattle.cap_calls.specs.CallLaws.{NamesPointer, RefusesNothing}
use Rattle.cap_calls.specs.declared.answer.Answer.TheVariants.{DepthLimit, Good, ManySegments, NoRoot, WordLimit}
use Rattle.cap_calls.specs.declared.limits.CallLimits.{CallLimits}

-- the greatest limits, with both flags, for bytes that start with a message
abbrev greatest : CallLimits
greatest =
    record {
      message_words = 268435456;
      charge = 268435456;
      depth = 256;
      flags = 3;
      form = 1;
      padding = 0;
      reserved = replicate 6 0;
    }

are_limits : AreLimits greatest
are_limits = search rules

are_input_limits : AreInputLimits greatest
are_input_limits = search rules

allows_more : AllowsMore default_limits greatest
allows_more = search rules

-- a flag more can't be taken away
allows_no_less : ¬ AllowsMore greatest default_limits
allows_no_less h = search rules

-- answers that refuse, and answers that name a pointer
good_refuses_nothing : RefusesNothing Good
good_refuses_nothing = tt

limit_refuses : ¬ RefusesNothing WordLimit
limit_refuses h = h

limit_names_pointer : NamesPointer DepthLimit
limit_names_pointer = tt

no_pointer_named : ¬ NamesPointer NoRoot × ¬ NamesPointer ManySegments
no_pointer_named = ((λ h. h), (λ h. h))
