use Rattle.cap_spec.proofs.Frames.Messages.{HasWord-at}
use Rattle.cap_spec.proofs.ProofNames.{IfSome, Option, rules}
use Rattle.cap_ptr.proofs.Pads.{lies-one_pad}
use Rattle.cap_walk.proofs.PadForms.{object_form}
use Rattle.cap_walk.proofs.looking.look_described.Goals as goal

some_mapped : {A B C : Type 0} (o : Option A) → IfSome o (λ _. B) → (B → C) → IfSome o (λ _. C)
some_mapped o b f = search rules

pub described_within-requires-clause-pointer : goal.described_within-requires-clause-pointer
described_within-requires-clause-pointer g c = (
  c.args.s,
  c.args.w,
  λ q has object. lies-one_pad _ c.args.s c.args.w c.word-word.result c.far_segment-segment.result c.pad-at.result q
      c.word-word.ensures (search rules) c.far_segment-segment.ensures c.pad-at.ensures has,
)

pub returns-clause-looked : goal.returns-clause-looked
returns-clause-looked g c =
    c.described_within.ensures.looked c.args.s c.args.w (λ q has object. search (rules, has, lies-one_pad))

pub returns-clause-strict : goal.returns-clause-strict
returns-clause-strict g c = search (rules, some_mapped, HasWord-at, object_form)
