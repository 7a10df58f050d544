use Rattle.cap_spec.specs.Pointers.{IsCap}
use Rattle.cap_spec.proofs.ProofNames.{arith, refl, near, cap_index, rules}
use Rattle.cap_spec.proofs.Strict.Looking.{near_has_none}
use Rattle.cap_ptr.proofs.Pads.{lies-near}
use Rattle.cap_walk.proofs.looking.look_near.Goals as goal

pub returns-then-word-eq0-clause-looked : goal.returns-then-word-eq0-clause-looked
returns-then-word-eq0-clause-looked g c =
    let e = c.if-word-eq0.true in
    (near c.word-word.result c.word-word.ensures (omega (arith, e)) e refl, omega (arith, c.requires.consumed))

pub returns-in-Some-clause-looked : goal.returns-in-Some-clause-looked
returns-in-Some-clause-looked g c =
    c.in-Some.ensures.looked c.args.s c.args.w (λ q has object. search (rules, has, lies-near))

pub returns-then-is_cap-clause-looked : goal.returns-then-is_cap-clause-looked
returns-then-is_cap-clause-looked g c =
    let cap : IsCap c.word-word.result = c.is_cap.ensures.0 c.if-is_cap.true in
    ((cap_index c.word-word.result, near c.word-word.result c.word-word.ensures (omega (arith, cap.0)) (cap, refl) refl), omega (arith, c.requires.consumed))

pub returns-then-word-eq0-clause-strict : goal.returns-then-word-eq0-clause-strict
returns-then-word-eq0-clause-strict g c = search (rules, near_has_none)

pub returns-in-Some-clause-strict : goal.returns-in-Some-clause-strict
returns-in-Some-clause-strict g c = search (rules, near_has_none)

pub returns-then-is_cap-clause-strict : goal.returns-then-is_cap-clause-strict
returns-then-is_cap-clause-strict g c = search (rules, near_has_none)

pub described_within-requires-clause-pointer : goal.described_within-requires-clause-pointer
described_within-requires-clause-pointer g c = (c.args.s, c.args.w, λ q has object. lies-near _ c.args.s c.args.w q has (λ k. omega (arith, k, object)))
