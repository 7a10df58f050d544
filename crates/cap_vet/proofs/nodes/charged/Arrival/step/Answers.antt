use Rattle.cap_spec.proofs.ProofNames.{arith, refl, rules, IsMessage, element, word}
use Rattle.cap_vet.proofs.Charging.{arrives_element, arrives_word, fault_word}
use Rattle.cap_walk.proofs.Looks.{followed_costs, followed_shallow}
use Rattle.cap_vet.proofs.AtSomePlace.{arrival_at_some_place, arrival_within, step_exists, step_inside}
use Rattle.cap_vet.proofs.nodes.charged.Arrival.step.Goals as goal

pub returns-in-Ok-clause-some : goal.returns-in-Ok-clause-some
returns-in-Ok-clause-some g c = λ path a h.
    let m = g.M.Segments.segments c.args.message.now in
    let message : IsMessage m = search rules in
    let goes = (rw c.in-Some-Word.field-0-is at c.in-Some-Word.ensures) m a h.found in
    let r = c.in-Ok.ensures.ok in (
      word c.in-Some-Word.segment c.in-Some-Word.word,
      arrives_word m path a c.args.self.now c.args.step c.first_lax.result h goes.0
          (c.found_of.ensures m _ _ message r.followed)
          (rw c.charge.ensures (followed_costs m _ _ c.in-Ok.followed r.followed)) (omega (arith, c.charge.ensures, r.within))
          (followed_shallow m _ c.in-Ok.followed r.followed r.shallow) c.first_lax.ensures,
    )

pub returns-in-Err-clause-err : goal.returns-in-Err-clause-err
returns-in-Err-clause-err g c = λ path a h.
    let goes = (rw c.in-Some-Word.field-0-is at c.in-Some-Word.ensures) _ a h.found in
    fault_word _ _ _ path a c.args.self.now c.args.step _ _ _ h goes.0
    (c.in-Err.ensures.err c.args.words c.args.self.now.consumed refl h.within)

pub returns-in-Some-Element-clause-some : goal.returns-in-Some-Element-clause-some
returns-in-Some-Element-clause-some g c = λ path a h.
    let m = g.M.Segments.segments c.args.message.now in
    let e = c.in-Some-Element in
    let goes = (rw e.field-0-is at e.ensures) m a h.found in (
      element e.segment e.start e.data_words e.pointers,
      rw c.at_element.ensures (search (rules, arrives_element)),
    )

pub step-requires : goal.step-requires
step-requires g c = search (rules, arrival_at_some_place)

pub follow_within-requires : goal.follow_within-requires
follow_within-requires g c =
    let goes = rw c.in-Some-Word.field-0-is at c.in-Some-Word.ensures in
    let exists = step_exists _ _ _ c.args.self.now c.requires.arrived c.args.step _ _ goes in
    let inside = step_inside _ _ _ c.args.self.now c.requires.arrived c.args.step _ _ goes in
    search rules

pub first_lax-requires : goal.first_lax-requires
first_lax-requires g c =
    let goes = rw c.in-Some-Word.field-0-is at c.in-Some-Word.ensures in
    let exists = step_exists _ _ _ c.args.self.now c.requires.arrived c.args.step _ _ goes in
    let inside = step_inside _ _ _ c.args.self.now c.requires.arrived c.args.step _ _ goes in
    search (rules, followed_costs)

pub overflow_sub-left : goal.overflow_sub-left
overflow_sub-left g c = let l = arrival_within _ _ _ c.args.self.now c.requires.arrived in omega (arith, l)
