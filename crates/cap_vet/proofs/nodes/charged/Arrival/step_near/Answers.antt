use Rattle.cap_spec.proofs.ProofNames.{None, arith, rules, element, word}
use Rattle.cap_vet.proofs.Charging.{arrives_element, arrives_word}
use Rattle.cap_vet.proofs.AtSomePlace.{arrival_at_some_place, arrival_within, step_exists, step_inside}
use Rattle.cap_vet.proofs.nodes.charged.Arrival.step_near.Goals as goal

-- One step on, by a look at its pointer.

pub step-requires : goal.step-requires
step-requires g c = search (rules, arrival_at_some_place)

pub found_near-requires : goal.found_near-requires
found_near-requires g c =
    let goes = rw c.in-Some-Word.field-0-is at c.in-Some-Word.ensures in
    let exists = step_exists _ _ _ c.args.self.now c.requires.arrived c.args.step _ _ goes in
    let inside = step_inside _ _ _ c.args.self.now c.requires.arrived c.args.step _ _ goes in
    search rules

pub returns-in_ok-found-in-Some-Word-clause-on : goal.returns-in_ok-found-in-Some-Word-clause-on
returns-in_ok-found-in-Some-Word-clause-on g c = λ path a h.
    let m = g.M.Segments.segments c.args.message.now in
    let at = c.args.self.now in
    let goes = (rw c.in-Some-Word.field-0-is at c.in-Some-Word.ensures) m a h.found in
    let near = c.in_ok-found-in-Some-Word.ensures.found in (
      word c.in-Some-Word.segment c.in-Some-Word.word,
      arrives_word m path a at c.args.step None h goes.0 near.found near.costs near.within near.shallow
          (search rules),
    )

pub returns-in-Some-Element-clause-on : goal.returns-in-Some-Element-clause-on
returns-in-Some-Element-clause-on g c = λ path a h.
    let m = g.M.Segments.segments c.args.message.now in
    let e = c.in-Some-Element in
    let goes = (rw e.field-0-is at e.ensures) m a h.found in (
      element e.segment e.start e.data_words e.pointers,
      rw c.at_element.ensures (search (rules, arrives_element)),
    )

pub overflow_sub-left : goal.overflow_sub-left
overflow_sub-left g c = let l = arrival_within _ _ _ c.args.self.now c.requires.arrived in omega (arith, l)
