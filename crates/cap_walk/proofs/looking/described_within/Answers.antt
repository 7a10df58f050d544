use Rattle.cap_spec.proofs.Lemmas.{one_word, leads-near}
use Rattle.cap_spec.proofs.ProofNames.{IfSome, Option, rules, IsMessage}
use Rattle.cap_walk.proofs.looking.described_within.Goals as goal

if_some : {A B : Type 0} (o : Option A) → B → IfSome o (λ _. B)
if_some o b = search rules

pub returns-in-Some : goal.returns-in-Some
returns-in-Some g c = search (rules, leads-near, one_word, if_some)

pub target_within-requires-clause-found : goal.target_within-requires-clause-found
target_within-requires-clause-found g c =
    let m = g.M.Segments.segments c.args.message.now in
    let message : IsMessage m = search rules in
    search rules

pub returns-clause-looked : goal.returns-clause-looked
returns-clause-looked g c = λ s w lies.
    let m = g.M.Segments.segments c.args.message.now in
    let list = c.in_ok-list.ensures in
    c.target_within.ensures m s w (search rules)

pub returns-clause-object : goal.returns-clause-object
returns-clause-object g c = search (rules, one_word, if_some)
