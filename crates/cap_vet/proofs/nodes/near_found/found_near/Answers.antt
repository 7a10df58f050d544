use Rattle.cap_spec.proofs.ProofNames.{rules, sym, IsMessage}
use Rattle.cap_ptr.proofs.Pads.{lies-near}
use Rattle.cap_vet.proofs.NearFound.{finds_null, not_near, row_charged}
use Rattle.cap_vet.proofs.nodes.near_found.found_near.Goals as goal
use Rattle.cap_spec.proofs.Lemmas.{one_word}

pub returns-then-word-eq0-clause-found : goal.returns-then-word-eq0-clause-found
returns-then-word-eq0-clause-found g c =
    let message : IsMessage _ = search rules in
    finds_null _ _ _ c.args.s c.args.w _ c.word-word.result message c.word-word.ensures c.if-word-eq0.true

pub returns-in-Some : goal.returns-in-Some
returns-in-Some g c = search (rules, one_word, row_charged)

pub returns-clause-found : goal.returns-clause-found
returns-clause-found g c = search (rules, lies-near)

pub returns-in_err-list-clause-some : goal.returns-in_err-list-clause-some
returns-in_err-list-clause-some g c = λ near.
    absurd (not_near _ c.args.left c.args.depth c.args.s c.args.w c.args.level c.word-word.result c.word-word.ensures
    c.if-word-eq0.false (λ r. c.in_default.ensures.none _ r c.word-word.ensures (sym c.len.ensures)) near)

pub returns-clause-some : goal.returns-clause-some
returns-clause-some g c = λ near.
    absurd (not_near _ c.args.left c.args.depth c.args.s c.args.w c.args.level c.word-word.result c.word-word.ensures
    c.if-word-eq0.false (λ r. c.in_default.ensures.none _ r c.word-word.ensures (sym c.len.ensures)) near)
