use Rattle.cap_spec.proofs.ProofNames.{rules, ◌∙◌}
use Rattle.cap_vet.proofs.Views.{shown_word}
use Rattle.cap_vet.proofs.nodes.view.View.values_word.Goals as goal
use Rattle.cap_spec.proofs.Trees.Readings.{values_word_past, word_past}

pub returns-then-start-end : goal.returns-then-start-end
returns-then-start-end g c = search (rules, values_word_past, word_past)

pub returns : goal.returns
returns g c =
    let place = c.args.self.now.found.place in
    shown_word (g.M.Segments.segments c.args.self.now.message.now) place.segment place.start c.args.code _
    (c.from.ensures ∙ c.element_bits.ensures.value) c.from-2.ensures c.from-start.ensures c.if-start-end.false c.min-used.ensures
    c.word_at.ensures c.bits.ensures
