-- The list is found, or its tag or its elements are wrong.
use Rattle.std.proofs.Common.{arith, refl, sym, ◌∙◌}
use Rattle.cap_spec.proofs.Pointers.Following.{wrong-composite_tag, wrong-overrun}
use Rattle.cap_ptr.proofs.Objects.{found-structs}
use Rattle.cap_ptr.proofs.near.structs_target.Goals as goal

pub returns-then-kind-ne0-clause-err : goal.returns-then-kind-ne0-clause-err
returns-then-kind-ne0-clause-err c = λ m s w has leads.
    wrong-composite_tag m s w c.args.pads c.args.segment c.args.start c.args.word c.args.tag leads
    has.exists has.inside has.list has.has (λ z. c.if-kind-ne0.true (c.kind.ensures ∙ z))

pub returns-then-words_of_elements-from-clause-err : goal.returns-then-words_of_elements-from-clause-err
returns-then-words_of_elements-from-clause-err c = λ m s w has leads.
    wrong-overrun m s w c.args.pads c.args.segment c.args.start c.args.word c.args.tag leads
    has.exists has.inside has.list has.has (sym c.kind.ensures ∙ c.if-kind-ne0.false)
    (omega (arith, c.if-words_of_elements-from.true, c.words_of_elements.ensures, c.from.ensures, c.list_size-words.ensures))

pub returns-clause-ok : goal.returns-clause-ok
returns-clause-ok c = λ m s w has few leads. (
  c.args.word,
  c.args.tag,
  found-structs m s w c.args.pads c.args.segment c.args.start c.args.word leads has.exists
      c.args.tag c.list_size-words.result c.middle.result c.data_size.result c.pointer_size.result c.empty_structs.result _ _
      few has.inside has.list has.has
      c.list_size-words.ensures (sym c.kind.ensures ∙ c.if-kind-ne0.false) c.middle.ensures c.data_size.ensures c.pointer_size.ensures
      (omega (arith, c.if-words_of_elements-from.false, c.words_of_elements.ensures, c.from.ensures)) c.empty_structs.ensures.value
      c.empty_structs.ensures.within refl (omega arith),
)
