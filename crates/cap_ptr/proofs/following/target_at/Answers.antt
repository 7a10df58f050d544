use Rattle.cap_spec.proofs.ProofNames.{arith, rules, IsComposite}
use Rattle.cap_ptr.proofs.Objects.{found-plain, wrong-past}
use Rattle.cap_ptr.proofs.following.target_at.Goals as goal

pub returns-then-start-from : goal.returns-then-start-from
returns-then-start-from g c = λ s w leads.
    wrong-past _ s w c.args.pads c.args.segment c.args.start c.args.word leads c.requires.exists
    (omega (arith, c.extent-words.ensures.value, c.len.ensures))

pub returns : goal.returns
returns g c = λ s w leads.
    let plain : ¬ IsComposite c.args.word = λ y. let e = c.if-is_structs.ensures.composite.1 y in cc in (
      c.args.word,
      0,
      found-plain _ s w c.args.pads c.args.segment c.args.start c.args.word leads c.requires.exists
          c.empty_elements.result c.extent-words.result _ c.plain_shape.result
          c.requires.pads plain c.extent-words.ensures.value c.extent-words.ensures.few (omega (arith, c.len.ensures))
          (c.empty_elements.ensures.value 0) c.empty_elements.ensures.below (omega arith) (c.plain_shape.ensures 0),
    )

pub composite-requires-clause-inside : goal.composite-requires-clause-inside
composite-requires-clause-inside g c = search rules
