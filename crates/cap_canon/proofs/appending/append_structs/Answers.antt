use Rattle.cap_spec.proofs.ProofNames.{arith, ◌∙◌, rules}
use Rattle.cap_canon.proofs.Afters.{fewer_before}
use Rattle.cap_canon.proofs.Ranges.{elements_whole}
use Rattle.cap_canon.proofs.Structs.{struct_inside, structs_more}
use Rattle.cap_canon.proofs.appending.append_structs.Goals as goal

pub returns-then-left-part-clause-words : goal.returns-then-left-part-clause-words
returns-then-left-part-clause-words g c = search (rules, elements_whole)

pub elements-preserved : goal.elements-preserved
elements-preserved g c =
    let e = c.elements in
    let inside = struct_inside c.elements-test.true c.requires.inside e.invariant.far in record {
      far = structs_more
          c.elements-test.true c.requires.fewer inside c.append_struct.ensures.words (omega (arith, c.append_struct.ensures.capacity)) e.invariant.far;
      capacity = c.append_struct.ensures.capacity ∙ e.invariant.capacity;
      borrow = c.append_struct.ensures.borrow ∙ e.invariant.borrow;
      after = λ n h. c.append_struct.ensures.after n h ∙ e.invariant.after n (fewer_before _ _ _ n c.append_struct.ensures.words h);
    }
