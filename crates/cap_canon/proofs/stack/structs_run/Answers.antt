use Rattle.std.proofs.Common.{arith, inl, inr, refl}
use Rattle.cap_canon.proofs.Entering.{structs_none_owed, structs_owed, structs_start}
use Rattle.cap_canon.proofs.stack.structs_run.Goals.{then-count-eq0-via-else-count-eq0+then-part-eq0}
use Rattle.cap_canon.proofs.stack.structs_run.Goals.{then-count-eq0-via-then-count-eq0}
use Rattle.cap_canon.proofs.stack.structs_run.Goals as goal

pub returns-then-count-eq0-clause-owed : goal.returns-then-count-eq0-clause-owed
returns-then-count-eq0-clause-owed c = λ m d s w depth n tree k le.
    structs_none_owed m d depth n c.args.end s w c.args.count c.args.part.now tree k
    (elim c.then-count-eq0.branch [
      | then-count-eq0-via-then-count-eq0 w ↦ inl w.if-count-eq0.true
      | then-count-eq0-via-else-count-eq0+then-part-eq0 w ↦ inr
          w.if-part-eq0.true
    ])

pub overflow_add-result : goal.overflow_add-result
overflow_add-result c =
    let (m, d, s, w, tree, is, k, small) = c.requires in
    let l = structs_start m d s w c.args.count c.args.part.now tree is k (omega (arith, c.if-count-eq0.false)) in
    omega (arith, l)

pub returns-clause-owed : goal.returns-clause-owed
returns-clause-owed c = λ m d s w depth n tree k le.
    structs_owed m d depth n c.args.end s w c.args.count c.args.part.now _ tree k le (omega (arith, c.if-count-eq0.false)) refl
