use Rattle.std.proofs.Common.{arith, ◌+◌}
use Rattle.cap_canon.specs.CopyRuns.{option_places}
use Rattle.cap_canon.proofs.Entering.{pointers_owed, struct_owed}
use Rattle.cap_canon.proofs.stack.run_of.Goals as goal

pub returns-in-Struct-clause-owed : goal.returns-in-Struct-clause-owed
returns-in-Struct-clause-owed c = λ m d s w depth n tree h le.
    let k = rw c.in-Struct.is at h in
    struct_owed m k.0 depth (n + 1) c.args.end s w c.in-Struct.part tree (option_places c.row_run.result) k.2 (omega (arith, k.1, le)) c.row_run.ensures.places

pub returns-in-Pointers-clause-owed : goal.returns-in-Pointers-clause-owed
returns-in-Pointers-clause-owed c = λ m d s w depth n tree h le.
    let k = rw c.in-Pointers.is at h in
    let row = c.row_run-in-Pointers in
    pointers_owed m k.0 depth (n + 1) c.args.end s w _ _ _ tree (option_places row.result) k.2 (omega (arith, k.1, le)) row.ensures.places

pub returns-in-Structs-clause-owed : goal.returns-in-Structs-clause-owed
returns-in-Structs-clause-owed c = λ m d s w depth n tree h le.
    let k = rw c.in-Structs.is at h in
    c.structs_run.ensures.owed m k.0 s w depth (n + 1) tree k.2 (omega (arith, k.1, le))
