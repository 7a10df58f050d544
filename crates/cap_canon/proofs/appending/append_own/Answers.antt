use Rattle.std.proofs.Common.{arith}
use Rattle.cap_canon.proofs.Filling.{pointers_appended, scalars_appended, scalars_size, struct_appended}
use Rattle.cap_canon.proofs.appending.append_own.Goals as goal

pub append_values-requires-clause-capacity : goal.append_values-requires-clause-capacity
append_values-requires-clause-capacity g c =
    let k = rw c.in-Scalars.is at c.requires.4 in
    omega (arith, c.requires.5, scalars_size k.1)

pub returns-in-Struct-clause-own : goal.returns-in-Struct-clause-own
returns-in-Struct-clause-own g c = λ d s w tree h.
    (let k = rw c.in-Struct.is at h in
    struct_appended k.2 c.append_struct.ensures.words)

pub returns-in-Scalars-clause-own : goal.returns-in-Scalars-clause-own
returns-in-Scalars-clause-own g c = λ d s w tree h.
    (let k = rw c.in-Scalars.is at h in
    scalars_appended k.1 c.append_values.ensures.words)

pub returns-in-Pointers-clause-own : goal.returns-in-Pointers-clause-own
returns-in-Pointers-clause-own g c = λ d s w tree h.
    (let k = rw c.in-Pointers.is at h in
    pointers_appended k.2 c.append_from.ensures.words)

pub returns-in-Structs-clause-own : goal.returns-in-Structs-clause-own
returns-in-Structs-clause-own g c = λ d s w tree h.
    (let k = rw c.in-Structs.is at h in
    c.append_tagged.ensures.own k.0 s w tree k.2)
