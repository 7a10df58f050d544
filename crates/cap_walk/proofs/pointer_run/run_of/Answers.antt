use Rattle.cap_spec.proofs.ProofNames.{rules, arith, inl, inr, ◌+◌, ◌<◌, ◌≡◌}
use Rattle.cap_walk.proofs.ObjectRuns.{start_fits, struct_capacity, structs_empty, structs_inside, structs_places}
use Rattle.cap_walk.proofs.pointer_run.run_of.Goals as goal

pub returns-then-count-eq0-clause-places : goal.returns-then-count-eq0-clause-places
returns-then-count-eq0-clause-places c = λ m s w q tag f.
    let g = rw c.in-Structs.is at f in
    structs_empty m s w q tag _ _ c.args.level g (elim c.then-count-eq0.either [ inl h ↦ inl h | inr h ↦ inr h.1 ])

pub overflow_add-result-in-Structs : goal.overflow_add-result-in-Structs
overflow_add-result-in-Structs c =
    let (m, s, w, q, tag, fits, found) = c.requires.found in
    let g = rw c.in-Structs.is at found in
    start_fits m s w q tag _ _ c.from-in-Structs.result fits g c.from-in-Structs.ensures c.if-count-eq0.false

pub returns-in-Struct-clause-places : goal.returns-in-Struct-clause-places
returns-in-Struct-clause-places c = search rules

pub returns-in-Struct-clause-inside : goal.returns-in-Struct-clause-inside
returns-in-Struct-clause-inside c = λ m s w q tag f.
    let g = rw c.in-Struct.is at f in
    c.row_run.ensures.inside m g.finds.inside.exists (search (rules, struct_capacity))

pub returns-else-pointers-eq0-clause-places : goal.returns-else-pointers-eq0-clause-places
returns-else-pointers-eq0-clause-places c = λ m s w q tag f.
    let at_start : c.args.target.now.start + 1 + c.from-in-Structs.result ≡ c.args.target.now.start + 1
    + c.in-Structs.data_words = omega (arith, c.from-in-Structs.ensures) in
    structs_places c.args.level (rw c.in-Structs.is at f) at_start c.from-in-Structs-2.ensures (omega arith)
    c.from-in-Structs-3.ensures c.from-in-Structs-4.ensures (omega (arith, c.if-count-eq0.false)) (search rules)

pub returns-else-pointers-eq0-clause-inside : goal.returns-else-pointers-eq0-clause-inside
returns-else-pointers-eq0-clause-inside c = λ m s w q tag f.
    let g = rw c.in-Structs.is at f in
    let some : 0 < c.in-Structs.count = omega (arith, c.if-count-eq0.false) in
    search (rules, structs_inside)
