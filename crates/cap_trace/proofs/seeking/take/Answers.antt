use Rattle.std.proofs.Common.{[], arith, length, rules, ◌++◌, ◌<◌, ◌∷◌}
use Rattle.cap_spec.proofs.ProofNames.{length-append}
use Rattle.cap_trace.specs.Branches.{element_row}
use Rattle.cap_trace.specs.TraceNames.{skipped}
use Rattle.cap_trace.proofs.Branches.{is_row}
use Rattle.cap_trace.proofs.Coming.{element_ends, few_passed, row_ends, took_element, took_word}
use Rattle.cap_trace.proofs.seeking.take.Goals.{in-Structs, in_default}
use Rattle.cap_trace.proofs.seeking.take.Goals as goal

pub element-row-requires : goal.element-row-requires
element-row-requires c =
    let (m, depth, n, message, shallow, h) = c.requires.passed in
    (element_ends m depth n _ c.args.branch.now message h c.in-Structs.is c.requires.some).0

pub push-requires : goal.push-requires
push-requires c =
    let (m, depth, n, message, shallow, h) = c.requires.passed in
    let items = c.args.branches.now.items in
    let few : length items < 256 = omega (arith, shallow, few_passed m depth n _ h, length-append items (c.args.branch.now ∷ [])) in
    (search rules, few)

pub taken_more-row-requires : goal.taken_more-row-requires
taken_more-row-requires c =
    let (m, depth, n, message, shallow, h) = c.requires.passed in
    elim c.match-branch.branch [
      | in-Structs w ↦
          let some = (element_ends m depth n _ c.args.branch.now message h w.in-Structs.is c.requires.some).1 in
          rw (w.row-is, w.element-row.ensures) (omega (arith, some))
      | in_default w ↦ rw w.row-is (omega (arith, c.requires.some))
    ]

pub push-requires-2 : goal.push-requires-2
push-requires-2 c =
    let (m, depth, n, message, shallow, h) = c.requires.passed in
    let items = c.args.branches.now.items in
    let more = skipped c.args.branch.now 1 ∷ [] in
    let few : length c.match-branch.branches.items < 256 = elim c.match-branch.branch [
      | in-Structs w ↦
          let k = took_element m depth n _ c.args.branch.now h w.in-Structs.is c.requires.some in
          rw (w.branches-is, w.push.ensures.items, w.taken_more.ensures)
          (omega (arith, shallow, few_passed m depth n _ k, length-append (items ++ more) (element_row c.args.branch.now ∷ [])))
      | in_default w ↦ rw w.branches-is (omega (arith, shallow, few_passed m depth n _ h, length-append items (c.args.branch.now ∷ [])))
    ] in
    (search rules, few)

pub place-requires : goal.place-requires
place-requires c =
    let (m, depth, n, message, shallow, h) = c.requires.passed in
    elim c.match-branch.branch [
      | in-Structs w ↦
          let fits = element_ends m depth n _ c.args.branch.now message h w.in-Structs.is c.requires.some in
          rw (c.taken_more-row.ensures, w.row-is, w.element-row.ensures) (omega (arith, fits.0, fits.1))
      | in_default w ↦
          let fits = row_ends m depth n _ c.args.branch.now message h (is_row c.args.branch.now.form w.in_default.not-Structs) in
          rw (c.taken_more-row.ensures, w.row-is) (omega (arith, fits, c.requires.some))
    ]

pub returns : goal.returns
returns c = λ m depth n h.
    let (m', depth', n', message, shallow, h') = c.requires.passed in
    elim c.match-branch.branch [
      | in-Structs w ↦
          let k = took_element m depth n _ c.args.branch.now h w.in-Structs.is c.requires.some in
          let some = (element_ends m' depth' n' _ c.args.branch.now message h' w.in-Structs.is c.requires.some).1 in
          rw (c.push-2.ensures.items, c.place.ensures, c.taken_more-row.ensures, w.row-is, w.element-row.ensures, w.branches-is, w.push.ensures.items, w.taken_more.ensures)
          (took_word m depth n _ _ k tt some)
      | in_default w ↦
          rw (c.push-2.ensures.items, c.place.ensures, c.taken_more-row.ensures, w.row-is, w.branches-is)
          (took_word m depth n _ c.args.branch.now h (is_row c.args.branch.now.form w.in_default.not-Structs) c.requires.some)
    ]
