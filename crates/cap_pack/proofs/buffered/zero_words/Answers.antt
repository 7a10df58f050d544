use Rattle.cap_spec.proofs.ProofNames.{rules}
use Rattle.std.proofs.Common.{ap, arith, drop, length, length-take-le, take, take_all, ◌*◌, ◌∙◌, ◌≡◌}
use Rattle.std.proofs.lemmas.List.{take-append-le, take-replicate}
use Rattle.cap_pack.proofs.buffered.zero_words.Goals as goal

pub returns-clause-zeros : goal.returns-clause-zeros
returns-clause-zeros c = search (rules, length-take-le, take-append-le, take_all)

pub returns-then-out-ge-FEW-clause-zeros : goal.returns-then-out-ge-FEW-clause-zeros
returns-then-out-ge-FEW-clause-zeros c =
    let n = 8 * c.min-words.result in
    let given = c.copy_from_slice.new.self in
    let long : length given ≡ 32 = omega (arith, c.copy_from_slice.ensures.len, length-take-le 32 c.args.out.now (omega arith)) in
    take-append-le n given (drop 32 c.args.out.now) (omega arith) ∙ (ap (take n) c.copy_from_slice.ensures.after ∙ take-replicate n 32 0 (omega arith))
