use Rattle.std.proofs.Common.{ap, arith, drop, length, length-take-le, take, take-take, take_all, ◌*◌, ◌∙◌, ◌≡◌}
use Rattle.std.proofs.lemmas.List.{take-append-le}
use Rattle.cap_pack.proofs.buffered.plain_words.Goals as goal

pub returns-clause-copied : goal.returns-clause-copied
returns-clause-copied c =
    let n = 8 * c.min-words.result in
    let given = c.copy_from_slice-2.new.self in
    let long : length given ≡ n = omega (arith, c.copy_from_slice-2.ensures.len, length-take-le n c.args.out.now (omega arith)) in
    take-append-le n given (drop n c.args.out.now) (omega arith) ∙ take_all n given (omega arith) ∙ c.copy_from_slice-2.ensures.after

pub returns-then-out-ge-FEW-clause-copied : goal.returns-then-out-ge-FEW-clause-copied
returns-then-out-ge-FEW-clause-copied c =
    let n = 8 * c.min-words.result in
    let given = c.copy_from_slice.new.self in
    let long : length given ≡ 32 = omega (arith, c.copy_from_slice.ensures.len, length-take-le 32 c.args.out.now (omega arith)) in
    take-append-le n given (drop 32 c.args.out.now) (omega arith) ∙ (ap (take n) c.copy_from_slice.ensures.after ∙ take-take n 32 c.args.from.now (omega arith))
