use Rattle.cap_spec.proofs.ProofNames.{rules, common_steps}
use Rattle.std.proofs.Common.{arith, drop, length, length-drop, length-take-le, take, ◌*◌, ◌++◌, ◌/◌, ◌<◌, ◌≡◌}
use Rattle.std.specs.List.{AllByRecursion}
use Rattle.cap_words.proofs.Buffered.{bytes_small}
use Rattle.cap_words.proofs.Pieces.{ends_within, none_filled, piece_filled, plain_end}
use Rattle.cap_words.proofs.plain_words.PlainWordsWordSource.fill.Goals as goal

pub returns-then-whole-eq0-clause-full : goal.returns-then-whole-eq0-clause-full
returns-then-whole-eq0-clause-full g c = λ is. none_filled c.args.out.now (omega arith) (omega arith)

pub returns-then-count-whole-clause-full : goal.returns-then-count-whole-clause-full
returns-then-count-whole-clause-full g c = λ is.
    let given = c.fill.new.buf in
    let n = c.in-Ok.count in
    let whole = length c.args.out.now / 8 * 8 in
    let rest = drop whole c.args.out.now in
    let small : AllByRecursion (λ b. b < 256) (given ++ rest) = bytes_small (given ++ rest) (λ i. c.type_inv.out i) in
    let long : length given ≡ 8 * (length c.args.out.now / 8) =
    omega (arith, c.fill.auto.buf, length-take-le (length c.args.out.now / 8 * 8) c.args.out.now (omega arith)) in
    let few : length rest < 8 = omega (arith, length-drop whole c.args.out.now) in
    let count : length (take n given) ≡ n = length-take-le n given c.in-Ok.ensures.len in
    piece_filled _ _ _ given rest n (length c.args.out.now / 8) _ _ c.in-Open.is small long (omega (arith, long)) few (omega arith)
    (omega (arith, c.in-Ok.ensures.took.place, count)) c.in-Ok.ensures.took.lost

pub returns-then-count-eq0-clause-ended : goal.returns-then-count-eq0-clause-ended
returns-then-count-eq0-clause-ended g c = search (
  rules,
  length-take-le (length c.args.out.now / 8 * 8) c.args.out.now (omega arith),
  length-take-le c.in-Ok.count c.fill.new.buf c.in-Ok.ensures.len,
  ends_within,
  plain_end c.args.self.now.bytes.read (take c.in-Ok.count c.fill.new.buf) (omega arith),
)

pub returns-else-count-eq0-clause-truncated : goal.returns-else-count-eq0-clause-truncated
returns-else-count-eq0-clause-truncated g c = grind (
  arith,
  common_steps,
  length-take-le (length c.args.out.now / 8 * 8) c.args.out.now (omega arith),
  length-take-le c.in-Ok.count c.fill.new.buf c.in-Ok.ensures.len,
  ends_within,
  plain_end c.args.self.now.bytes.read (take c.in-Ok.count c.fill.new.buf) (omega arith),
)
