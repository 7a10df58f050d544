use Rattle.cap_spec.proofs.ProofNames.{arith, length-take-le, refl, take, ◌*◌, ◌∙◌, ◌≡◌, take-put_mid}
use Rattle.cap_pack.proofs.PuttingEach.{words_read}
use Rattle.cap_pack.proofs.pieces.read_words.Goals as goal

pub returns-clause-words : goal.returns-clause-words
returns-clause-words c =
    let count = c.min-count.result in
    let bytes = take (8 * count) c.args.bytes.now in
    let front : take count c.args.words.now ≡ take count c.args.words.now = refl in
    take-put_mid 0 count c.args.words.now c.read_u64_into.new.dst count (omega arith) (omega arith)
    ∙ words_read c.read_u64_into.new.dst bytes (omega (arith, length-take-le (8 * count) c.args.bytes.now (omega (arith, c.min-count.ensures))))
    c.read_u64_into.ensures
