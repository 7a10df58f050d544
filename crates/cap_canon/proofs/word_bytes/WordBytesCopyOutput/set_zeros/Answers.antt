use Rattle.std.proofs.Common.{ap, arith, length, take, ◌∙◌, ◌*◌, ◌+◌, ◌≤◌}
use Rattle.cap_spec.proofs.Bytes.Plain.{words_exact}
use Rattle.cap_spec.specs.Plain.{plain_words}
use Rattle.cap_canon.proofs.FirstWords.{first_words_count}
use Rattle.cap_canon.proofs.ZerosPut.{take-zeros_put}
use Rattle.cap_canon.proofs.word_bytes.WordBytesCopyOutput.set_zeros.Goals as goal

pub returns-clause-words : goal.returns-clause-words
returns-clause-words c =
    let count = c.args.self.now.count in
    let bytes = c.args.self.now.bytes.now in
    let inside : 8 * count ≤ length bytes = c.args.self.now.inside in
    let fits : c.args.place + c.args.count ≤ count = omega (arith, c.requires, first_words_count count bytes inside) in
    let enough : count ≤ length (plain_words bytes) = omega (arith, words_exact bytes, inside) in
    ap (take count) c.write_zeros.ensures.words ∙ take-zeros_put count c.args.place c.args.count (plain_words bytes) fits enough
