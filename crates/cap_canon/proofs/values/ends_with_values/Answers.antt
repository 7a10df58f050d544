use Rattle.cap_spec.proofs.ProofNames.{arith, eq-eqb, eqb-true, length, refl, sym, ◌%◌, ◌*◌, ◌+◌, ◌-◌, ◌<◌, ◌∙◌, ◌≡◌}
use Rattle.cap_spec.proofs.ProofNames.{◌≢◌, segment_of, element_bits, list_words, rules}
use Rattle.cap_canon.proofs.Rests.{rest_words, values_full}
use Rattle.cap_canon.proofs.LaidObjects.{range_words, lie_values, values_lie}
use Rattle.cap_canon.proofs.values.ends_with_values.Goals as goal

pub returns-then-rest_bits-eq0 : goal.returns-then-rest_bits-eq0
returns-then-rest_bits-eq0 g c =
    let m = g.M.Segments.segments c.args.message.now in
    let full = values_full m 0 c.args.start c.args.code c.args.count c.args.words c.requires.code c.requires.words c.requires.inside c.read_range.ensures
    (sym c.rest_bits.ensures ∙ c.if-rest_bits-eq0.true) in
    (λ _. full, λ _. refl)

pub returns : goal.returns
returns g c =
    let m = g.M.Segments.segments c.args.message.now in
    let before = c.args.words - 1 in
    let over : (element_bits c.args.code * c.args.count) % 64 ≢ 0 = λ z. c.if-rest_bits-eq0.false (c.rest_bits.ensures ∙ z) in
    let some = rest_words c.args.code c.args.count c.requires.code over in
    let many : list_words c.args.code c.args.count ≡ before + 1 = omega (arith, c.requires.words, some) in
    let last = c.word-last.result in
    let kept = c.last_word.ensures before many in
    let inside : c.args.start + before < length (segment_of m 0) = omega (arith, c.requires.inside, c.requires.words, some) in
    let words = range_words m 0 c.args.start before (λ k lt. c.read_range.ensures k (omega (arith, lt))) in
    search (rules, values_lie, eqb-true, eq-eqb, lie_values)
