use Rattle.cap_spec.proofs.ProofNames.{List, [], ap, append_assoc, arith, subst, ℕ, ◌+◌, ◌-◌, ◌∙◌, ◌∷◌, ◌≡◌}
use Rattle.cap_spec.proofs.ProofNames.{AllByRecursion, words_from, list_words, IsWord, rules}
use Rattle.cap_canon.proofs.Ranges.{all_front, range_more, values_laid}
use Rattle.cap_canon.proofs.appending.append_values.Goals as goal

pub returns-then-kept-last-clause-words : goal.returns-then-kept-last-clause-words
returns-then-kept-last-clause-words g c =
    let m = g.M.Segments.segments c.args.message.now in
    let before = c.args.words - 1 in
    let front = words_from m c.args.segment c.args.start before in
    let last = c.word-last.result in
    let e : c.args.words ≡ before + 1 = omega (arith, c.if-words-eq0.false) in
    let row = ap (λ n. words_from m c.args.segment c.args.start n) e ∙ range_more m c.args.segment c.args.start before last c.word-last.ensures in
    let are = all_front IsWord front (last ∷ []) (subst (λ (xs : List ℕ). AllByRecursion IsWord xs) row c.append_row.ensures.are_words) in
    let some : list_words c.args.code c.args.count ≡ before + 1 = omega (arith, c.requires.words, c.if-words-eq0.false) in
    let laid = values_laid m c.args.segment c.args.start c.args.code c.args.count before last c.requires.code some
    (omega (arith, c.requires.inside, c.if-words-eq0.false)) are c.word-last.ensures in search rules

pub returns-clause-words : goal.returns-clause-words
returns-clause-words g c =
    let m = g.M.Segments.segments c.args.message.now in
    let before = c.args.words - 1 in
    let some : list_words c.args.code c.args.count ≡ before + 1 = omega (arith, c.requires.words, c.if-words-eq0.false) in
    let laid = values_laid m c.args.segment c.args.start c.args.code c.args.count before c.word-last.result c.requires.code some
    (omega (arith, c.requires.inside, c.if-words-eq0.false)) c.append_row-2.ensures.are_words c.word-last.ensures in
    search (rules, append_assoc)
