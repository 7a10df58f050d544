use Rattle.cap_spec.proofs.ProofNames.{List, [], ap, append_assoc, rules, subst, sym, ℕ, ◌++◌, ◌∙◌, ◌∷◌, AllByRecursion}
use Rattle.cap_spec.proofs.ProofNames.{IsWord}
use Rattle.cap_canon.proofs.Ranges.{range_two}
use Rattle.cap_canon.proofs.appending.append_two.Goals as goal

pub returns-clause-words : goal.returns-clause-words
returns-clause-words g c =
    let m = g.M.Segments.segments c.args.message.now in
    let old = g.T.CopyOutput.words c.args.copy.now in
    let x = c.word-first.result in
    let y = c.word-second.result in
    let two = range_two m c.args.segment c.args.start x y c.word-first.ensures c.word-second.ensures in
    c.push-2.ensures.words ∙ (ap (λ xs. xs ++ y ∷ []) c.push.ensures.words
    ∙ (append_assoc old (x ∷ []) (y ∷ []) ∙ ap (λ xs. old ++ xs) (sym two)))

pub returns-clause-are_words : goal.returns-clause-are_words
returns-clause-are_words g c =
    let m = g.M.Segments.segments c.args.message.now in
    let x = c.word-first.result in
    let y = c.word-second.result in
    let two = range_two m c.args.segment c.args.start x y c.word-first.ensures c.word-second.ensures in
    let first : IsWord x = search rules in
    let second : IsWord y = search rules in
    subst (λ (xs : List ℕ). AllByRecursion IsWord xs) (sym two) (first, (second, tt))
