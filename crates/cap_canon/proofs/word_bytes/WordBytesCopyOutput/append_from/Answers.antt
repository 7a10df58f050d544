use Rattle.std.proofs.lemmas.List.Elements.{recursion_from_All}
use Rattle.cap_spec.proofs.Lemmas.{length_plain, range_length}
use Rattle.cap_spec.proofs.ProofNames.{AllByRecursion, words_from, IsWord, rules}
use Rattle.cap_canon.proofs.FirstWords.{first_words_count}
use Rattle.cap_canon.proofs.word_bytes.WordBytesCopyOutput.append_from.Goals as goal

pub write_row-requires : goal.write_row-requires
write_row-requires g c = search (rules, first_words_count, range_length, length_plain)

pub returns-in-Some-clause-words : goal.returns-in-Some-clause-words
returns-in-Some-clause-words g c =
    let m = g.M.Segments.segments c.args.message.now in
    let words = words_from m c.args.segment c.args.start c.args.count in
    let are : AllByRecursion IsWord words = recursion_from_All IsWord words c.in-Some.ensures.words in
    search (rules, are, range_length)

pub invariant_of-self : goal.invariant_of-self
invariant_of-self g c = search (rules, first_words_count)

pub returns-in-Some-clause-after : goal.returns-in-Some-clause-after
returns-in-Some-clause-after g c = search (rules, first_words_count, range_length, length_plain)

pub returns-in-Some-clause-are_words : goal.returns-in-Some-clause-are_words
returns-in-Some-clause-are_words g c = search (rules, recursion_from_All)
