use Rattle.std.proofs.lemmas.List.Elements.{recursion_from_All}
use Rattle.cap_spec.proofs.Lemmas.{length_plain, words_exact, range_length}
use Rattle.cap_spec.proofs.ProofNames.{length-append, rules}
use Rattle.cap_canon.proofs.Afters.{row_joined}
use Rattle.cap_canon.proofs.appended.AppendedWordsCopyOutput.append_from.Goals as goal

pub unwrap-requires : goal.unwrap-requires
unwrap-requires g c = search (rules, range_length, length_plain, words_exact)

pub invariant_of-self : goal.invariant_of-self
invariant_of-self g c = search (rules, range_length, length_plain, words_exact, length-append)

pub returns-in-Some : goal.returns-in-Some
returns-in-Some g c = search (rules, recursion_from_All, row_joined)
