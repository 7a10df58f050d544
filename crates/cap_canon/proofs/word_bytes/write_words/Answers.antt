-- The words of the copy are the first ones.
use Rattle.cap_spec.proofs.ProofNames.{length, ◌≡◌, layout, trim, rules}
use Rattle.cap_canon.specs.FirstWords.{first_words}
use Rattle.cap_canon.proofs.Buffers.{counted}
use Rattle.cap_canon.proofs.FirstWords.{first_words_count}
use Rattle.cap_canon.proofs.word_bytes.write_words.Goals as goal

pub returns-clause-count : goal.returns-clause-count
returns-clause-count g c = search (rules, first_words_count)

pub returns-clause-words : goal.returns-clause-words
returns-clause-words g c = λ t x d h.
    let copy = c.copy_into.new.copy in
    let all : first_words (length (layout (trim t))) copy.bytes.now ≡ layout (trim t) =
    counted copy.count copy.bytes.now (layout (trim t)) copy.inside (c.copy_into.ensures.words t x d h) in
    search (rules, all)
