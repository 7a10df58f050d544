use Rattle.cap_spec.proofs.ProofNames.{drop-put_mid, rules}
use Rattle.cap_canon.proofs.FirstWords.{words_put}
use Rattle.cap_canon.proofs.word_bytes.write_word.Goals as goal

pub returns : goal.returns
returns c = search (rules, words_put, drop-put_mid)
