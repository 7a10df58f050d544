use Rattle.cap_spec.proofs.ProofNames.{drop-put_mid, rules}
use Rattle.cap_canon.proofs.FirstWords.{row_written}
use Rattle.cap_canon.proofs.word_bytes.write_row.Goals as goal

pub returns : goal.returns
returns c = search (rules, row_written, drop-put_mid)
