-- Each turn writes one word more.
use Rattle.cap_spec.proofs.ProofNames.{take, ◌*◌, ◌+◌, ◌/◌, take-put_mid}
use Rattle.cap_spec.proofs.ProofNames.{rules}
use Rattle.cap_frame.proofs.TableBytes.{table_all, table_back, table_more}
use Rattle.cap_frame.proofs.writer.table_into.Goals as goal

pub table-preserved : goal.table-preserved
table-preserved g c = search (rules, take-put_mid, table_more)

pub returns-clause-bytes : goal.returns-clause-bytes
returns-clause-bytes g c = search (rules, table_all)

pub returns-clause-words : goal.returns-clause-words
returns-clause-words g c =
    let m = g.M.Segments.segments c.args.message.now in
    table_back m (take (8 * (c.count.result / 2 + 1)) c.table.table) (g.met.M.Segments.is_message c.args.message.now) (returns-clause-bytes g c)
