-- Each turn puts the next word of the table.
use Rattle.cap_spec.proofs.ProofNames.{[], arith, ◌∷◌, rules, common_steps}
use Rattle.cap_frame.proofs.Putting.{halts_of, leaves_halts, leaves_less, puts_of, table_from}
use Rattle.cap_frame.proofs.writer.put_sizes.Goals as goal

pub returns-in-Err : goal.returns-in-Err
returns-in-Err g c = grind (arith, common_steps, table_from, leaves_halts, halts_of)

pub table-preserved : goal.table-preserved
table-preserved g c = search (
  rules,
  table_from (g.M.Segments.segments c.args.message.now) c.table.w c.table_word.result (omega arith) c.table_word.ensures,
  leaves_less,
  puts_of g.K.WordSink c.table.sink c.put.new.self (c.table_word.result ∷ []) c.in_default.ensures.put c.in_default.ensures.ok,
)
