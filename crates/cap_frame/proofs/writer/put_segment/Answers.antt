-- Each turn puts the next word of the segment.
use Rattle.cap_spec.proofs.Canonical.Placing.{rest_at}
use Rattle.cap_spec.proofs.ProofNames.{[], ◌∷◌, segment_of, rules, arith, common_steps}
use Rattle.cap_frame.proofs.Putting.{halts_of, leaves_halts, leaves_less, puts_of}
use Rattle.cap_frame.proofs.writer.put_segment.Goals as goal

pub returns-in-Err : goal.returns-in-Err
returns-in-Err g c = grind (arith, common_steps, leaves_halts, rest_at (segment_of (g.M.Segments.segments c.args.message.now) c.args.s) c.words.w c.word.result c.word.ensures, halts_of)

pub words-preserved : goal.words-preserved
words-preserved g c = search (
  rules,
  leaves_less,
  rest_at (segment_of (g.M.Segments.segments c.args.message.now) c.args.s) c.words.w c.word.result c.word.ensures,
  puts_of g.K.WordSink c.words.sink c.put.new.self (c.word.result ∷ []) c.in_default.ensures.put c.in_default.ensures.ok,
)
