use Rattle.cap_spec.proofs.ProofNames.{rules}
use Rattle.cap_walk.proofs.NullRows.{null_in_row, row_length}
use Rattle.cap_walk.proofs.null_words.nulls.Goals as goal

pub nulls_in-requires : goal.nulls_in-requires
nulls_in-requires g c = search (rules, row_length)

pub returns-in-Some-clause-few : goal.returns-in-Some-clause-few
returns-in-Some-clause-few g c = search (rules, row_length)

pub returns-in-Some-clause-null : goal.returns-in-Some-clause-null
returns-in-Some-clause-null g c = λ k lt.
    null_in_row (g.M.Segments.segments c.args.message.now) c.args.segment c.args.at c.args.most k _ c.requires.inside
    c.in-Some.ensures.words c.in-Some.ensures.bytes (c.nulls_in.ensures.null k lt)
