use Rattle.std.proofs.Common.{rules}
use Rattle.cap_run.proofs.Breaking.{cut_after, over_after}
use Rattle.cap_run.proofs.Streams.{reads_one}
use Rattle.cap_run.proofs.engines.reading.end_stream.Goals as goal

pub returns-in-Ok-true-clause-err : goal.returns-in-Ok-true-clause-err
returns-in-Ok-true-clause-err g c = search (rules, reads_one)

pub returns-in-Ok-true-clause-ok : goal.returns-in-Ok-true-clause-ok
returns-in-Ok-true-clause-ok g c = tt

pub returns-in-Ok-false-clause-err : goal.returns-in-Ok-false-clause-err
returns-in-Ok-false-clause-err g c = tt

pub is_cut_after-is_cut-requires : goal.is_cut_after-is_cut-requires
is_cut_after-is_cut-requires g c = search (rules, over_after)

pub returns-in-Err-clause-at : goal.returns-in-Err-clause-at
returns-in-Err-clause-at g c = search (rules, cut_after)
