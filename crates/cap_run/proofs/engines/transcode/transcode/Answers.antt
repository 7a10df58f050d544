use Rattle.std.proofs.Common.{rules}
use Rattle.cap_run.proofs.Transcoding.{blames_of, copied_failed, copied_finished, copied_spoiled}
use Rattle.cap_run.proofs.engines.transcode.transcode.Goals as goal

pub returns-in-Ok : goal.returns-in-Ok
returns-in-Ok g c = search (rules, copied_finished)

pub returns-in-Err : goal.returns-in-Err
returns-in-Err g c = search (rules, blames_of, copied_spoiled)

pub returns-else-without_fault : goal.returns-else-without_fault
returns-else-without_fault g c = search (rules, copied_failed)
