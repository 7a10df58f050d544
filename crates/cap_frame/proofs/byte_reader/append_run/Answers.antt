-- What is appended is after what was read.
use Rattle.cap_spec.proofs.Bytes.Plain.{length_plain}
use Rattle.cap_spec.proofs.ProofNames.{[], refl, rules}
use Rattle.cap_frame.proofs.InOneBuffer.{appended_in, nothing_in}
use Rattle.cap_frame.proofs.Taking.{takes_none}
use Rattle.cap_frame.proofs.byte_reader.append_run.Goals as goal

pub returns-then-len-done-clause-ok : goal.returns-then-len-done-clause-ok
returns-then-len-done-clause-ok g c = ([], nothing_in c.args.done c.args.bytes.now.items, refl, takes_none g.S.WordSource c.args.source.now)

pub returns-clause-ok : goal.returns-clause-ok
returns-clause-ok g c = search (rules, appended_in)

pub returns-clause-whole : goal.returns-clause-whole
returns-clause-whole g c = search (rules, length_plain)
