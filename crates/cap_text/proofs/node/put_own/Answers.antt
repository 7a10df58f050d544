use Rattle.cap_spec.proofs.ProofNames.{append-nil, rules}
use Rattle.cap_text.proofs.Nodes.{no_words}
use Rattle.cap_text.proofs.Paging.{added_here}
use Rattle.cap_text.proofs.node.put_own.Goals as goal

pub returns-in-Struct : goal.returns-in-Struct
returns-in-Struct g c = rw c.in-Struct.is c.put_words.ensures

pub returns-in-Scalars : goal.returns-in-Scalars
returns-in-Scalars g c = rw c.in-Scalars.is c.put_words-in-Scalars.ensures

pub returns-in_default : goal.returns-in_default
returns-in_default g c = search (rules, no_words, added_here, append-nil)
