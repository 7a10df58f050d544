use Rattle.cap_laws.proofs.Trimming.{extends_alike, trimmed_extends}
use Rattle.cap_laws.proofs.canonical.trimming_cuts_zeros_and_nulls.Goals as goal

pub returns-clause-nothing_else : goal.returns-clause-nothing_else
returns-clause-nothing_else c = trimmed_extends

pub returns-clause-all : goal.returns-clause-all
returns-clause-all c = λ t u f x. extends_alike u t f x
