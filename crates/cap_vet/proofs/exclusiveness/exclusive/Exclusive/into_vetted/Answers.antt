use Rattle.cap_vet.specs.Vettings.{message_of}
use Rattle.cap_vet.proofs.MarkingWalk.{disjoint_kept}
use Rattle.cap_vet.proofs.exclusiveness.exclusive.Exclusive.into_vetted.Goals as goal

pub returns-clause-disjoint : goal.returns-clause-disjoint
returns-clause-disjoint g c = disjoint_kept (g.M.Segments.segments (message_of c.args.self.vetted)) c.args.self.disjoint
