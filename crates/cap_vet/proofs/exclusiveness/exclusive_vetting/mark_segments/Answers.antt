use Rattle.std.proofs.Common.{rules}
use Rattle.cap_vet.proofs.exclusiveness.exclusive_vetting.mark_segments.Goals as goal

pub mark_all-requires-clause-fits : goal.mark_all-requires-clause-fits
mark_all-requires-clause-fits g c = search rules
