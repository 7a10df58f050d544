use Rattle.cap_spec.proofs.Verdicts.OneVerdict.{denoted_not_wrong}
use Rattle.cap_canon.proofs.objects.followed_at.Goals as goal
use Rattle.cap_spec.proofs.ProofNames.{rules}

pub unreachable-requires : goal.unreachable-requires
unreachable-requires g c = search (rules, denoted_not_wrong)
