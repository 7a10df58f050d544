-- Nothing else is reported of the bytes.
use Rattle.cap_calls.proofs.Packed.{one_pack_reported}
use Rattle.cap_calls.proofs.calls.pack.pack.Goals as goal

pub returns-clause-only : goal.returns-clause-only
returns-clause-only c = λ a n new h. one_pack_reported c.args.bytes.now c.args.out.now _ a _ n _ new c.pack_all.ensures.reports h
