-- Nothing else is reported of the bytes.
use Rattle.cap_calls.proofs.Texts.{one_unpack_reported}
use Rattle.cap_calls.proofs.calls.unpack.unpack.Goals as goal

pub returns-clause-only : goal.returns-clause-only
returns-clause-only c = λ a n new h. one_unpack_reported c.args.bytes.now c.args.out.now _ a _ n _ new
    c.unpack_all.ensures h
