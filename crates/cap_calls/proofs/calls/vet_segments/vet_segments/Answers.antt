-- Nothing else is reported of the bytes.
use Rattle.std.proofs.Common.{refl}
use Rattle.cap_calls.specs.Slices.{bytes_of}
use Rattle.cap_calls.proofs.SeparateSegments.{one_segments_reported}
use Rattle.cap_calls.proofs.calls.vet_segments.vet_segments.Goals as goal

pub returns-clause-reports : goal.returns-clause-reports
returns-clause-reports c = (c.found_of-found.result, c.found_of-found.ensures, (refl, refl))

pub returns-clause-only : goal.returns-clause-only
returns-clause-only c = λ a r h.
    one_segments_reported c.args.limits.now (bytes_of c.args.segments.now) _ a _ r (returns-clause-reports c) h
