use Rattle.std.proofs.Common.{List, ap, ℕ, ◌∙◌}
use Rattle.sha2.specs.Sha256.{sha256}
use Rattle.cap_spec.specs.Messages.{segment_of}
use Rattle.cap_spec.specs.Plain.{plain_text}
use Rattle.cap_run.proofs.engines.hash.digest_of.Goals as goal

pub returns-then-is_canonical-clause-ok : goal.returns-then-is_canonical-clause-ok
returns-then-is_canonical-clause-ok g c =
    let own = c.is_canonical.ensures.0 (c.if-is_canonical.true) in
    let same = ap g.M.Segments.segments c.message.ensures.value ∙ own.2 in
    (own.0, own.1, c.digest_in_place.ensures ∙ ap (λ (m : List (List ℕ)). sha256 (plain_text (segment_of m 0))) same)

pub returns-in-Err-clause-memory : goal.returns-in-Err-clause-memory
returns-in-Err-clause-memory g c = λ e. (
  (λ is. let differ = rw c.if-is_canonical.false at c.is_canonical.ensures.1 is in cc),
  (let is = c.in-Err.is in c.in-Err.ensures.memory (cc)),
)
