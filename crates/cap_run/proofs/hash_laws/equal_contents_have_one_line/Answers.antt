use Rattle.std.proofs.Common.{ap, sym, ◌∙◌}
use Rattle.cap_spec.specs.Tree.{Tree}
use Rattle.cap_run.specs.Hashing.{hash_line, hash_of}
use Rattle.cap_run.proofs.hash_laws.equal_contents_have_one_line.Goals as goal

pub returns : goal.returns
returns c = λ n w d v e m k text line b a alone x y same.
    x.line ∙ (ap (λ (t : Tree). hash_line alone n (hash_of t)) same ∙ sym y.line)
