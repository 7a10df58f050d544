-- One word more is null.
use Rattle.cap_spec.proofs.ProofNames.{List, arith, drop, subst, sym, take_rest, ℕ, ◌∙◌, ◌≡◌, little_number}
use Rattle.cap_walk.proofs.NullRows.{NullsBefore, no_nulls, one_null}
use Rattle.cap_walk.proofs.null_words.nulls_in.Goals as goal

pub words-init : goal.words-init
words-init c = no_nulls c.args.row.now

pub words-preserved : goal.words-preserved
words-preserved c =
    let rest = c.words.rest.now in
    let null : little_number 8 rest ≡ 0 = sym c.read_u64.ensures ∙ c.if-read_u64-eq0.true in
    let more : NullsBefore c.args.row.now (drop 8 rest) = one_null c.args.row.now rest c.words.invariant (omega (arith, c.words-test.true)) null in
    subst (λ (xs : List ℕ). NullsBefore c.args.row.now xs) (sym (take_rest rest 8)) more

pub returns-clause-null : goal.returns-clause-null
returns-clause-null c = λ k lt. c.words.invariant.null k (omega (arith, lt))
