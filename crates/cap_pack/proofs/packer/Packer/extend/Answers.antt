use Rattle.cap_spec.proofs.ProofNames.{rules}
use Rattle.std.proofs.Common.{ap, arith, refl, sym, take, ◌++◌, ◌+◌, ◌∙◌, ◌∷◌}
use Rattle.cap_pack.specs.Holding.{held}
use Rattle.cap_pack.proofs.GroupsEncoded.{full_apart, full_one, plain_extended, zeros_apart, zeros_joined, zeros_one}
use Rattle.cap_pack.proofs.packer.Packer.extend.Goals as goal

pub invariant_of-self : goal.invariant_of-self
invariant_of-self g c = record { one_group = zeros_one (c.in-Zeros.more + c.min-count.result) (omega (arith, c.min-count.ensures)); full_first = refl }

pub returns-in-Zeros-clause-joined : goal.returns-in-Zeros-clause-joined
returns-in-Zeros-clause-joined g c = search (rules, zeros_joined)

pub returns-in-Zeros-clause-apart : goal.returns-in-Zeros-clause-apart
returns-in-Zeros-clause-apart g c =
    zeros_apart c.in-Zeros.more c.min-count.result c.args.words.now (omega (arith, c.min-count.ensures))
    (λ l. omega (arith, l, c.zero_run.ensures, c.min-count.ensures))

pub invariant_of-self-in-Plain : goal.invariant_of-self-in-Plain
invariant_of-self-in-Plain g c =
    let s = c.args.self.now in
    let x =
    plain_extended s.group s.words c.copy_from_slice.new.self c.args.words.now c.in-Plain.first c.in-Plain.more c.min-count-in-Plain.result _
    (c.in-Plain.more + c.min-count-in-Plain.result)
    c.in-Plain.is s.one_group s.full_first (omega arith) (omega (arith, c.min-count-in-Plain.ensures)) refl c.copy_from_slice.ensures.after
    (omega (arith, c.full_run.ensures, c.min-count-in-Plain.ensures)) in
    record { one_group = full_one c.in-Plain.first _ x.zero x.full (omega (arith, x.many, c.min-count-in-Plain.ensures)); full_first = x.zero }

pub returns-in-Plain-clause-joined : goal.returns-in-Plain-clause-joined
returns-in-Plain-clause-joined g c =
    let s = c.args.self.now in
    let x =
    plain_extended s.group s.words c.copy_from_slice.new.self c.args.words.now c.in-Plain.first c.in-Plain.more c.min-count-in-Plain.result _
    (c.in-Plain.more + c.min-count-in-Plain.result)
    c.in-Plain.is s.one_group s.full_first (omega arith) (omega (arith, c.min-count-in-Plain.ensures)) refl c.copy_from_slice.ensures.after
    (omega (arith, c.full_run.ensures, c.min-count-in-Plain.ensures)) in
    ap (λ t. c.in-Plain.first ∷ t) x.whole ∙ ap (λ v. held v s.words ++ take c.min-count-in-Plain.result c.args.words.now) (sym c.in-Plain.is)

pub returns-in-Plain-clause-apart : goal.returns-in-Plain-clause-apart
returns-in-Plain-clause-apart g c =
    let s = c.args.self.now in
    let x =
    plain_extended s.group s.words c.copy_from_slice.new.self c.args.words.now c.in-Plain.first c.in-Plain.more c.min-count-in-Plain.result _
    (c.in-Plain.more + c.min-count-in-Plain.result)
    c.in-Plain.is s.one_group s.full_first (omega arith) (omega (arith, c.min-count-in-Plain.ensures)) refl c.copy_from_slice.ensures.after
    (omega (arith, c.full_run.ensures, c.min-count-in-Plain.ensures)) in
    full_apart c.in-Plain.first c.min-count-in-Plain.result _ c.args.words.now x.zero x.full (omega (arith, x.many, c.min-count-in-Plain.ensures))
    (λ l. omega (arith, l, x.many, c.full_run.ensures, c.min-count-in-Plain.ensures))
