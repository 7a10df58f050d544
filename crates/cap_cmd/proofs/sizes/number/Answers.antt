use Rattle.std.proofs.Common.{ap, arith, get_or, suc, take, ℕ, ◌*◌, ◌+◌, ◌-◌, ◌∙◌, ◌≡◌}
use Rattle.cap_cmd.specs.Sizes.{number_after}
use Rattle.cap_cmd.proofs.Digits.{number_more}
use Rattle.cap_cmd.proofs.sizes.number.Goals as goal

pub loop-count-preserved : goal.loop-count-preserved
loop-count-preserved c =
    let ds = c.args.digits.now in
    let k = c.loop-count.count in
    let same : k + 1 ≡ suc k = omega arith in
    let next : number_after 0 (take (k + 1) ds) ≡ number_after 0 (take k ds) * 10 + (get_or ds k 0 - 48) =
    ap (λ (m : ℕ). number_after 0 (take m ds)) same ∙ number_more 0 ds k c.loop-count-test.true in
    record {
      within = omega (arith, c.loop-count-test.true);
      value = omega (
        arith,
        next,
        c.saturating_add-number.ensures,
        c.saturating_mul.ensures,
        c.saturating_sub.ensures,
        c.from-digit.ensures,
        c.loop-count.invariant.value,
      );
    }
