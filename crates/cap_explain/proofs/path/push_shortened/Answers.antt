-- Each end has at most eight steps, which take at most 12 bytes each.
use Rattle.std.proofs.Common.{List, ap, arith, codes, drop, length, length-append, take, ◌+◌, ◌-◌, ◌∙◌, ◌≡◌, ◌≤◌}
use Rattle.std.proofs.lemmas.List.{length-drop, length-take}
use Rattle.cap_explain.proofs.path.push_shortened.Goals as goal

first_few : {A : Type 0} (xs : List A) → length (take 8 xs) ≤ 8
first_few xs = omega (arith, length-take 8 xs)

last_few : {A : Type 0} (xs : List A) → length (take (length xs - (length xs - 8)) (drop (length xs - 8) xs)) ≤ 8
last_few xs = omega (arith, length-take (length xs - (length xs - 8)) (drop (length xs - 8) xs), length-drop (length xs - 8) xs)

pub push_text-requires : goal.push_text-requires
push_text-requires c = omega (
  arith,
  c.requires.many,
  c.requires.fits,
  c.push_steps.ensures.few,
  c.push_named.ensures.few,
  first_few c.args.steps.now,
)

pub push_steps-requires-2 : goal.push_steps-requires-2
push_steps-requires-2 c =
    let after : length c.push_text.new.self ≡ length c.push_named.new.self + 9 =
    ap length c.push_text.ensures ∙ length-append c.push_named.new.self (codes " steps ..") in
    omega (
      arith,
      after,
      c.requires.many,
      c.requires.fits,
      c.push_steps.ensures.few,
      c.push_named.ensures.few,
      first_few c.args.steps.now,
      last_few c.args.steps.now,
    )

pub returns-clause-few : goal.returns-clause-few
returns-clause-few c =
    let after : length c.push_text.new.self ≡ length c.push_named.new.self + 9 =
    ap length c.push_text.ensures ∙ length-append c.push_named.new.self (codes " steps ..") in
    omega (
      arith,
      after,
      c.requires.many,
      c.push_steps.ensures.few,
      c.push_named.ensures.few,
      c.push_steps-2.ensures.few,
      first_few c.args.steps.now,
      last_few c.args.steps.now,
    )
