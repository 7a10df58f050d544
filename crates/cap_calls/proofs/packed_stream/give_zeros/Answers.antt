-- Some of the zero words.
use Rattle.std.proofs.Common.{List, ap, arith, drop, drop_at, inr, length, length-append, length-drop, length-take-le}
use Rattle.std.proofs.Common.{refl, replicate, subst, sym, take, take_at, ℕ, ◌*◌, ◌++◌, ◌-◌, ◌∙◌, ◌≡◌, ◌≤◌}
use Rattle.cap_spec.specs.Plain.{plain_words}
use Rattle.cap_pack.proofs.BufferedBytes.{zeros_are_words}
use Rattle.cap_calls.specs.PackedStreams.{GivesWords}
use Rattle.cap_calls.proofs.PackedStreams.{leads_zeros}
use Rattle.cap_calls.proofs.packed_stream.give_zeros.Goals as goal

pub returns-clause-gives : goal.returns-clause-gives
returns-clause-gives c =
    let bs = c.args.bytes.now in
    let out = c.args.out.now in
    let z = c.args.zeros in
    let n = c.min-words.result in
    let given = c.fill.new.self in
    let few : 8 * n ≤ length out = omega arith in
    let zeros : given ≡ replicate (8 * n) 0 =
    c.fill.ensures.after (λ y h. h) ∙ ap (λ (k : ℕ). replicate k 0) (length-take-le (8 * n) out few) in
    let long : length given ≡ 8 * n = omega (arith, c.fill.ensures.len, length-take-le (8 * n) out few) in
    let front : take (8 * n) (given ++ drop (8 * n) out) ≡ given = take_at given (drop (8 * n) out) (8 * n) long in
    let words : plain_words (take (8 * n) (given ++ drop (8 * n) out)) ≡ replicate n 0 =
    ap plain_words (front ∙ zeros) ∙ zeros_are_words n in
    record {
      after = omega arith;
      fits = few;
      long = omega (arith, length-append given (drop (8 * n) out), length-drop (8 * n) out, long, few);
      whole = omega arith;
      leads = subst (λ (ws : List ℕ). GivesWords z 0 bs ws 0 (z - n) 0) (sym words) (leads_zeros z n (z - n) 0 bs (omega arith));
      front = refl;
      rest = drop_at given (drop (8 * n) out) (8 * n) long;
      left = record { zeros_fit = omega (arith, c.requires); literal_fit = omega arith; one = inr refl };
    }
