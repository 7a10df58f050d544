-- Some of the literal words.
use Rattle.std.proofs.Common.{List, ap, arith, drop, drop_at, inl, length, length-append, length-drop, length-take-le}
use Rattle.std.proofs.Common.{refl, subst, sym, take, take_at, ℕ, ◌*◌, ◌++◌, ◌-◌, ◌∙◌, ◌≡◌, ◌≤◌}
use Rattle.cap_spec.specs.Plain.{plain_words}
use Rattle.cap_calls.specs.PackedStreams.{GivesWords}
use Rattle.cap_calls.proofs.PackedStreams.{leads_literal, literal_part}
use Rattle.cap_calls.proofs.packed_stream.copy_literal.Goals as goal

pub returns-clause-gives : goal.returns-clause-gives
returns-clause-gives c =
    let bs = c.args.bytes.now in
    let out = c.args.out.now in
    let p = c.args.literal in
    let n = c.min-words.result in
    let given = c.copy_from_slice.new.self in
    let few : 8 * n ≤ length out = omega arith in
    let enough : 8 * n ≤ length bs = omega arith in
    let copied : given ≡ take (8 * n) bs = c.copy_from_slice.ensures.after in
    let long : length given ≡ 8 * n = ap length copied ∙ length-take-le (8 * n) bs enough in
    let words : plain_words (take (8 * n) (given ++ drop (8 * n) out)) ≡ plain_words (take (8 * n) bs) =
    ap plain_words (take_at given (drop (8 * n) out) (8 * n) long ∙ copied) in
    record {
      after = omega arith;
      fits = few;
      long = omega (arith, length-append given (drop (8 * n) out), length-drop (8 * n) out, long, few);
      whole = omega arith;
      leads = subst (λ (ws : List ℕ). GivesWords 0 p bs ws (8 * n) 0 (p - n)) (sym words)
          (leads_literal p n (p - n) bs (omega arith) enough);
      front = refl;
      rest = drop_at given (drop (8 * n) out) (8 * n) long;
      left = record { zeros_fit = omega arith; literal_fit = omega (arith, c.requires); one = inl refl };
    }

pub returns-clause-none : goal.returns-clause-none
returns-clause-none c = λ some space none.
    literal_part c.args.literal c.args.bytes.now some (omega (arith, some, space, none))
