use Rattle.cap_spec.proofs.ProofNames.{List, [], ap, arith, length, length-take-le, replicate, take, ℕ, ◌%◌, ◌*◌, ◌++◌}
use Rattle.cap_spec.proofs.ProofNames.{◌+◌, ◌-◌, ◌∙◌, ◌≡◌, put_mid, plain_words}
use Rattle.cap_words.proofs.Filling.{plain_join}
use Rattle.cap_words.proofs.Turns.{filled, filled_within}
use Rattle.cap_pack.proofs.BufferedBytes.{gives_both, gives_plain, gives_zeros, zeros_are_words}
use Rattle.cap_pack.proofs.buffered.run.Goals as goal

pub returns-then-given-zeros : goal.returns-then-given-zeros
returns-then-given-zeros c =
    let n = c.zero_words-given.result in
    let words : plain_words (take (8 * n) c.zero_words-given.new.out) ≡ replicate n 0 = ap plain_words c.zero_words-given.ensures.zeros ∙ zeros_are_words n in
    record {
      within = omega arith;
      fits = c.zero_words-given.ensures.fits;
      whole = omega arith;
      gives = rw words (gives_zeros c.args.zeros n (c.args.zeros - n) c.args.plain (omega (arith, c.zero_words-given.ensures.within)));
    }

pub returns : goal.returns
returns c =
    let n = c.zero_words-given.result in
    let m = c.plain_words-copied.result in
    let out = c.zero_words-given.new.out in
    let given = c.plain_words-copied.new.out in
    let copied = take (8 * m) c.args.from.now in
    let buffer = put_mid (8 * n) (length out - 8 * n) out given in
    let zeros : plain_words (take (8 * n) out) ≡ replicate n 0 = ap plain_words c.zero_words-given.ensures.zeros ∙ zeros_are_words n in
    let eight : 8 * (n + m) ≡ 8 * n + 8 * m = omega arith in
    let front : length (take (8 * n) out) % 8 ≡ 0 = omega (arith, length-take-le (8 * n) out c.zero_words-given.ensures.fits) in
    let bytes : take (8 * (n + m)) buffer ≡ take (8 * n) out ++ copied =
    ap (λ (k : ℕ). take k buffer) eight
    ∙ (filled _ out given c.zero_words-given.ensures.fits c.plain_words-copied.ensures.fits
    ∙ ap (λ (l : List ℕ). take (8 * n) out ++ l) c.plain_words-copied.ensures.copied) in
    let words : plain_words (take (8 * (n + m)) buffer) ≡ replicate n 0 ++ plain_words copied =
    ap plain_words bytes ∙ (plain_join (take (8 * n) out) copied front ∙ ap (λ (l : List ℕ). l ++ plain_words copied) zeros) in
    let long : length copied ≡ 8 * m = length-take-le (8 * m) c.args.from.now c.plain_words-copied.ensures.held in
    record {
      within = c.plain_words-copied.ensures.held;
      fits = omega (arith, filled_within (length out - 8 * n) out given c.zero_words-given.ensures.fits c.plain_words-copied.ensures.fits);
      whole = omega arith;
      gives = rw words (gives_both c.args.zeros c.args.plain 0 c.args.plain 0 (c.args.plain - m) [] copied (replicate n 0) (plain_words copied)
          (gives_zeros c.args.zeros n 0 c.args.plain (omega (arith, c.zero_words-given.ensures.within)))
          (gives_plain c.args.plain m (c.args.plain - m) copied (omega (arith, c.plain_words-copied.ensures.within)) long));
    }
