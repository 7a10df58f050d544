-- One more word with at most one zero byte, another word, and as many as there may be.
use Rattle.cap_spec.proofs.Lemmas.{words_exact, front-le}
use Rattle.cap_spec.proofs.ProofNames.{ap, arith, le-leb, leb, length, take, ◌*◌, ◌∙◌, ◌≡◌, ◌≤◌, lt-leb, full_run, zero_bytes, plain_words}
use Rattle.cap_pack.proofs.GroupTexts.{left_after, left_first, left_length}
use Rattle.cap_pack.proofs.Runs.{run_ends, run_more}
use Rattle.cap_pack.proofs.buffers.full_words.Goals as goal

pub words-preserved : goal.words-preserved
words-preserved c =
    let bytes = c.args.bytes.now in
    let far = c.words.invariant in
    let there : 8 * c.min-most.result ≤ length bytes = omega (arith, far.most) in
    let same = left_first bytes c.words.rest.now c.min-most.result c.words.count there far.left c.words-test.true in
    let long = left_length bytes c.words.rest.now c.min-most.result c.words.count there far.left in
    record {
      most = far.most;
      within = omega (arith, c.words-test.true, long);
      left = left_after (take (8 * c.min-most.result) bytes) c.words.rest.now c.words.count far.left;
      run =
          run_more (λ x. leb (zero_bytes x) 1) c.words.count (plain_words bytes) (omega (arith, words_exact bytes, far.most, c.words-test.true, long))
          (le-leb _ 1 (omega (arith, c.count_zeros.ensures, ap zero_bytes (c.word_at.ensures ∙ same), c.if-count_zeros-le1.true))) far.run;
    }

pub returns-else-count_zeros-le1 : goal.returns-else-count_zeros-le1
returns-else-count_zeros-le1 c =
    let bytes = c.args.bytes.now in
    let far = c.words.invariant in
    let there : 8 * c.min-most.result ≤ length bytes = omega (arith, far.most) in
    let same = left_first bytes c.words.rest.now c.min-most.result c.words.count there far.left c.words-test.true in
    let long = left_length bytes c.words.rest.now c.min-most.result c.words.count there far.left in
    let all : c.words.count ≡ full_run (plain_words bytes) =
    run_ends (λ x. leb (zero_bytes x) 1) c.words.count (plain_words bytes)
    (λ _. lt-leb _ 1 (omega (arith, c.count_zeros.ensures, ap zero_bytes (c.word_at.ensures ∙ same), c.if-count_zeros-le1.false))) far.run in
    omega (arith, all, far.most, c.words-test.true, long)

pub returns-after-words : goal.returns-after-words
returns-after-words c =
    let bytes = c.args.bytes.now in
    let words = plain_words bytes in
    let far = c.words.invariant in
    let there : 8 * c.min-most.result ≤ length bytes = omega (arith, far.most) in
    let long = left_length bytes c.words.rest.now c.min-most.result c.words.count there far.left in
    let few : full_run words ≤ length words = front-le (λ x. leb (zero_bytes x) 1) words in
    omega (arith, few, far.run, far.most, far.within, words_exact bytes, c.words-test.false, long)
