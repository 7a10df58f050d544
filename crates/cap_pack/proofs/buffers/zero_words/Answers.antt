-- One zero word more, another word, and as many as there may be.
use Rattle.cap_spec.proofs.Lemmas.{words_exact, front-le}
use Rattle.cap_spec.proofs.ProofNames.{arith, eq-eqb, length, ne_eqb, sym, take, ◌*◌, ◌==◌, ◌∙◌, ◌≡◌, ◌≤◌, zero_run, plain_words}
use Rattle.cap_pack.proofs.GroupTexts.{left_after, left_first, left_length}
use Rattle.cap_pack.proofs.Runs.{run_ends, run_more}
use Rattle.cap_pack.proofs.buffers.zero_words.Goals as goal

pub words-preserved : goal.words-preserved
words-preserved c =
    let bytes = c.args.bytes.now in
    let far = c.words.invariant in
    let there : 8 * c.min-most.result ≤ length bytes = omega (arith, far.most) in
    let same = left_first bytes c.words.rest.now c.min-most.result c.words.count there far.left c.words-test.true in
    let long = left_length bytes c.words.rest.now c.min-most.result c.words.count there far.left in
    record {
      most = far.most;
      within = omega (arith, c.words-test.true, long);
      left = left_after (take (8 * c.min-most.result) bytes) c.words.rest.now c.words.count far.left;
      run = run_more (λ x. x == 0) c.words.count (plain_words bytes) (omega (arith, words_exact bytes, far.most, c.words-test.true, long))
          (eq-eqb _ 0 (sym same ∙ sym c.word_at.ensures ∙ c.if-word_at-eq0.true)) far.run;
    }

pub returns-else-word_at-eq0 : goal.returns-else-word_at-eq0
returns-else-word_at-eq0 c =
    let bytes = c.args.bytes.now in
    let far = c.words.invariant in
    let there : 8 * c.min-most.result ≤ length bytes = omega (arith, far.most) in
    let same = left_first bytes c.words.rest.now c.min-most.result c.words.count there far.left c.words-test.true in
    let long = left_length bytes c.words.rest.now c.min-most.result c.words.count there far.left in
    let all : c.words.count ≡ zero_run (plain_words bytes) =
    run_ends (λ x. x == 0) c.words.count (plain_words bytes) (λ _. ne_eqb _ 0 (λ e. c.if-word_at-eq0.false (c.word_at.ensures ∙ same ∙ e))) far.run in
    omega (arith, all, far.most, c.words-test.true, long)

pub returns-after-words : goal.returns-after-words
returns-after-words c =
    let bytes = c.args.bytes.now in
    let words = plain_words bytes in
    let far = c.words.invariant in
    let there : 8 * c.min-most.result ≤ length bytes = omega (arith, far.most) in
    let long = left_length bytes c.words.rest.now c.min-most.result c.words.count there far.left in
    let few : zero_run words ≤ length words = front-le (λ x. x == 0) words in
    omega (arith, few, far.run, far.most, far.within, words_exact bytes, c.words-test.false, long)
