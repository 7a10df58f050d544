-- A buffer that is too small, or the copy at the start of the buffer.
use Rattle.cap_spec.proofs.Lemmas.{length_plain, layout_charged}
use Rattle.cap_spec.proofs.ProofNames.{Ok, ap, arith, drop, length, refl, sym, ℕ, ◌*◌, ◌++◌, ◌∙◌, ◌≡◌, plain_text}
use Rattle.cap_vet.specs.Vettings.{message_of}
use Rattle.cap_canon.specs.CopyBuffers.{written}
use Rattle.cap_canon.proofs.Afters.{front_and_after}
use Rattle.cap_canon.proofs.Buffers.{one_buffer}
use Rattle.cap_canon.proofs.Copies.{copy_length, has_tree}
use Rattle.cap_canon.proofs.buffer.canonical_from.Goals as goal

pub returns-in-Err-clause-reports : goal.returns-in-Err-clause-reports
returns-in-Err-clause-reports g c = c.in-Err.ensures.err c.args.out.now refl

pub returns-in-Err-clause-only : goal.returns-in-Err-clause-only
returns-in-Err-clause-only g c = λ reported new h. one_buffer (returns-in-Err-clause-reports g c) h

pub fill_front-words-requires-clause-tree : goal.fill_front-words-requires-clause-tree
fill_front-words-requires-clause-tree g c = let k = c.report.ensures.accepted in rw c.requires (has_tree _ c.report.result k.0 k.1)

pub fill_front-words-requires-clause-length : goal.fill_front-words-requires-clause-length
fill_front-words-requires-clause-length g c =
    let h = c.in_default.ensures.ok in
    rw c.requires (λ t x d f. omega (arith, copy_length t x d h.1 f, h.2))

pub overflow_mul-result : goal.overflow_mul-result
overflow_mul-result g c =
    let m = g.M.Segments.segments (message_of c.args.v.now) in
    let k = c.report.ensures.accepted in
    let counts = rw c.requires at c.fill_front-words.ensures.count in
    omega (arith, counts k.0 _ _ k.1.within.denotes, layout_charged m 0 0 k.0 _ _ k.1.within.denotes, k.1.within.few_words)

pub returns-clause-reports : goal.returns-clause-reports
returns-clause-reports g c =
    let h = c.in_default.ensures.ok in
    let words = h.0 in
    let denotes = h.1.denotes in
    let new = c.fill_front-words.new.out in
    let long = length_plain words in
    let counts = rw c.requires at c.fill_front-words.ensures.count in
    let texts = rw c.requires at c.fill_front-words.ensures.text in
    let afters = rw c.requires at c.fill_front-words.ensures.after in
    let same = ap length h.1.laid in
    let n : c.fill_front-words.result ≡ length words = counts h.1.tree h.1.charge h.1.depth denotes ∙ sym same in
    let whole = front_and_after _ c.args.out.now new _ (texts h.1.tree h.1.charge h.1.depth denotes) (afters h.1.tree h.1.charge h.1.depth denotes) in
    written words h.1 (omega (arith, long, h.2)) (ap Ok (omega (arith, n, long)))
    (whole ∙ (ap (λ ws. plain_text ws ++ drop (8 * length ws) c.args.out.now) (sym h.1.laid)
    ∙ ap (λ (k : ℕ). plain_text words ++ drop k c.args.out.now) (sym long)))

pub returns-clause-only : goal.returns-clause-only
returns-clause-only g c = λ reported new h. one_buffer (returns-clause-reports g c) h
