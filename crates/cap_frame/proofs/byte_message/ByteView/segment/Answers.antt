-- The words of a segment are where the table of starts says.
use Rattle.cap_spec.proofs.ProofNames.{ap, arith, drop, length, slice_index_or, slice_range, take, take_all, ℕ, ◌*◌, ◌+◌}
use Rattle.cap_spec.proofs.ProofNames.{◌-◌, ◌<◌, ◌∙◌, ◌≡◌, segment_of, plain_text, plain_words, rules}
use Rattle.cap_frame.specs.Bytes.{cut}
use Rattle.cap_frame.proofs.Cuts.{cut_length, starts_length}
use Rattle.cap_frame.proofs.Parts.{part_facts}
use Rattle.cap_frame.proofs.byte_message.ByteView.segment.Goals as goal

pub bounds-self-s : goal.bounds-self-s
bounds-self-s c = search (rules, starts_length, cut_length)

pub words_at-requires : goal.words_at-requires
words_at-requires c =
    let m = c.args.self.now in
    let l : c.args.s < length (cut m.sizes.now m.bytes.now) = omega (arith, c.count.ensures, c.if-s-count.false) in
    let p = part_facts m.sizes.now m.starts.now m.bytes.now c.args.s 0 c.len.result m.starts_are m.inside l (omega (arith, c.len.ensures)) in
    omega (arith, p.sums, m.inside)

pub returns-clause-words : goal.returns-clause-words
returns-clause-words c =
    let m = c.args.self.now in
    let own = segment_of (cut m.sizes.now m.bytes.now) c.args.s in
    let n = c.len.result in
    let l : c.args.s < length (cut m.sizes.now m.bytes.now) = omega (arith, c.count.ensures, c.if-s-count.false) in
    let p = part_facts m.sizes.now m.starts.now m.bytes.now c.args.s 0 n m.starts_are m.inside l (omega (arith, c.len.ensures)) in
    let at = slice_index_or m.starts.now c.args.s 0 in
    let same : at ≡ at + 0 = omega arith in
    let all : slice_range own 0 (0 + n) ≡ own = take_all (0 + n - 0) own (omega (arith, c.len.ensures)) in
    ap plain_words c.words_at.ensures.part
    ∙ (ap (λ (k : ℕ). plain_words (take (8 * n) (drop (8 * k) m.bytes.now))) same ∙ (p.encoded ∙ all))

pub returns-clause-text : goal.returns-clause-text
returns-clause-text c =
    let m = c.args.self.now in
    let own = segment_of (cut m.sizes.now m.bytes.now) c.args.s in
    let n = c.len.result in
    let l : c.args.s < length (cut m.sizes.now m.bytes.now) = omega (arith, c.count.ensures, c.if-s-count.false) in
    let p = part_facts m.sizes.now m.starts.now m.bytes.now c.args.s 0 n m.starts_are m.inside l (omega (arith, c.len.ensures)) in
    let at = slice_index_or m.starts.now c.args.s 0 in
    let same : at ≡ at + 0 = omega arith in
    let all : slice_range own 0 (0 + n) ≡ own = take_all (0 + n - 0) own (omega (arith, c.len.ensures)) in
    c.words_at.ensures.text
    ∙ ap plain_text (ap plain_words c.words_at.ensures.part
    ∙ (ap (λ (k : ℕ). plain_words (take (8 * n) (drop (8 * k) m.bytes.now))) same ∙ (p.encoded ∙ all)))
