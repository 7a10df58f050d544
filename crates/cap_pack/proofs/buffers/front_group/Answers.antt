-- The group in front, by the tag of its first word.
use Rattle.cap_spec.proofs.ProofNames.{ap, arith, filter, length, not, ◌==◌, ◌∙◌, ◌≢◌, take_rest, zero_bytes, word_bytes}
use Rattle.cap_pack.proofs.GroupTexts.{full_front, marked_front, tag_full, tag_other, tag_zero, zeros_front}
use Rattle.cap_pack.proofs.buffers.front_group.Goals as goal

pub returns-in-0 : goal.returns-in-0
returns-in-0 c =
    let zero = tag_zero c.args.bytes.now c.word_at-word.result c.tag_of_word-tag.result c.word_at-word.ensures (omega (arith, c.word_at-word.type_inv))
    c.tag_of_word-tag.ensures c.in-0.is in
    let front = zeros_front c.args.bytes.now _ c.zero_words.result c.requires (take_rest c.args.bytes.now 8) zero c.zero_words.ensures in
    record { size = front.size; within = (omega arith, omega (arith, front.most), front.within); encoded = front.text; few = omega arith }

pub returns-in-255 : goal.returns-in-255
returns-in-255 c =
    let full = tag_full c.args.bytes.now c.word_at-word.result c.tag_of_word-tag.result c.word_at-word.ensures c.tag_of_word-tag.ensures c.in-255.is in
    let front = full_front c.args.bytes.now _ c.full_words-more.result c.requires (take_rest c.args.bytes.now 8) full c.full_words-more.ensures in
    record { size = front.size; within = (omega arith, omega (arith, front.most), front.within); encoded = front.text; few = omega arith }

pub returns-in_default-clause-size : goal.returns-in_default-clause-size
returns-in_default-clause-size c =
    let other : (c.word_at-word.result ≢ 0)
    × (zero_bytes c.word_at-word.result ≢ 0) = tag_other c.word_at-word.result c.tag_of_word-tag.result c.tag_of_word-tag.ensures (omega arith) (omega arith) in
    let count = c.count_present.ensures.count ∙ ap (λ w. length (filter (λ b. not (b == 0)) (word_bytes w))) c.word_at-word.ensures in
    (marked_front c.args.bytes.now _ c.requires (λ e. other.0 (c.word_at-word.ensures ∙ e)) (λ z. other.1 (ap zero_bytes c.word_at-word.ensures ∙ z)) count).size

pub returns-in_default-clause-encoded : goal.returns-in_default-clause-encoded
returns-in_default-clause-encoded c =
    let other : (c.word_at-word.result ≢ 0)
    × (zero_bytes c.word_at-word.result ≢ 0) = tag_other c.word_at-word.result c.tag_of_word-tag.result c.tag_of_word-tag.ensures (omega arith) (omega arith) in
    let count = c.count_present.ensures.count ∙ ap (λ w. length (filter (λ b. not (b == 0)) (word_bytes w))) c.word_at-word.ensures in
    (marked_front c.args.bytes.now _ c.requires (λ e. other.0 (c.word_at-word.ensures ∙ e)) (λ z. other.1 (ap zero_bytes c.word_at-word.ensures ∙ z)) count).text
