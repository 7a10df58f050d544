-- What was written, by the tag.
use Rattle.cap_spec.proofs.ProofNames.{ap, arith, length, refl, sym, ◌∙◌, ◌≡◌, ◌≢◌, zero_bytes}
use Rattle.cap_words.proofs.Buffered.{bytes_small}
use Rattle.cap_pack.proofs.FullWords.{full_word}
use Rattle.cap_pack.proofs.GroupTexts.{full_capacity, full_written, marked_bytes, marked_capacity, marked_written, tag_full}
use Rattle.cap_pack.proofs.GroupTexts.{tag_other, tag_zero, zeros_written}
use Rattle.cap_pack.proofs.buffers.write_group.Goals as goal

pub copy_from_slice-requires-in-255 : goal.copy_from_slice-requires-in-255
copy_from_slice-requires-in-255 c =
    let full = tag_full c.args.bytes.now c.word_at-word.result c.tag_of_word-tag.result c.word_at-word.ensures c.tag_of_word-tag.ensures c.in-255.is in
    let eight : length c.copy_from_slice.new.self ≡ 8 = ap length (c.copy_from_slice.ensures.after ∙ c.bytes_of.ensures.value) in
    (full_capacity c.args.bytes.now c.args.text.now c.copy_from_slice.new.self c.tag_of_word-tag.result _ c.requires.words.0 c.requires.words.2 full
    c.requires.fits eight).1

pub copy_from_slice-requires-in_default : goal.copy_from_slice-requires-in_default
copy_from_slice-requires-in_default c =
    let other : (c.word_at-word.result ≢ 0) × (zero_bytes c.word_at-word.result ≢ 0) =
    tag_other c.word_at-word.result c.tag_of_word-tag.result c.tag_of_word-tag.ensures (omega arith) (omega arith) in
    let bytes = marked_bytes c.word_at-word.result c.count_present-count.result _ c.squeezed.result _ c.count_present-count.ensures.count c.squeezed.ensures refl in
    marked_capacity c.args.bytes.now c.args.text.now _ c.tag_of_word-tag.result c.word_at-word.result c.requires.words.0 c.word_at-word.ensures other.0
    other.1 c.requires.fits bytes

pub returns-in-0 : goal.returns-in-0
returns-in-0 c =
    let zero = tag_zero c.args.bytes.now c.word_at-word.result c.tag_of_word-tag.result c.word_at-word.ensures
    (omega (arith, c.word_at-word.type_inv)) c.tag_of_word-tag.ensures c.in-0.is in
    zeros_written c.args.bytes.now c.args.text.now c.tag_of_word-tag.result _ c.requires.words.0 zero c.requires.fits c.in-0.is refl

pub returns-in-255 : goal.returns-in-255
returns-in-255 c =
    let zeros = full_word c.word_at-word.result (sym c.tag_of_word-tag.ensures ∙ c.in-255.is) in
    full_written c.args.bytes.now c.args.text.now c.copy_from_slice.new.self c.copy_from_slice-in-255.new.self c.tag_of_word-tag.result _ _
    c.word_at-word.result
    (bytes_small c.args.bytes.now (λ i. c.type_inv.bytes i)) c.requires.words.0 c.requires.words.2 c.word_at-word.ensures zeros c.requires.fits c.in-255.is
    (c.copy_from_slice.ensures.after ∙ c.bytes_of.ensures.value) refl c.copy_from_slice-in-255.ensures.after refl

pub returns-in_default : goal.returns-in_default
returns-in_default c =
    let other : (c.word_at-word.result ≢ 0) × (zero_bytes c.word_at-word.result ≢ 0) =
    tag_other c.word_at-word.result c.tag_of_word-tag.result c.tag_of_word-tag.ensures (omega arith) (omega arith) in
    let bytes = marked_bytes c.word_at-word.result c.count_present-count.result _ c.squeezed.result _ c.count_present-count.ensures.count c.squeezed.ensures
    c.copy_from_slice-in_default.ensures.after in
    marked_written c.args.bytes.now c.args.text.now _ c.tag_of_word-tag.result _ c.word_at-word.result c.requires.words.0 c.word_at-word.ensures
    other.0 other.1 c.requires.fits c.tag_of_word-tag.ensures bytes refl
