-- The word is in its eight bytes of the slice.
use Rattle.cap_spec.proofs.Bytes.Plain.{words_exact}
use Rattle.cap_spec.proofs.ProofNames.{List, Some, ap, arith, get_or, length, slice_get, sym, ℕ, ◌*◌, ◌<◌}
use Rattle.cap_spec.proofs.ProofNames.{◌∙◌, plain_words}
use Rattle.cap_frame.proofs.Cuts.{eight_in, number_in, word_at}
use Rattle.cap_calls.proofs.SliceSegments.{count_is, no_slice, slice_size, slice_words}
use Rattle.cap_calls.proofs.slices.SliceMessageSegments.word.Goals as goal

pub slice_bounds-read_u64-end : goal.slice_bounds-read_u64-end
slice_bounds-read_u64-end c =
    let slices = c.args.self.now.slices.now in
    let exists : c.args.s < length slices = omega (arith, c.requires.exists, count_is slices) in
    omega (arith, c.requires.inside, slice_size slices c.args.s exists)

pub read_u64-requires : goal.read_u64-requires
read_u64-requires c =
    let slices = c.args.self.now.slices.now in
    let exists : c.args.s < length slices = omega (arith, c.requires.exists, count_is slices) in
    eight_in (get_or slices c.args.s no_slice).now (8 * c.args.w) (omega (arith, c.requires.inside, slice_size slices c.args.s exists))

pub returns : goal.returns
returns c =
    let slices = c.args.self.now.slices.now in
    let bs = (get_or slices c.args.s no_slice).now in
    let exists : c.args.s < length slices = omega (arith, c.requires.exists, count_is slices) in
    let inside : c.args.w < length (plain_words bs) =
    omega (arith, c.requires.inside, slice_size slices c.args.s exists, words_exact bs) in
    ap (λ (ws : List ℕ). slice_get ws c.args.w) (slice_words slices c.args.s exists)
    ∙ (word_at bs c.args.w inside
    ∙ ap (λ (x : ℕ). Some x) (sym (number_in bs (8 * c.args.w)) ∙ sym c.read_u64.ensures))
