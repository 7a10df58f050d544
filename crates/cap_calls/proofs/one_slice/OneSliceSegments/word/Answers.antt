-- The word is in its eight bytes of the slice.
use Rattle.cap_spec.proofs.Bytes.Plain.{words_exact}
use Rattle.cap_spec.proofs.ProofNames.{List, Some, ap, arith, length, slice_get, sym, ℕ, ◌*◌, ◌<◌, ◌∙◌}
use Rattle.cap_spec.proofs.ProofNames.{plain_words}
use Rattle.cap_frame.proofs.Cuts.{eight_in, number_in, word_at}
use Rattle.cap_calls.proofs.OneSegments.{slice_size, slice_words}
use Rattle.cap_calls.proofs.one_slice.OneSliceSegments.word.Goals as goal

pub slice_bounds-read_u64-end : goal.slice_bounds-read_u64-end
slice_bounds-read_u64-end c =
    omega (arith, c.requires.inside, slice_size c.args.self.now.bytes.now c.args._s c.requires.exists)

pub read_u64-requires : goal.read_u64-requires
read_u64-requires c =
    let bs = c.args.self.now.bytes.now in
    eight_in bs (8 * c.args.w) (omega (arith, c.requires.inside, slice_size bs c.args._s c.requires.exists))

pub returns : goal.returns
returns c =
    let bs = c.args.self.now.bytes.now in
    let inside : c.args.w < length (plain_words bs) =
    omega (arith, c.requires.inside, slice_size bs c.args._s c.requires.exists, words_exact bs) in
    ap (λ (ws : List ℕ). slice_get ws c.args.w) (slice_words bs c.args._s c.requires.exists)
    ∙ (word_at bs c.args.w inside
    ∙ ap (λ (x : ℕ). Some x) (sym (number_in bs (8 * c.args.w)) ∙ sym c.read_u64.ensures))
