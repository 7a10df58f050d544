-- The value is where its number says.
use Rattle.std.proofs.lemmas.Option.{get_or_from_slice_get}
use Rattle.cap_spec.proofs.ProofNames.{List, Some, refl, slice_get, value_at, ℕ, ◌%◌, ◌*◌, ◌+◌, ◌/◌, ◌∙◌, ◌≡◌}
use Rattle.cap_spec.specs.Words.{field}
use Rattle.cap_vet.proofs.nodes.view.View.value.Goals as goal

value_of : (ws : List ℕ) (b i n x y z word r : ℕ) → slice_get ws (b + (x * y) / 64) ≡ Some word → x ≡ i → y ≡ n
    → z ≡ n → r ≡ field word ((x * y) % 64) z → r ≡ value_at ws b n i
value_of ws b i n x y z word r h e f g k =
    let at = get_or_from_slice_get ws (b + (x * y) / 64) word 0 h in k ∙ rw (← at, e, f, g) refl

pub returns : goal.returns
returns g c =
    let size = c.element_bits-size.ensures.value in
    value_of _ c.args.self.now.found.place.start c.args.i _ c.from.result c.from-2.result c.element_bits-size.result
    c.word_at-word.result c.bits.result c.word_at-word.ensures c.from.ensures (c.from-2.ensures ∙ size) size
    c.bits.ensures
