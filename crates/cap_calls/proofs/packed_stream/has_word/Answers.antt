-- A whole head has a word.
use Rattle.std.proofs.Common.{[], ap₂, arith, refl, ℕ, ◌∙◌, ◌∷◌, ◌≡◌}
use Rattle.cap_words.proofs.Buffered.{bytes_small}
use Rattle.cap_calls.specs.PackedStreams.{words_to_come}
use Rattle.cap_calls.proofs.PackedStreams.{leads_head, no_head, some_come}
use Rattle.cap_calls.proofs.packed_stream.has_word.Goals as goal

pub returns-in-Some-clause-some : goal.returns-in-Some-clause-some
returns-in-Some-clause-some c = λ _ e.
    let bs = c.args.bytes.now in
    let h = c.in-Some.field-0 in
    let z : 0 ≡ c.args.zeros = omega (arith, c.if-zeros-gt0.false) in
    let p : 0 ≡ c.args.literal = omega (arith, c.if-literal-gt0.false) in
    let leads = leads_head bs h.word _ h.zeros h.plain (bytes_small bs (λ i. c.type_inv.bytes i)) c.in-Some.ensures.whole c.in-Some.ensures.word
    refl c.in-Some.ensures.zeros c.in-Some.ensures.plain in
    some_come 0 0 h.zeros h.plain _ bs (h.word ∷ []) (omega arith) leads (ap₂ (λ (x y : ℕ). words_to_come x y bs) z p ∙ e)

pub returns-in-None-clause-none : goal.returns-in-None-clause-none
returns-in-None-clause-none c = λ _.
    let bs = c.args.bytes.now in
    let z : c.args.zeros ≡ 0 = omega (arith, c.if-zeros-gt0.false) in
    let p : c.args.literal ≡ 0 = omega (arith, c.if-literal-gt0.false) in
    ap₂ (λ (x y : ℕ). words_to_come x y bs) z p ∙ no_head bs (bytes_small bs (λ i. c.type_inv.bytes i)) c.in-None.ensures.none
