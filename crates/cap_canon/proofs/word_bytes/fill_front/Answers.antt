-- The bytes of those words.
use Rattle.cap_spec.proofs.ProofNames.{arith, length, ◌*◌, ◌≤◌, layout, trim}
use Rattle.cap_words.proofs.Buffered.{bytes_small}
use Rattle.cap_canon.proofs.Overs.{first_text}
use Rattle.cap_canon.proofs.word_bytes.fill_front.Goals as goal

pub returns-clause-text : goal.returns-clause-text
returns-clause-text g c = λ t x d h.
    let new = c.write_words.new.out in
    let inside : 8 * length (layout (trim t)) ≤ length new = omega (arith, c.write_words.auto.out, c.requires.length t x d h) in
    first_text (layout (trim t)) new (bytes_small new (λ i. c.type_inv.out i)) inside (c.write_words.ensures.words t x d h)
