use Rattle.cap_ptr.proofs.NearObjects.{bits_words, few_words}
use Rattle.cap_ptr.proofs.shapes.list_words.Goals as goal

pub returns-clause-value : goal.returns-clause-value
returns-clause-value c = rw (c.from.ensures, c.from-2.ensures) (bits_words c.args.code c.args.size c.element_bits.result c.element_bits.ensures.value)

pub returns-clause-few : goal.returns-clause-few
returns-clause-few c = rw (c.from.ensures, c.from-2.ensures) (few_words c.element_bits.result c.args.size c.element_bits.ensures.few)
