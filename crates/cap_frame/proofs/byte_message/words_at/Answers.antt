-- Whole words out of bytes.
use Rattle.cap_spec.proofs.ProofNames.{rules}
use Rattle.cap_frame.proofs.Parts.{part_are_words, part_text}
use Rattle.cap_frame.proofs.byte_message.words_at.Goals as goal

pub returns-clause-text : goal.returns-clause-text
returns-clause-text c = search (rules, part_text c.args.bytes.now c.args.at c.args.words (λ i. c.type_inv.bytes i) c.requires)

pub returns-clause-words : goal.returns-clause-words
returns-clause-words c = part_are_words c.args.bytes.now _ _ (λ i. c.type_inv.bytes i)
