-- What a head says uses its own bytes.
use Rattle.std.proofs.Common.{arith, length-drop, slice_index, ◌∙◌}
use Rattle.cap_pack.specs.Course.{first_word, plain_of, zeros_of}
use Rattle.cap_pack.proofs.Heads.{by_front, first_word-append, plain_of-append, zeros_of-append}
use Rattle.cap_pack.proofs.head.front_head.Goals as goal

pub returns-clause-word : goal.returns-clause-word
returns-clause-word c =
    c.head_of.ensures.word
    ∙ by_front (first_word (slice_index c.args.bytes.now 0)) _ _ _ (λ xs more e. first_word-append _ xs more (e ∙ c.head_len-len.ensures.rest))
    (omega (arith, length-drop 1 c.args.bytes.now, c.if-bytes-len.false)) c.after_tag.ensures

pub returns-clause-zeros : goal.returns-clause-zeros
returns-clause-zeros c =
    c.head_of.ensures.zeros
    ∙ by_front (zeros_of (slice_index c.args.bytes.now 0)) _ _ _ (λ xs more e. zeros_of-append _ xs more (e ∙ c.head_len-len.ensures.rest))
    (omega (arith, length-drop 1 c.args.bytes.now, c.if-bytes-len.false)) c.after_tag.ensures

pub returns-clause-plain : goal.returns-clause-plain
returns-clause-plain c =
    c.head_of.ensures.plain
    ∙ by_front (plain_of (slice_index c.args.bytes.now 0)) _ _ _ (λ xs more e. plain_of-append _ xs more (e ∙ c.head_len-len.ensures.rest))
    (omega (arith, length-drop 1 c.args.bytes.now, c.if-bytes-len.false)) c.after_tag.ensures
