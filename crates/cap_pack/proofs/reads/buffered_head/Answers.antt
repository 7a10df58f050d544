use Rattle.std.proofs.Common.{arith}
use Rattle.cap_pack.proofs.Turns.{buffered_taken}
use Rattle.cap_pack.proofs.reads.buffered_head.Goals as goal

pub returns-clause-head : goal.returns-clause-head
returns-clause-head g c =
    let h = c.in_ok-head.ensures in
    buffered_taken c.held-held.result.now c.head_len-len.ensures.rest (omega (arith, c.head_len-len.ensures.few)) h.word h.zeros h.plain
    (rw c.held-held.ensures.held c.skip.ensures.bytes) (omega (arith, c.saturating_add-bytes.ensures))
