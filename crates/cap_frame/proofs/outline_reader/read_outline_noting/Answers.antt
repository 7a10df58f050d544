-- The table and the contents after it frame the message.
use Rattle.cap_spec.proofs.ProofNames.{rules}
use Rattle.std.proofs.Common.{Err, sym}
use Rattle.cap_frame.proofs.Reading.{frame_stopped, frame_taken, no_frame}
use Rattle.cap_frame.proofs.TablesLeft.{left_contents, left_sums}
use Rattle.cap_frame.proofs.outline_reader.read_outline_noting.Goals as goal

pub returns-in-Ok-false-clause-read : goal.returns-in-Ok-false-clause-read
returns-in-Ok-false-clause-read g c = search (rules, no_frame)

pub returns-in-Err-clause-read : goal.returns-in-Err-clause-read
returns-in-Err-clause-read g c = no_frame g.S.WordSource (Err c.in-Err.fault) (λ h. absurd (cc)) c.in-Err.ensures.next

pub returns-in-Ok-clause-read : goal.returns-in-Ok-clause-read
returns-in-Ok-clause-read g c =
    let e = c.in-Ok-true.ensures in
    let kept = rw c.deref-2.ensures.0 at c.in-Ok.ensures.ok in
    frame_taken g.S.WordSource c.next_table.new.sizes.items kept.0 (rw c.in-Ok-true.field-0-test at e.next) (e.table (cc))
    (e.within (cc)) kept.1 kept.2
    c.in-Ok.ensures.works c.skip_contents.ensures.reads (record { sizes = sym kept.2; root = sym kept.3 })

pub returns-in-Err-skip_contents-clause-read : goal.returns-in-Err-skip_contents-clause-read
returns-in-Err-skip_contents-clause-read g c =
    let e = c.in-Ok-true.ensures in
    let stops = rw c.deref-2.ensures.0 at c.in-Err-skip_contents.ensures.err in
    frame_stopped g.S.WordSource c.next_table.new.sizes.items _ _ c.frame_fault-fault.ensures (rw c.in-Ok-true.field-0-test at e.next) (e.table (cc))
    (e.within (cc)) stops
    c.skip_contents.ensures.reads

pub returns-in-Err-clause-table : goal.returns-in-Err-clause-table
returns-in-Err-clause-table g c = search (rules, left_sums)

pub returns-in-Err-skip_contents-clause-table : goal.returns-in-Err-skip_contents-clause-table
returns-in-Err-skip_contents-clause-table g c = search (rules, left_contents, left_sums)
