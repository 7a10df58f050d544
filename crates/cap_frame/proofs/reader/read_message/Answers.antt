-- The table and the contents after it frame the message.
use Rattle.cap_spec.proofs.ProofNames.{Err, Ok, false, map, subst, sym, ◌∙◌, IsTable, rules}
use Rattle.cap_frame.proofs.After.{message_of}
use Rattle.cap_frame.proofs.Reading.{frame_stopped, frame_taken, no_frame, no_memory}
use Rattle.cap_frame.proofs.reader.read_message.Goals as goal

pub returns-in-Ok-false : goal.returns-in-Ok-false
returns-in-Ok-false g c = no_frame g.S.WordSource (Ok false) (λ h. absurd (cc)) (rw c.in-Ok-false.field-0-test at c.in-Ok-false.ensures.next)

pub returns-in-Err : goal.returns-in-Err
returns-in-Err g c = no_frame g.S.WordSource (Err c.in-Err.fault) (λ h. absurd (cc)) c.in-Err.ensures.next

pub returns-in_default : goal.returns-in_default
returns-in_default g c = search (rules, no_memory)

pub returns-in-Err-read_contents : goal.returns-in-Err-read_contents
returns-in-Err-read_contents g c =
    let e = c.in-Ok-true.ensures in
    let stops = rw c.deref-2.ensures.0 at c.in-Err-read_contents.ensures.err in
    frame_stopped g.S.WordSource c.next_table.new.sizes.items _ _ c.frame_fault.ensures (rw c.in-Ok-true.field-0-test at e.next) (e.table (cc))
    (e.within (cc)) stops
    c.read_contents.ensures.reads

pub unwrap-requires : goal.unwrap-requires
unwrap-requires g c =
    let table = c.in-Ok-true.ensures.table (cc) in
    let sizes = c.in_default-read_contents.ensures.sizes ∙ c.deref-2.ensures.0 in
    c.new.ensures.some.1 (message_of table.table (map (λ v. v.items) c.read_contents.new.segments.items)
    (subst (IsTable table.table) (sym sizes) table.is_table))

pub returns : goal.returns
returns g c =
    let e = c.in-Ok-true.ensures in
    let read = c.in_default-read_contents.ensures in
    let held = rw c.unwrap.ensures at c.new.ensures.segments in
    frame_taken g.S.WordSource c.next_table.new.sizes.items (map (λ v. v.items) c.read_contents.new.segments.items)
    (rw c.in-Ok-true.field-0-test at e.next) (e.table (cc))
    (e.within (cc)) read.ok (read.sizes ∙ c.deref-2.ensures.0) read.works c.read_contents.ensures.reads held
