-- The table and the words of the buffer after it frame the message.
use Rattle.cap_spec.proofs.ProofNames.{rules}
use Rattle.std.proofs.Common.{Err, arith, length, refl, subst, sum, sym, take, ◌*◌, ◌∙◌, ◌≡◌, ◌≤◌}
use Rattle.cap_spec.specs.Plain.{plain_words}
use Rattle.cap_frame.specs.FrameNames.{cut, Stops, Takes}
use Rattle.cap_frame.proofs.InOneBuffer.{held_joined, held_sizes}
use Rattle.cap_frame.proofs.Reading.{frame_stopped, frame_taken, no_frame, no_memory}
use Rattle.cap_frame.proofs.TablesLeft.{left_contents}
use Rattle.cap_frame.proofs.byte_reader.read_parts.Goals as goal

pub returns-in-Ok-false-clause-read : goal.returns-in-Ok-false-clause-read
returns-in-Ok-false-clause-read g c = search (rules, no_frame)

pub returns-in-Err-clause-read : goal.returns-in-Err-clause-read
returns-in-Err-clause-read g c = no_frame g.S.WordSource (Err c.in-Err.fault) (λ h. absurd (cc)) c.in-Err.ensures.next

pub returns-in_default-clause-read : goal.returns-in_default-clause-read
returns-in_default-clause-read g c = search (rules, no_memory)

pub returns-in-Ok-read_bytes-clause-read : goal.returns-in-Ok-read_bytes-clause-read
returns-in-Ok-read_bytes-clause-read g c =
    let e = c.in-Ok-true.ensures in
    let sizes = c.next_table.new.sizes.items in
    let bytes = c.read_bytes.new.bytes.items in
    let many : c.total-words.result ≡ sum sizes = c.total-words.ensures ∙ rw c.deref.ensures.0 refl in
    let enough : 8 * sum sizes ≤ length bytes = omega (arith, many, c.in-Ok-read_bytes.ensures.within) in
    let words = subst (λ n. Takes g.S.WordSource c.next_table.new.source c.read_bytes.new.source (plain_words (take (8 * n) bytes))) many
    c.in-Ok-read_bytes.ensures.ok in
    let takes = subst (Takes g.S.WordSource c.next_table.new.source c.read_bytes.new.source) (sym (held_joined sizes bytes enough)) words in
    frame_taken g.S.WordSource sizes (cut sizes bytes) (rw c.in-Ok-true.field-0-test at e.next) (e.table (cc)) (e.within (cc)) takes
    (held_sizes sizes bytes enough)
    c.in-Ok-read_bytes.ensures.works c.read_bytes.ensures.reads refl

pub returns-in-Err-read_bytes-clause-read : goal.returns-in-Err-read_bytes-clause-read
returns-in-Err-read_bytes-clause-read g c =
    let e = c.in-Ok-true.ensures in
    let sizes = c.next_table.new.sizes.items in
    let many : c.total-words.result ≡ sum sizes = c.total-words.ensures ∙ rw c.deref.ensures.0 refl in
    let fault = c.in-Err-read_bytes.fault in
    let stops = subst (λ n. Stops g.S.WordSource n c.next_table.new.source c.read_bytes.new.source fault) many c.in-Err-read_bytes.ensures.err in
    frame_stopped g.S.WordSource sizes fault c.frame_fault.result c.frame_fault.ensures (rw c.in-Ok-true.field-0-test at e.next) (e.table (cc))
    (e.within (cc)) stops c.read_bytes.ensures.reads

pub returns-in-Err-read_bytes-clause-left : goal.returns-in-Err-read_bytes-clause-left
returns-in-Err-read_bytes-clause-left g c = search (rules, left_contents)
