-- What is said after the first word, seen from before it.
use Rattle.cap_spec.proofs.ProofNames.{Err, Ok, arith, refl, subst, sym, true, ◌∙◌}
use Rattle.cap_spec.proofs.ProofNames.{rules}
use Rattle.cap_frame.specs.FrameNames.{limit_of, Faults}
use Rattle.cap_frame.proofs.After.{after_first, table_whole}
use Rattle.cap_frame.proofs.Reading.{gave, next_first}
use Rattle.cap_frame.proofs.TablesLeft.{left_inside, left_none, left_table}
use Rattle.cap_frame.proofs.Taking.{reads_none, reads_one, usable_both}
use Rattle.cap_frame.proofs.table.next_table.Goals as goal

pub returns-in-Ok-None-clause-next : goal.returns-in-Ok-None-clause-next
returns-in-Ok-None-clause-next g c = search (rules, reads_one)

pub returns-in-Err-clause-next : goal.returns-in-Err-clause-next
returns-in-Err-clause-next g c = search (rules, reads_one)

pub returns-then-last-ge512-clause-next : goal.returns-then-last-ge512-clause-next
returns-then-last-ge512-clause-next g c = search (rules, gave, next_first, reads_none)

pub returns-in-Err-read_sizes-clause-next : goal.returns-in-Err-read_sizes-clause-next
returns-in-Err-read_sizes-clause-next g c =
    let e = c.next.ensures in
    let old = c.args.source.now in
    let mid = c.next.new.self in
    let first = c.in-Ok-Some.first in
    let f = gave g.S.WordSource old mid first c.next.result (cc) e.words e.word e.stays e.for_good e.reads e.ok in
    let new = c.read_sizes.new.source in
    let faults = after_first g.S.WordSource (limit_of c.args.limit) first old mid new _ (omega arith) f.takes f.usable c.in-Err-read_sizes.ensures.err in
    next_first g.S.WordSource (limit_of c.args.limit) old mid new first (Err _) f c.read_sizes.ensures.reads tt
    (subst (Faults g.S.WordSource (limit_of c.args.limit) old new) (sym c.frame_fault-in-Err-read_sizes.ensures) faults) (λ h. absurd (cc))

pub returns-then-words-clause-next : goal.returns-then-words-clause-next
returns-then-words-clause-next g c =
    let e = c.next.ensures in
    let old = c.args.source.now in
    let mid = c.next.new.self in
    let first = c.in-Ok-Some.first in
    let f = gave g.S.WordSource old mid first c.next.result (cc) e.words e.word e.stays e.for_good e.reads e.ok in
    let new = c.read_sizes.new.source in
    let sizes = c.read_sizes.new.sizes.items in
    let read = c.in_default.ensures in
    let table = table_whole g.S.WordSource first old mid new sizes f.takes read.ok in
    next_first g.S.WordSource (limit_of c.args.limit) old mid new first (Err _) f c.read_sizes.ensures.reads tt
    ((sizes, table, c.total-words.ensures ∙ rw c.deref.ensures.0 refl, omega arith), usable_both g.S.WordSource old mid new f.usable read.works)
    (λ h. absurd (cc))

pub returns-clause-next : goal.returns-clause-next
returns-clause-next g c =
    let e = c.next.ensures in
    let old = c.args.source.now in
    let mid = c.next.new.self in
    let first = c.in-Ok-Some.first in
    let f = gave g.S.WordSource old mid first c.next.result (cc) e.words e.word e.stays e.for_good e.reads e.ok in
    next_first g.S.WordSource (limit_of c.args.limit) old mid c.read_sizes.new.source first (Ok true) f c.read_sizes.ensures.reads c.in_default.ensures.works
    tt (λ h. absurd (cc))

pub returns-clause-table : goal.returns-clause-table
returns-clause-table g c = search (rules, gave, table_whole)

pub returns-in-Err-clause-left : goal.returns-in-Err-clause-left
returns-in-Err-clause-left g c = search (rules, left_none)

pub returns-in-Err-read_sizes-clause-left : goal.returns-in-Err-read_sizes-clause-left
returns-in-Err-read_sizes-clause-left g c = search (rules, gave, left_inside)

pub returns-then-words-clause-left : goal.returns-then-words-clause-left
returns-then-words-clause-left g c = search (rules, gave, left_table, table_whole)
