use Rattle.std.proofs.Common.{arith, get_or, length, ℕ, ◌∙◌, ◌≡◌}
use Rattle.cap_pack.specs.Course.{head_rest}
use Rattle.cap_pack.proofs.Heads.{first_word-append, front_of_nine, plain_of-append, zeros_of-append}
use Rattle.cap_pack.proofs.Turns.{group_cut, group_taken, head_taken}
use Rattle.cap_pack.proofs.reads.read_split_head.Goals as goal

pub returns-in-Ok-read_whole-clause-head : goal.returns-in-Ok-read_whole-clause-head
returns-in-Ok-read_whole-clause-head g c =
    let one : c.in-Ok.field-0 ≡ 1 = omega (arith, c.in-Ok.ensures.len) in
    let tag : ℕ = get_or c.fill.new.buf 0 0 in
    let size : length c.read_whole.new.buf ≡ head_rest tag = omega (arith, front_of_nine c.head_len.result c.head_len.ensures.few) in
    let took = head_taken c.fill.new.buf (omega arith) one c.in-Ok.ensures.took c.in-Ok-read_whole.ensures.took in (
      _,
      took,
      group_taken size (c.head_of.ensures.word ∙ first_word-append tag c.read_whole.new.buf _ size) (c.head_of.ensures.zeros
          ∙ zeros_of-append tag c.read_whole.new.buf _ size)
          (c.head_of.ensures.plain ∙ plain_of-append tag c.read_whole.new.buf _ size) took,
    )

pub returns-in-Ok-read_whole-clause-reads : goal.returns-in-Ok-read_whole-clause-reads
returns-in-Ok-read_whole-clause-reads g c =
    let one : c.in-Ok.field-0 ≡ 1 = omega (arith, c.in-Ok.ensures.len) in
    (_, head_taken c.fill.new.buf (omega arith) one c.in-Ok.ensures.took c.in-Ok-read_whole.ensures.took)

pub returns-in-Err-read_whole-clause-truncated : goal.returns-in-Err-read_whole-clause-truncated
returns-in-Err-read_whole-clause-truncated g c = λ byte is.
    let one : c.in-Ok.field-0 ≡ 1 = omega (arith, c.in-Ok.ensures.len) in
    let t = c.in-Err-read_whole.ensures.truncated byte (cc) in
    let took = head_taken c.fill.new.buf (omega arith) one c.in-Ok.ensures.took t.1.1 in
    (t.0, (_, took, t.1.2, group_cut (omega (arith, t.1.3, front_of_nine c.head_len.result c.head_len.ensures.few)) took))

pub returns-in-Err-read_whole-clause-reads : goal.returns-in-Err-read_whole-clause-reads
returns-in-Err-read_whole-clause-reads g c =
    let one : c.in-Ok.field-0 ≡ 1 = omega (arith, c.in-Ok.ensures.len) in
    (_, head_taken c.fill.new.buf (omega arith) one c.in-Ok.ensures.took c.read_whole.ensures.reads.1)
