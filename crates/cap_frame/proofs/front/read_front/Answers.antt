-- What each answer says of the bytes.
use Rattle.cap_spec.proofs.ProofNames.{ap, arith, ◌*◌, ◌+◌, ◌/◌, ◌∙◌, nat_tests, rules}
use Rattle.cap_words.proofs.Buffered.{bytes_small}
use Rattle.cap_frame.specs.FrameNames.{table_words, limit_of}
use Rattle.cap_frame.proofs.Fronts.{begins, has_table, is_front, no_contents, no_first, no_table, gives_large}
use Rattle.cap_frame.proofs.Fronts.{gives_many}
use Rattle.cap_frame.proofs.front.read_front.Goals as goal

pub returns-then-bytes-lt8 : goal.returns-then-bytes-lt8
returns-then-bytes-lt8 c = search (rules, no_first, nat_tests)

pub returns-then-last-ge512 : goal.returns-then-last-ge512
returns-then-last-ge512 c =
    let bs = c.args.bytes.now in
    let b = begins bs (bytes_small bs (λ i. c.type_inv.bytes i)) c.if-bytes-lt8.false in
    gives_many bs _ (c.from.result + 1) b (omega (arith, c.read_u32-last.ensures, c.if-last-ge512.true))
    (omega (arith, c.from.ensures, c.read_u32-last.ensures))

pub returns-then-bytes-table : goal.returns-then-bytes-table
returns-then-bytes-table c =
    let bs = c.args.bytes.now in
    let b = begins bs (bytes_small bs (λ i. c.type_inv.bytes i)) c.if-bytes-lt8.false in
    no_table bs (limit_of c.args.limit) _ (8 * (c.from-2.result / 2 + 1)) b (omega (arith, c.read_u32-last.ensures, c.if-last-ge512.false))
    (ap (λ n. 8 * table_words n) (c.from-2.ensures ∙ ap (λ n. n + 1) c.read_u32-last.ensures)) c.if-bytes-table.true

pub returns-then-words : goal.returns-then-words
returns-then-words c =
    let bs = c.args.bytes.now in
    let all = bytes_small bs (λ i. c.type_inv.bytes i) in
    let b = begins bs all c.if-bytes-lt8.false in
    let t = has_table bs _ (c.read_u32-last.result + 1) all b (omega (arith, c.read_u32-last.ensures, c.if-last-ge512.false))
    (ap (λ n. n + 1) c.read_u32-last.ensures)
    (omega (arith, c.if-bytes-table.false, c.from-2.ensures)) in
    gives_large bs (limit_of c.args.limit) (c.read_u32-last.result + 1) c.total_given-words.result t c.total_given-words.ensures
    (omega (arith, c.if-words.true, c.words.ensures.words))

pub returns-then-bytes-needed : goal.returns-then-bytes-needed
returns-then-bytes-needed c =
    let bs = c.args.bytes.now in
    let all = bytes_small bs (λ i. c.type_inv.bytes i) in
    let b = begins bs all c.if-bytes-lt8.false in
    let t = has_table bs _ (c.read_u32-last.result + 1) all b (omega (arith, c.read_u32-last.ensures, c.if-last-ge512.false))
    (ap (λ n. n + 1) c.read_u32-last.ensures)
    (omega (arith, c.if-bytes-table.false, c.from-2.ensures)) in
    no_contents bs (limit_of c.args.limit) (c.read_u32-last.result + 1) c.total_given-words.result
    (8 * (c.from-2.result / 2 + 1) + 8 * c.total_given-words.result) t c.total_given-words.ensures
    (omega (arith, c.if-words.false, c.words.ensures.words)) (omega (arith, c.from-2.ensures)) c.if-bytes-needed.true

pub returns : goal.returns
returns c =
    let bs = c.args.bytes.now in
    let all = bytes_small bs (λ i. c.type_inv.bytes i) in
    let b = begins bs all c.if-bytes-lt8.false in
    let t = has_table bs _ (c.read_u32-last.result + 1) all b (omega (arith, c.read_u32-last.ensures, c.if-last-ge512.false))
    (ap (λ n. n + 1) c.read_u32-last.ensures)
    (omega (arith, c.if-bytes-table.false, c.from-2.ensures)) in
    is_front bs (limit_of c.args.limit) (c.read_u32-last.result + 1) c.total_given-words.result t c.total_given-words.ensures
    (omega (arith, c.if-words.false, c.words.ensures.words)) (omega (arith, c.if-bytes-needed.false, c.from-2.ensures))
