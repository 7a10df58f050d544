-- No copy, or one at the start of a buffer that is long enough.
use Rattle.cap_spec.proofs.Canonical.Sizes.{layout_charged}
use Rattle.cap_spec.proofs.ProofNames.{Ok, ap, arith, length, subst, sym, take, ◌*◌, ◌∙◌, ◌≡◌, ◌≤◌, HasCopy}
use Rattle.cap_spec.proofs.ProofNames.{plain_words, rules}
use Rattle.cap_vet.specs.Vettings.{message_of}
use Rattle.cap_canon.specs.CopyOvers.{ReportsOver}
use Rattle.cap_canon.proofs.Copies.{has_tree}
use Rattle.cap_canon.proofs.FirstWords.{written_back}
use Rattle.cap_canon.proofs.Overs.{copy_ok, enough_for, grows, reports_err, reports_ok, within_ok}
use Rattle.cap_canon.proofs.over.fill_over.Goals as goal

pub returns-in-Err-clause-reports : goal.returns-in-Err-clause-reports
returns-in-Err-clause-reports g c = reports_err c.in-Err.ensures.makes

pub fill_front-words-requires-clause-tree : goal.fill_front-words-requires-clause-tree
fill_front-words-requires-clause-tree g c = let k = c.report.ensures.accepted in rw c.message.ensures.value (has_tree _ c.report.result k.0 k.1)

pub fill_front-words-requires-clause-length : goal.fill_front-words-requires-clause-length
fill_front-words-requires-clause-length g c =
    let m = g.M.Segments.segments (message_of c.args.v.now) in
    rw c.message.ensures.value (λ t x d f.
    let e = enough_for m c.args.buffer.now.items c.make_enough.new.buffer.items c.in_default.ensures.makes t x d f in
    omega (arith, e, ap length c.as_mut_slice.ensures.value))

pub overflow_mul-result : goal.overflow_mul-result
overflow_mul-result g c = search (rules, layout_charged)

pub returns : goal.returns
returns g c =
    let m = g.M.Segments.segments (message_of c.args.v.now) in
    let old = c.args.buffer.now.items in
    let mid = c.make_enough.new.buffer.items in
    let new = c.fill_front-words.new.out in
    let n = c.fill_front-words.result in
    let counts = rw c.message.ensures.value at c.fill_front-words.ensures.count in
    let writes = rw c.message.ensures.value at c.fill_front-words.ensures.words in
    let texts = rw c.message.ensures.value at c.fill_front-words.ensures.text in
    let makes = c.in_default.ensures.makes in
    let same : length new ≡ length mid = c.fill_front-words.auto.out ∙ ap length c.as_mut_slice.ensures.value in
    let back = written_back _ new mid (c.fill_front-words.auto.out ∙ c.as_mut_slice.ensures.len) in
    let all = grows m old mid new n same counts writes texts makes in
    record {
      reports = subst (ReportsOver m old (Ok (8 * n))) (sym back) (reports_ok m old mid new n same counts writes texts makes);
      ok = subst (λ bytes. HasCopy m (plain_words (take (8 * n) bytes))) (sym back) (copy_ok m old mid new n same counts writes texts makes);
      within = subst (λ bytes. 8 * n ≤ length bytes) (sym back) (within_ok m old mid new n same counts writes texts makes);
      few = search (rules, layout_charged);
      kept = search (rules, grows);
      exact = λ lt. c.in_default.ensures.exact (omega (arith, lt, all.1 lt)) ∙ all.1 lt;
    }
