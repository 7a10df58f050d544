-- A copy that is all that the buffer holds, or no memory.
use Rattle.cap_spec.proofs.Lemmas.{length_plain, layout_charged, one_tree}
use Rattle.cap_spec.proofs.ProofNames.{Ok, ap, arith, length, refl, subst, sym, take, take_all, ◌∙◌, ◌≡◌, layout, trim}
use Rattle.cap_spec.proofs.ProofNames.{HasCopy, plain_text, plain_words}
use Rattle.cap_vet.specs.Vettings.{message_of}
use Rattle.cap_canon.specs.CopyOvers.{grown, no_memory}
use Rattle.cap_canon.proofs.Copies.{has_copy}
use Rattle.cap_canon.proofs.over.fill_empty.Goals as goal

pub copy_within-requires-clause-most : goal.copy_within-requires-clause-most
copy_within-requires-clause-most g c =
    let m = g.M.Segments.segments (message_of c.args.v.now) in
    let r = c.report-report.result in
    let k = c.report-report.ensures.accepted in
    rw c.message.ensures.value (λ t x d f.
    let same = one_tree m 0 0 k.0 t r.charge r.depth x d k.1.within.denotes f in
    omega (arith, layout_charged m 0 0 t x d f, same.charge))

pub returns-in_default-clause-reports : goal.returns-in_default-clause-reports
returns-in_default-clause-reports g c =
    let m = g.M.Segments.segments (message_of c.args.v.now) in
    let r = c.report-report.result in
    let k = c.report-report.ensures.accepted in
    let none = ap (λ q. q.first_cap) c.report-report.ensures.value ∙ c.requires.no_cap in
    let words = layout (trim k.0) in
    no_memory words (has_copy m r k.0 k.1 none) (omega (arith, ap length c.requires.empty, length_plain words)) refl c.requires.empty

pub returns : goal.returns
returns g c =
    let m = g.M.Segments.segments (message_of c.args.v.now) in
    let k = c.report-report.ensures.accepted in
    let made = has_copy _ _ _ k.1 (ap (λ q. q.first_cap) c.report-report.ensures.value ∙ c.requires.no_cap) in
    let words = layout (trim k.0) in
    let new = c.in-Ok.bytes.items in
    let texts = rw c.message.ensures.value at c.in-Ok.ensures.text in
    let encodes = rw c.message.ensures.value at c.in-Ok.ensures.words in
    let text : new ≡ plain_text words = texts k.0 _ _ k.1.within.denotes in
    let long : length new ≡ length (plain_text words) = ap length text in
    let same : plain_words (take c.len.result new) ≡ words =
    ap plain_words (take_all c.len.result new (omega (arith, c.len.ensures))) ∙ encodes k.0 _ _ k.1.within.denotes in
    let charge = ap (λ q. q.charge) c.report-report.ensures.value in
    record {
      reports = grown words made (omega (arith, ap length c.requires.empty, length_plain words)) (ap Ok (omega (arith, c.len.ensures, long)))
          (take_all (length (plain_text words)) new (omega (arith, long)) ∙ text) long;
      ok = subst (HasCopy m) (sym same) made;
      within = omega (arith, c.len.ensures);
      few = omega (arith, long, length_plain words, layout_charged _ 0 0 k.0 _ _ k.1.within.denotes, c.len.ensures, charge);
      some = omega (arith, long, length_plain words, c.len.ensures);
    }
