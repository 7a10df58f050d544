-- One group more is written, and no word is left.
use Rattle.cap_spec.proofs.ProofNames.{ap, append-nil, append_assoc, arith, drop, length, length-append, length-drop}
use Rattle.cap_spec.proofs.ProofNames.{sym, take, take_all, ℕ, ◌++◌, ◌+◌, ◌-◌, ◌∙◌, ◌≡◌, ◌≤◌, take_rest, take-put_mid}
use Rattle.cap_spec.proofs.ProofNames.{pack_text, plain_words}
use Rattle.cap_pack.proofs.GroupTexts.{pack_step, put_length}
use Rattle.cap_pack.proofs.PuttingEach.{no_word}
use Rattle.cap_pack.proofs.buffers.write_text.Goals as goal

pub slice_bounds-write_group-end-in-writing : goal.slice_bounds-write_group-end-in-writing
slice_bounds-write_group-end-in-writing c =
    let bytes = c.args.bytes.now in
    let group = c.front_group-taken.ensures in
    let step = pack_step bytes _ c.writing.at _ (take_rest bytes c.writing.at) group.size group.within.0 group.within.2 in
    omega (arith, c.writing.invariant.fits, simp length-append at (ap length step), group.encoded)

pub writing-preserved : goal.writing-preserved
writing-preserved c =
    let bytes = c.args.bytes.now in
    let text = c.writing.text in
    let at = c.writing.at in
    let len = c.writing.len in
    let far = c.writing.invariant in
    let group = c.front_group-taken.ensures in
    let encoded : ℕ = c.front_group-taken.result.1 in
    let step = pack_step bytes _ at _ (take_rest bytes at) group.size group.within.0 group.within.2 in
    let long = simp length-append at (ap length step) in
    let new = c.write_group.new.text in
    let count : length new ≡ encoded = ap length c.write_group.ensures ∙ sym group.encoded in
    let fits : len + (len + encoded - len) ≤ length text = omega (arith, far.fits, long, group.encoded) in
    record {
      inside = omega (arith, far.inside, group.within.2, ap length (take_rest bytes at), length-drop at bytes);
      fits = omega (arith, put_length len (len + encoded - len) text new fits (omega (arith, count)), far.fits, long, group.encoded);
      encoded =
          rw (take-put_mid len (len + encoded - len) text new (len + encoded) (omega (arith, count)) (omega (arith, far.fits)), append_assoc)
          (rw (c.write_group.ensures, ← step) far.encoded);
    }

pub returns : goal.returns
returns c =
    let text = c.writing.text in
    let len = c.writing.len in
    let far = c.writing.invariant in
    let none = no_word c.args.bytes.now c.writing.at (omega (arith, c.writing-test.false)) in
    let no_text : length (pack_text (plain_words (drop c.writing.at c.args.bytes.now))) ≡ 0 = ap (λ ws. length (pack_text ws)) none in
    sym (take_all len text (omega (arith, far.fits, no_text))) ∙ sym (append-nil (take len text))
    ∙ sym (ap (λ ws. take len text ++ pack_text ws) none) ∙ far.encoded
