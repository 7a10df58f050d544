-- One segment more is counted.
use Rattle.cap_spec.proofs.Bytes.Plain.{length_plain}
use Rattle.cap_spec.proofs.ProofNames.{[], ap, arith, flat_map, get_or, length, length-append, rules, take}
use Rattle.cap_spec.proofs.ProofNames.{take_all, ◌*◌, ◌+◌, ◌<◌, ◌^◌, ◌∙◌, ◌≡◌, ◌≤◌, pack_text}
use Rattle.cap_frame.specs.Bytes.{cut}
use Rattle.cap_calls.proofs.PackedFrames.{sizes_more, texts_more}
use Rattle.cap_calls.proofs.calls.pack_message.segments_length.Goals as goal

pub overflow_add-total : goal.overflow_add-total
overflow_add-total c =
    let v = c.args.message.now in
    let m = cut v.sizes.now v.bytes.now in
    let s = c.segments.s in
    let exists : s < length m = omega arith in
    let short : length (get_or m s []) < 2 ^ 32 = v.is_message.lengths s [] exists in
    let few : length m ≤ 512 = v.is_message.few in
    let long : length c.in-Some.bytes.now ≡ 8 * length (get_or m s []) = ap length c.in-Some.ensures.text ∙ length_plain (get_or m s []) in
    let fits : c.segments.total + c.pack_into-total.result < 2 ^ 64 =
    omega (arith, c.segments.invariant.small, c.pack_into-total.ensures.few, long, short, few) in
    search rules

pub segments-preserved : goal.segments-preserved
segments-preserved c =
    let v = c.args.message.now in
    let m = cut v.sizes.now v.bytes.now in
    let s = c.segments.s in
    let far = c.segments.invariant in
    let exists : s < length m = omega arith in
    let short : length (get_or m s []) < 2 ^ 32 = v.is_message.lengths s [] exists in
    let long : length c.in-Some.bytes.now ≡ 8 * length (get_or m s []) = ap length c.in-Some.ensures.text ∙ length_plain (get_or m s []) in
    let own : c.pack_into-total.result ≡ length (pack_text (get_or m s [])) =
    c.pack_into-total.ensures.len ∙ ap (λ ws. length (pack_text ws)) c.in-Some.ensures.words in
    record {
      text = omega (
        arith,
        far.text,
        own,
        ap length (texts_more m s exists),
        length-append (flat_map pack_text (take s m)) (pack_text (get_or m s [])),
      );
      few = omega (arith, far.few, sizes_more m s exists, c.pack_into-total.ensures.few, long);
      small = omega (arith, far.small, c.pack_into-total.ensures.few, long, short);
    }

pub returns : goal.returns
returns c = search (rules, take_all)
