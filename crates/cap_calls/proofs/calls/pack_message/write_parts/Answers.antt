-- The table, and one segment more, are written.
use borrow.Rule.Slice.PartMut.{same_len_mid}
use Rattle.cap_spec.proofs.Bytes.Plain.{length_plain}
use Rattle.cap_spec.proofs.ProofNames.{List, [], ap, append-nil, append_assoc, arith, drop, flat_map, get_or, length}
use Rattle.cap_spec.proofs.ProofNames.{length-append, length-drop, rules, sym, take, take_all, take_at, ℕ, ◌*◌, ◌++◌, ◌+◌}
use Rattle.cap_spec.proofs.ProofNames.{◌-◌, ◌<◌, ◌^◌, ◌∙◌, ◌≡◌, ◌≤◌, take_rest, table_of, pack_text}
use Rattle.cap_words.proofs.Turns.{filled}
use Rattle.cap_frame.specs.Bytes.{cut}
use Rattle.cap_calls.proofs.PackedFrames.{texts_fit, texts_more}
use Rattle.cap_calls.proofs.calls.pack_message.write_parts.Goals as goal

pub segments-init : goal.segments-init
segments-init c = search (rules, length-append, append-nil, length-drop, take_at)

pub overflow_add-at : goal.overflow_add-at
overflow_add-at c =
    let v = c.args.message.now in
    let m = cut v.sizes.now v.bytes.now in
    let s = c.segments.s in
    let exists : s < length m = omega arith in
    let short : length (get_or m s []) < 2 ^ 32 = v.is_message.lengths s [] exists in
    let few : length m ≤ 512 = v.is_message.few in
    let long : length c.in-Some.bytes.now ≡ 8 * length (get_or m s []) = ap length c.in-Some.ensures.text ∙ length_plain (get_or m s []) in
    let fits : c.segments.at + c.pack_into-at-in-segments.result < 2 ^ 64 =
    omega (arith, c.segments.invariant.small, c.pack_into-at-in-segments.ensures.few, long, short, few) in
    search rules

pub segments-preserved : goal.segments-preserved
segments-preserved c =
    let v = c.args.message.now in
    let m = cut v.sizes.now v.bytes.now in
    let T = pack_text (table_of m) in
    let s = c.segments.s in
    let at = c.segments.at in
    let text = c.segments.text in
    let far = c.segments.invariant in
    let exists : s < length m = omega arith in
    let short : length (get_or m s []) < 2 ^ 32 = v.is_message.lengths s [] exists in
    let size : length c.in-Some.bytes.now ≡ 8 * length (get_or m s []) = ap length c.in-Some.ensures.text ∙ length_plain (get_or m s []) in
    let own = pack_text (get_or m s []) in
    let n = c.pack_into-at-in-segments.result in
    let more = texts_more m s exists in
    let done = T ++ flat_map pack_text (take s m) in
    let next : T ++ flat_map pack_text (take (s + 1) m) ≡ done ++ own =
    ap (λ (t : List ℕ). T ++ t) more ∙ sym (append_assoc T (flat_map pack_text (take s m)) own) in
    let long : n ≡ length own = c.pack_into-at-in-segments.ensures.len ∙ ap (λ ws. length (pack_text ws)) c.in-Some.ensures.words in
    let fit : at + n ≤ length text =
    omega (
      arith,
      far.at,
      far.size,
      long,
      length-append T (flat_map pack_text (take s m)),
      length-append T (flat_map pack_text m),
      ap length more,
      length-append (flat_map pack_text (take s m)) own,
      texts_fit m (s + 1),
    ) in
    let part = take (length text - at) (drop at text) in
    let capacity : length part ≡ length text - at = ap length (take_rest text at) ∙ length-drop at text in
    let given = c.pack_into-at-in-segments.new.out in
    let new : given ≡ own ++ drop n part =
    c.pack_into-at-in-segments.ensures.written (omega (arith, capacity, fit)) ∙ ap (λ ws. pack_text ws ++ drop n part) c.in-Some.ensures.words in
    let enough : n ≤ length given = omega (arith, ap length new, length-append own (drop n part), long) in
    record {
      at = omega (arith, far.at, long, ap length next, length-append done own);
      size = same_len_mid at (length text - at) text given
          (omega (arith, ap length new, length-append own (drop n part), length-drop n part, long, capacity, fit)) ∙ far.size;
      written = filled {at = at} (length text - at) {n = n} text given (omega (arith, fit)) enough
          ∙ (ap (λ (t : List ℕ). take at text ++ take n t) new
          ∙ (ap (λ (t : List ℕ). take at text ++ t) (take_at own (drop n part) n (sym long))
          ∙ (ap (λ (t : List ℕ). t ++ own) far.written ∙ sym next)));
      small = omega (arith, far.small, c.pack_into-at-in-segments.ensures.few, size, short);
    }

pub returns : goal.returns
returns c = search (rules, take_all)
