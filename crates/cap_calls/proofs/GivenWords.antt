-- Words in a buffer, one step after the other.
use Rattle.cap_spec.proofs.ProofNames.{List, [], ap, arith, drop, drop-drop, drop_at, length, length-append, length-drop}
use Rattle.cap_spec.proofs.ProofNames.{length-take, length-take-le, subst, sym, take, take-append-drop, ℕ, ◌%◌, ◌++◌}
use Rattle.cap_spec.proofs.ProofNames.{◌+◌, ◌-◌, ◌∙◌, ◌≡◌, ◌≤◌, drop-append-le, nil_from_length, take-put_mid_below}
use Rattle.cap_spec.proofs.ProofNames.{post_of, put_mid, plain_words, rules}
use Rattle.cap_words.proofs.Filling.{plain_join}
use Rattle.cap_words.proofs.Turns.{filled}
use Rattle.cap_calls.specs.PackedStreams.{GivesWords, IsRunRest, WritesWords}
use Rattle.cap_calls.specs.declared.packed_stream.Given.{Given}
use Rattle.cap_calls.proofs.PackedStreams.{leads_both, leads_none}

-- nothing yet
pub gives_none : (start z p : ℕ) (bytes old : List ℕ) → start ≤ length old → start % 8 ≡ 0 → IsRunRest z p
    → WritesWords start z p bytes old old (record { taken = 0; written = start; zeros = z; literal = p })
gives_none start z p bytes old fits whole rest =
    let none : plain_words (drop start (take start old)) ≡ [] =
    ap plain_words (nil_from_length (drop start (take start old)) (omega (arith, length-drop start (take start old), length-take start old))) in
    search (rules, leads_none)

-- Some words, and then others in the next part of the buffer.
pub gives_more : (start z p k : ℕ) (bytes rest old out part given : List ℕ) (d e : Given) → start % 8 ≡ 0
    → WritesWords start z p bytes old out d → part ≡ take k (drop d.written out) → length given ≡ length part
    → rest ≡ drop d.taken bytes → WritesWords 0 d.zeros d.literal rest part given e
    → WritesWords start z p bytes old (put_mid d.written k out given)
    (record { taken = d.taken + e.taken; written = d.written + e.written; zeros = e.zeros; literal = e.literal })
gives_more start z p k bytes rest old out part given d e first s place size more t =
    let at = d.written in
    let n = e.written in
    let longer = put_mid at k out given in
    let post = post_of at k out in
    let inside : at ≤ length out = omega (arith, s.fits, s.long) in
    let few : n ≤ length given = omega (arith, t.fits, size) in
    let space : length part ≤ length out - at = omega (arith, ap length place, length-take k (drop at out), length-drop at out) in
    let following : drop at out ≡ part ++ post =
    sym (take-append-drop k (drop at out)) ∙ ap (λ (l : List ℕ). l ++ post) (sym place) in
    let text : take (at + n) longer ≡ take at out ++ take n given = filled k out given inside few in
    let front : length (take at out) ≡ at = length-take-le at out inside in
    let own = drop start (take at out) in
    let both : drop start (take (at + n) longer) ≡ own ++ take n given =
    ap (drop start) text ∙ drop-append-le start (take at out) (take n given) (omega (arith, front, s.after)) in
    let eight : length own % 8 ≡ 0 = omega (arith, length-drop start (take at out), front, s.whole, first, s.after) in
    let words : plain_words (drop start (take (at + n) longer)) ≡ plain_words own ++ plain_words (take n given) =
    ap plain_words both ∙ plain_join own (take n given) eight in
    let after : drop at longer ≡ given ++ post = drop_at (take at out) (given ++ post) at front in
    let total : length longer ≡ length out = search (rules, length-append, length-drop) in
    record {
      after = omega (arith, s.after);
      fits = omega (arith, t.fits, space, s.long, inside);
      long = total ∙ s.long;
      whole = omega (arith, s.whole, t.whole);
      leads = subst (λ (ws : List ℕ). GivesWords z p bytes ws (d.taken + e.taken) e.zeros e.literal) (sym words)
          (leads_both z p d.zeros d.literal e.zeros e.literal d.taken e.taken bytes rest (plain_words own)
          (plain_words (take n given)) s.leads more t.leads);
      front = take-put_mid_below at k out given start (omega (arith, s.after)) inside ∙ s.front;
      rest =
          sym (drop-drop n at longer)
          ∙ (ap (drop n) after
          ∙ (drop-append-le n given post few
          ∙ (ap (λ (l : List ℕ). l ++ post) t.rest
          ∙ (sym (drop-append-le n part post (omega (arith, few, size)))
          ∙ (ap (drop n) (sym following)
          ∙ (ap (drop n) s.rest ∙ drop-drop n at old))))));
      left = t.left;
    }
