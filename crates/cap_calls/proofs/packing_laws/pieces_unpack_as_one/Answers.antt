use Rattle.std.proofs.lemmas.List.Concat.{flat_map-append}
use Rattle.cap_spec.proofs.Bytes.Plain.{length_plain}
use Rattle.cap_spec.proofs.ProofNames.{List, ap, append_assoc, arith, drop, drop-drop, drop_at, inl, inr, length}
use Rattle.cap_spec.proofs.ProofNames.{length-append, length-drop, length-take, length-take-le, refl, subst, sym, take}
use Rattle.cap_spec.proofs.ProofNames.{take_at, ℕ, ◌*◌, ◌++◌, ◌+◌, ◌-◌, ◌∙◌, ◌≡◌, ◌≤◌, ◌⊎◌, cases_lt, drop-append-le}
use Rattle.cap_spec.proofs.ProofNames.{take-append-le, plain_text, rules}
use Rattle.cap_calls.specs.CallNames.{GivesWords, Appends, IsOpen, IsState, StopsCall, ReportsUnpackMessage, bad}
use Rattle.cap_calls.specs.CallNames.{state_of, unpacks, Answer, CallLimits, CallReport, Unpacking}
use Rattle.cap_calls.specs.declared.answer.Answer.TheVariants.{NoMessage, Truncated}
use Rattle.cap_calls.proofs.MessageStages.{open_not_whole}
use Rattle.cap_calls.proofs.PackedStreams.{leads_both}
use Rattle.cap_calls.specs.UnpackingMessages as stop
use Rattle.cap_calls.proofs.packing_laws.pieces_unpack_as_one.Goals as goal

-- Two pieces of a stream, one after the other, are unpacked as one.
-- more bytes change nothing of what the first give
leads_longer : (z p y q t : ℕ) (bytes more ws : List ℕ) → GivesWords z p bytes ws t y q → GivesWords z p (bytes ++ more) ws t y q
leads_longer z p y q t bytes more ws f = search (rules, length-append, take-append-le)

module _ (limit : ℕ) (bytes more old new newer : List ℕ) (state : Unpacking) (ws vs : List ℕ) (c z p d y q w : ℕ)
    (f : Appends limit bytes old state ws c z p new) (at : w ≡ state.written + 8 * length ws)
    (g : Appends limit (drop c bytes ++ more) new (state_of w z p state) vs d y q newer) where
  start_long : length (take state.written old) ≡ state.written
  start_long = length-take-le state.written old (omega (arith, f.fits))

  -- the buffer is as long as before
  pub same_size : length new ≡ length old
  same_size = search (rules, length-append, length_plain, start_long, length-drop)

  front : take w new ≡ take state.written old ++ plain_text ws
  front = search (rules, append_assoc, take_at, length-append, start_long, length_plain)

  back : drop w new ≡ drop (state.written + 8 * length ws) old
  back =
      search (
        rules,
        append_assoc (take state.written old) (plain_text ws) (drop (state.written + 8 * length ws) old),
        drop_at,
        length-append (take state.written old) (plain_text ws),
        start_long,
        length_plain ws,
      )

  -- the words of both are appended
  pub both_appended : Appends limit (bytes ++ more) old state (ws ++ vs) (c + d) y q newer
  both_appended =
      let count = length-append ws vs in
      let here : state.written + 8 * length ws + 8 * length vs ≡ state.written + 8 * length (ws ++ vs) = omega (arith, count) in
      let after : drop (w + 8 * length vs) new ≡ drop (state.written + 8 * length (ws ++ vs)) old =
      sym (drop-drop (8 * length vs) w new)
      ∙ (ap (drop (8 * length vs)) back
      ∙ (drop-drop (8 * length vs) (state.written + 8 * length ws) old
      ∙ ap (λ (k : ℕ). drop k old) here)) in
      let held = take state.written old ++ plain_text ws in
      let rest = plain_text vs ++ drop (w + 8 * length vs) new in
      let text : newer ≡ held ++ rest = g.text ∙ ap (λ (l : List ℕ). l ++ rest) front in
      record {
        fits = omega (arith, g.fits, same_size, at, count);
        leads = search (rules, leads_both, leads_longer, drop-append-le);
        text = search (rules, append_assoc, flat_map-append);
        before = λ n l. elim (cases_lt n (length ws)) [
          | inl less ↦
              let few : state.written + 8 * n ≤ length held =
              omega (arith, less, length-append (take state.written old) (plain_text ws), start_long, length_plain ws) in
              let known = f.before n less in
              let same : take (state.written + 8 * n) newer ≡ take (state.written + 8 * n) new =
              search (rules, take-append-le, append_assoc) in
              (known.0, subst (λ (x : List ℕ). IsOpen limit x known.0) (sym same) known.1)
          | inr more_words ↦
              let k = n - length ws in
              let known = g.before k (omega (arith, l, count, more_words)) in
              let same : w + 8 * k ≡ state.written + 8 * n = omega (arith, at, more_words) in
              (known.0, subst (λ (x : ℕ). IsOpen limit (take x newer) known.0) same known.1)
        ];
        left = g.left;
      }

-- After these two answers the message goes on.
goes_on : (limit size : ℕ) (held : List ℕ) (z p : ℕ) (rest : List ℕ) (a : Answer) (n w : ℕ) (r : CallReport)
    → (a ≡ Truncated) ⊎ (a ≡ NoMessage) → StopsCall limit size held z p rest a n w r
    → (needed : ℕ) × IsOpen limit held needed × (w ≡ length held)
goes_on limit size held z p rest a n w r t (stop.whole m f e g h i) = search rules
goes_on limit size held z p rest a n w r t (stop.too_many k f e g h i) = search rules
goes_on limit size held z p rest a n w r t (stop.too_large k f e g h i) = search rules
goes_on limit size held z p rest a n w r t (stop.too_small x y e g h i) = search rules
goes_on limit size held z p rest a n w r t (stop.no_message x y e g h i j k) = (8, inl (x, refl), j ∙ ap length (sym x))
goes_on limit size held z p rest a n w r t (stop.truncated k x y e g h i j) = (k, x, i)

-- A call over two pieces together does what two calls do.
pieces_reported : (l : CallLimits) (bs more old : List ℕ) (state : Unpacking) (a b : Answer) (c d n k : ℕ) (new newer : List ℕ)
    (left last : Unpacking) (r q : CallReport) → ReportsUnpackMessage l bs old state a c n new left r
    → (a ≡ Truncated) ⊎ (a ≡ NoMessage) → ReportsUnpackMessage l (drop c bs ++ more) new left b d k newer last q
    → ReportsUnpackMessage l (bs ++ more) old state b (c + d) k newer last q
pieces_reported l bs more old state a b c d n k new newer left last r q (bad not_good e f g h i j) t u = search rules
pieces_reported l bs more old state a b c d n k new newer left last r q (unpacks ws z p w lim is f h e) t u =
    second (subst (λ (s : Unpacking). ReportsUnpackMessage l (drop c bs ++ more) new s b d k newer last q) e u)
  where
    still : (needed : ℕ) × IsOpen l.message_words (take (state.written + 8 * length ws) new) needed
        × (w ≡ length (take (state.written + 8 * length ws) new))
    still = goes_on l.message_words (length old) (take (state.written + 8 * length ws) new) z p (drop c bs) a n w r t h

    long : length (take (state.written + 8 * length ws) new) ≡ state.written + 8 * length ws
    long = search (rules, length-take-le, length-append, length_plain)

    at : w ≡ state.written + 8 * length ws
    at = still.2 ∙ long

    -- no call leaves a state that is bad
    left_good : IsState l.message_words (state_of w z p state) new
    left_good = record {
      left = f.left;
      first = is.first;
      second = is.second;
      whole = omega (arith, at, is.whole);
      inside = omega (arith, at, long, length-take (state.written + 8 * length ws) new);
      unfinished = λ m i h. open_not_whole l.message_words still.0 i (take w new) m
          (subst (λ (x : ℕ). IsOpen l.message_words (take x new) still.0) (sym at) still.1) h;
    }

    second : ReportsUnpackMessage l (drop c bs ++ more) new (state_of w z p state) b d k newer last q
        → ReportsUnpackMessage l (bs ++ more) old state b (c + d) k newer last q
    second (bad not_good e f g h i j) = absurd (not_good (lim, left_good))
    second (unpacks vs y x v also it g i j) =
        let count : w + 8 * length vs ≡ state.written + 8 * length (ws ++ vs) = omega (arith, at, length-append ws vs) in
        let rest : drop d (drop c bs ++ more) ≡ drop (c + d) (bs ++ more) =
        ap (drop d) (sym (drop-append-le c bs more f.leads.within)) ∙ drop-drop d c (bs ++ more) in
        unpacks (ws ++ vs) y x v lim is
        (both_appended l.message_words bs more old new newer state ws vs c z p d y x w f at g)
        (subst (λ (u : ℕ). StopsCall l.message_words u (take (state.written + 8 * length (ws ++ vs)) newer) y x (drop (c + d) (bs ++ more)) b k v q)
        (same_size l.message_words bs more old new newer state ws vs c z p d y x w f at g)
        (subst (λ (u : ℕ). StopsCall l.message_words (length new) (take u newer) y x (drop (c + d) (bs ++ more)) b k v q) count
        (subst (λ (u : List ℕ). StopsCall l.message_words (length new) (take (w + 8 * length vs) newer) y x u b k v q) rest i)))
        j

pub returns : goal.returns
returns c = λ l piece more old state u v first (asks, second).
    pieces_reported l piece more old state u.answer v.answer u.consumed v.consumed u.required v.required
    u.out v.out u.state v.state u.report v.report first asks second
