-- Each call, where it refuses nothing.
use Rattle.cap_spec.proofs.ProofNames.{subst, ◌∙◌, Bool, List, [], ap, arith, inl, inr, length, length-append}
use Rattle.cap_spec.proofs.ProofNames.{length-take-le, take, take_at, ℕ, ◌*◌, ◌+◌, ◌∷◌, ◌≡◌, ◌≤◌, IsPartial}
use Rattle.cap_spec.proofs.ProofNames.{in_contents, in_table, in_word, plain_is_cut, plain_words}
use Rattle.cap_calls.specs.CallFlags.{copy_limits, AllowsMore}
use Rattle.cap_calls.specs.CallLaws.{RefusesNothing}
use Rattle.cap_calls.proofs.CopyLimits.{copy_good, copy_more}
use Rattle.cap_calls.proofs.Wider.{alone_reported, earlier_reported, explained_reported, frame_reported}
use Rattle.cap_calls.proofs.Wider.{judged_reported, packed_reported, parts_reported, path_reported, pointer_reported}
use Rattle.cap_calls.proofs.Wider.{steps_reported}
use Rattle.cap_spec.proofs.Frames.Endings.{frame_some, message_not_partial}
use Rattle.cap_frame.specs.Fronts.{IsFront}
use Rattle.cap_calls.specs.CallNames.{Appends, AreLimits, IsOpen, IsState, StopsCall, ReportsUnpackMessage, bad}
use Rattle.cap_calls.specs.CallNames.{unpacks, Answer, CallLimits, CallReport, Unpacking}
use Rattle.cap_calls.specs.UnpackingMessages as stop
use Rattle.cap_calls.proofs.laws.wider_limits_refuse_no_more.Goals as goal

-- A message that is unpacked is unpacked with a higher limit too.
-- the bytes of a frame, and those inside one, with a higher limit
wider_front : (l k : ℕ) (held : List ℕ) (m : List (List ℕ)) (n : ℕ) → l ≤ k → IsFront l held m n → IsFront k held m n
wider_front l k held m n h f =
    record { own = f.own; rest = f.rest; words = f.words; frames = f.frames; within = omega (arith, f.within, h); long = f.long }

wider_partial : (l k : ℕ) (words : List ℕ) (cut : Bool) → l ≤ k → IsPartial l words cut → IsPartial k words cut
wider_partial l k words cut h (in_word e c) = in_word e c
wider_partial l k words cut h (in_table first rest e few short) = in_table first rest e few short
wider_partial l k words cut h (in_contents table sizes rest e t within short) =
    in_contents table sizes rest e t (omega (arith, within, h)) short

wider_open : (l k : ℕ) (held : List ℕ) (needed : ℕ) → l ≤ k → IsOpen l held needed → IsOpen k held needed
wider_open l k held needed h (inl none) = inl none
wider_open l k held needed h (inr t) =
    inr (wider_partial l k (plain_words held) (plain_is_cut held) h t.0, t.1, t.2, omega (arith, t.3, h))

-- a message that isn't whole is so with any limit
not_whole : (l k : ℕ) (held : List ℕ) (needed : ℕ) (m : List (List ℕ)) (n : ℕ) → IsOpen l held needed
    → IsFront k held m n → ⊥
not_whole l k held needed m n (inl none) f =
    omega (arith, frame_some f.own m f.frames, ap (λ (z : List ℕ). length (plain_words z)) none.0, ap length f.words, length-append f.own f.rest)
not_whole l k held needed m n (inr t) f =
    message_not_partial l f.own f.rest m (plain_is_cut held) f.frames
    (subst (λ (z : List ℕ). IsPartial l z (plain_is_cut held)) f.words t.0)

module _ (l k : ℕ) (more : l ≤ k) (bytes old new : List ℕ) (state : Unpacking) (c z p : ℕ) where
  -- the bytes before the words that are appended
  first_kept : (ws : List ℕ) → state.written ≤ length old → Appends l bytes old state ws c z p new
      → take (state.written + 8 * 0) new ≡ take state.written old
  first_kept ws inside f =
      let at : state.written + 8 * 0 ≡ state.written = omega arith in
      ap (λ (n : ℕ). take n new) at ∙ ap (take state.written) f.text
      ∙ take_at (take state.written old) _ state.written (length-take-le state.written old inside)

  appends_wider : (ws : List ℕ) → Appends l bytes old state ws c z p new → Appends k bytes old state ws c z p new
  appends_wider ws f = record {
    fits = f.fits;
    leads = f.leads;
    text = f.text;
    before = λ n less.
        let h = f.before n less in (h.0, wider_open l k (take (state.written + 8 * n) new) h.0 more h.1);
    left = f.left;
  }

  stops_wider : (size : ℕ) (held rest : List ℕ) (a : Answer) (required written : ℕ) (r : CallReport) → RefusesNothing a
      → StopsCall l size held z p rest a required written r → StopsCall k size held z p rest a required written r
  stops_wider size held rest a required written r ok (stop.whole m f e n w i) =
      stop.whole m (wider_front l k held m (length held) more f) e n w i
  stops_wider size held rest a required written r ok (stop.too_many count g e n w i) = absurd (subst RefusesNothing e ok)
  stops_wider size held rest a required written r ok (stop.too_large words g e n w i) = absurd (subst RefusesNothing e ok)
  stops_wider size held rest a required written r ok (stop.too_small o next less e w i) =
      stop.too_small (wider_open l k held required more o) next less e w i
  stops_wider size held rest a required written r ok (stop.no_message none x y q e n w i) =
      absurd (subst RefusesNothing e ok)
  stops_wider size held rest a required written r ok (stop.truncated needed o none some e n w i) =
      absurd (subst RefusesNothing e ok)

  -- before them no message is whole
  unfinished_wider : (ws : List ℕ) (size : ℕ) (rest : List ℕ) (a : Answer) (required written : ℕ) (r : CallReport)
      → RefusesNothing a → IsState l state old → Appends l bytes old state ws c z p new
      → StopsCall l size (take (state.written + 8 * length ws) new) z p rest a required written r
      → (m : List (List ℕ)) (n : ℕ) → IsFront k (take state.written old) m n → ⊥
  unfinished_wider (x ∷ ws) size rest a required written r ok is f t m n front =
      let h = f.before 0 (omega arith) in
      not_whole l k (take state.written old) h.0 m n
      (subst (λ (v : List ℕ). IsOpen l v h.0) (first_kept (x ∷ ws) is.inside f) h.1) front
  unfinished_wider [] size rest a required written r ok is f (stop.whole v g e i w q) m n front =
      let same = first_kept [] is.inside f in
      is.unfinished v (length (take (state.written + 8 * 0) new))
      (subst (λ (y : List ℕ). IsFront l y v (length (take (state.written + 8 * 0) new))) same g)
  unfinished_wider [] size rest a required written r ok is f (stop.too_small o next less e w q) m n front =
      not_whole l k (take state.written old) required m n
      (subst (λ (v : List ℕ). IsOpen l v required) (first_kept [] is.inside f) o) front
  unfinished_wider [] size rest a required written r ok is f (stop.too_many count g e i w q) m n front =
      absurd (subst RefusesNothing e ok)
  unfinished_wider [] size rest a required written r ok is f (stop.too_large words g e i w q) m n front =
      absurd (subst RefusesNothing e ok)
  unfinished_wider [] size rest a required written r ok is f (stop.no_message none x y q e i w j) m n front =
      absurd (subst RefusesNothing e ok)
  unfinished_wider [] size rest a required written r ok is f (stop.truncated needed o none some e i w q) m n front =
      absurd (subst RefusesNothing e ok)

unpack_wider : (l k : CallLimits) → AllowsMore l k → (bytes old : List ℕ) (state : Unpacking) (a : Answer)
    (consumed required : ℕ) (new : List ℕ) (left : Unpacking) (r : CallReport) → AreLimits k → RefusesNothing a
    → ReportsUnpackMessage l bytes old state a consumed required new left r
    → ReportsUnpackMessage k bytes old state a consumed required new left r
unpack_wider l k more bytes old state a consumed required new left r good ok (bad limits e c n o s i) =
    absurd (subst RefusesNothing e ok)
unpack_wider l k more bytes old state a consumed required new left r good ok (unpacks ws z p written limits is f t e) =
    unpacks ws z p written good
    (record {
      left = is.left;
      first = is.first;
      second = is.second;
      whole = is.whole;
      inside = is.inside;
      unfinished = unfinished_wider l.message_words k.message_words more.size bytes old new state consumed z p ws
          (length old) _ a required written r ok is f t;
    })
    (appends_wider l.message_words k.message_words more.size bytes old new state consumed z p ws f)
    (stops_wider l.message_words k.message_words more.size bytes old new state consumed z p (length old) _ _ a required written r ok t)
    e

pub returns : goal.returns
returns c = record {
  vet = λ l k bs a r good more ok (f, t, h).
      (f, judged_reported l k more bs f good (subst RefusesNothing h.0 ok) t, h);
  exclusive = λ l k bs size a n r good more ok (f, t, h, e).
      (f, judged_reported l k more bs f good (subst RefusesNothing h.0 ok) t, h, e);
  canonical = λ l k bs old a n new r good more ok (f, t, h, e).
      (f, judged_reported l k more bs f good (subst RefusesNothing h.0 ok) t, h, e);
  check_canonical = λ l k bs a r good more ok (f, t, h).
      (f, alone_reported l k more bs f good (subst RefusesNothing h.0 ok) t, h);
  check_words = λ l k bs a r good more ok (f, t, h). (
    f,
    alone_reported (copy_limits l) (copy_limits k) (copy_more l k good more) bs f (copy_good k good)
        (subst RefusesNothing h.0 ok) t,
    h,
  );
  first_difference = λ l k bs a r good more ok (f, t, h).
      (f, alone_reported l k more bs f good (subst RefusesNothing h.0 ok) t, h);
  segments = λ l k parts a r good more ok (f, t, h).
      (f, parts_reported l k more parts f good (subst RefusesNothing h.0 ok) t, h);
  frame = λ l k bs a r good more ok (f, t, h).
      (f, frame_reported l k more bs f good (subst RefusesNothing h.0 ok) t, h);
  extents = λ l k bs old a n new r good more ok (f, t, h, e).
      (f, frame_reported l k more bs f good (subst RefusesNothing h.0 ok) t, h, e);
  explain = λ l k bs old a n new r good more ok (f, t, h).
      (f, explained_reported l k more old n new bs f good (subst RefusesNothing h.0 ok) t, h);
  get = λ l k bs text a node r good more ok (f, t, h).
      (f, path_reported l k more bs text node f good (subst RefusesNothing h.0 ok) t, h);
  get_range = λ l k bs q good more ok.
      let (f, t, h, e) = q.reports in
      (f, steps_reported l k more bs q.steps q.varying q.before q.after f good (subst RefusesNothing h.0 ok) t, h, e);
  pointer_path = λ l k bs n q good more ok some.
      let (f, t, h, e) = q.reports in (
        f,
        pointer_reported l k more n q.before q.after bs f good (subst RefusesNothing h.0 ok) (λ z. some (h.0 ∙ z)) t,
        h,
        e,
      );
  earlier_pointer = λ l k bs n a r good more ok some (f, t, h).
      (f, earlier_reported l k more n bs f good (subst RefusesNothing h.0 ok) (λ z. some (h.0 ∙ z)) t, h);
  pack_message = λ l k bs old a n new r good more ok (f, t, h, e).
      (f, packed_reported l k more bs f good (subst RefusesNothing h.0 ok) t, h, e);
  unpack_message = λ l k bs old state u good more ok t.
      unpack_wider l k more bs old state u.answer u.consumed u.required u.out u.state u.report good ok t;
}
