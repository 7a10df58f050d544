-- The bytes, the state and the buffer decide what the call that unpacks a message returns and writes.
use Rattle.std.proofs.lemmas.List.{append_cancel_left, drop-replicate}
use Rattle.std.proofs.lemmas.List.Concat.{flat_map-append}
use Rattle.cap_spec.proofs.Bytes.Plain.{length_plain, words_exact}
use Rattle.cap_spec.proofs.ProofNames.{List, [], ap, append-nil, append_assoc, ap₂, arith, drop, inl, inr, length}
use Rattle.cap_spec.proofs.ProofNames.{length-append, length-take-le, refl, replicate, subst, sym, take}
use Rattle.cap_spec.proofs.ProofNames.{take-append-drop, take_all, take_at, ℕ, ◌*◌, ◌++◌, ◌+◌, ◌-◌, ◌<◌, ◌∙◌, ◌∷◌, ◌≡◌}
use Rattle.cap_spec.proofs.ProofNames.{◌≤◌, cases_lt, drop_all, length-replicate, take-append-le, take-replicate}
use Rattle.cap_spec.proofs.ProofNames.{too_large, too_many, plain_text, rules}
use Rattle.cap_calls.specs.CallNames.{GivesWords, words_to_come, Appends, IsOpen, StopsCall, ReportsUnpackMessage, bad}
use Rattle.cap_calls.specs.CallNames.{state_of, unpacks, Answer, CallLimits, CallReport, Unpacking, truncated}
use Rattle.cap_calls.proofs.MessageStages.{open_not_whole}
use Rattle.std.proofs.Common.{◌≢◌}
use Rattle.cap_spec.specs.Endings.{Ending, EndsIn, message, none, partial}
use Rattle.cap_spec.specs.Plain.{plain_is_cut, plain_words}
use Rattle.cap_spec.proofs.Lemmas.{one_frame, one_ending}
use Rattle.cap_frame.specs.Fronts.{IsFront, GivesLarge, GivesMany}
use Rattle.cap_frame.specs.declared.fault.FrontFault.TheVariants.{TooLarge, TooManySegments, Truncated}
use Rattle.cap_frame.proofs.FrontAnswers.{empty_answer, large_answer, many_answer, short_answer}
use Rattle.cap_calls.specs.UnpackingMessages.{no_message, too_small}
use Rattle.cap_calls.proofs.Answers.{Without}
use Rattle.cap_calls.specs.UnpackingMessages as stop

-- A call that unpacks a message stops for one reason.
module _ (limit : ℕ) (held : List ℕ) where
  ends_whole : (m : List (List ℕ)) (n : ℕ) → IsFront limit held m n → EndsIn limit (plain_words held) (plain_is_cut held) message
  ends_whole m n f = search rules

  -- an open message ends in no other way
  pub never_open : (e : Ending) (needed : ℕ) → e ≢ none → e ≢ partial → EndsIn limit (plain_words held) (plain_is_cut held) e
      → IsOpen limit held needed → ⊥
  never_open e needed n p h (inl z) = search (rules, one_ending limit (plain_words held) (plain_is_cut held) none e (ap plain_words z.0, ap plain_is_cut z.0) h)
  never_open e needed n p h (inr t) = p (one_ending limit (plain_words held) (plain_is_cut held) partial e t.0 h)

  -- it needs one number of bytes
  one_needed : (a b : ℕ) → IsOpen limit held a → IsOpen limit held b → a ≡ b
  one_needed a b (inl x) (inl y) = x.1 ∙ sym y.1
  one_needed a b (inl x) (inr t) = absurd (let e = empty_answer limit held (Without (Truncated b)) x.0 t in cc)
  one_needed a b (inr t) (inl y) = absurd (let e = empty_answer limit held (Without (Truncated a)) y.0 t in cc)
  one_needed a b (inr t) (inr u) = (let e = short_answer limit held (Without (Truncated a)) b u.0 u.1 t in cc)

  one_many : (a b : ℕ) → GivesMany held a → GivesMany held b → a ≡ b
  one_many a b h k = (let e = many_answer limit held (Without (TooManySegments a)) b k h in cc)

  one_large : (a b : ℕ) → GivesLarge limit held a → GivesLarge limit held b → a ≡ b
  one_large a b h k = (let e = large_answer limit held (Without (TooLarge a)) b k h in cc)

  one_whole : (m n : List (List ℕ)) (a b : ℕ) → IsFront limit held m a → IsFront limit held n b → m ≡ n
  one_whole m n a b f g = (one_frame f.own g.own f.rest g.rest m n f.frames g.frames (sym f.words ∙ g.words)).1

  not_both : (e f : Ending) → f ≢ e → EndsIn limit (plain_words held) (plain_is_cut held) e
      → EndsIn limit (plain_words held) (plain_is_cut held) f → ⊥
  not_both e f other x y = other (one_ending limit (plain_words held) (plain_is_cut held) e f x y)

  -- without bytes and a rest of a run no word comes
  pub none_comes : (z p : ℕ) (rest : List ℕ) → z ≡ 0 → p ≡ 0 → rest ≡ [] → words_to_come z p rest ≡ []
  none_comes z p rest e f g = search rules

  module _ (size z p : ℕ) (rest : List ℕ) where
    pub one_stop : (a b : Answer) (n k w v : ℕ) (r q : CallReport) → StopsCall limit size held z p rest a n w r
        → StopsCall limit size held z p rest b k v q → (a ≡ b) × (n ≡ k) × (w ≡ v) × (r ≡ q)
    one_stop a b n k w v r q (stop.whole m f e g h i) (stop.whole m2 f2 e2 g2 h2 i2) = search (rules, one_whole m m2 (length held) (length held) f f2)
    one_stop a b n k w v r q (stop.too_many c f e g h i) (stop.too_many c2 f2 e2 g2 h2 i2) = search (rules, one_many)
    one_stop a b n k w v r q (stop.too_large c f e g h i) (stop.too_large c2 f2 e2 g2 h2 i2) = search (rules, one_large c c2 f f2)
    one_stop a b n k w v r q (too_small o x y e h i) (too_small o2 x2 y2 e2 h2 i2) = search (rules, one_needed)
    one_stop a b n k w v r q (no_message o x y s e g h i) (no_message o2 x2 y2 s2 e2 g2 h2 i2) = search rules
    one_stop a b n k w v r q (truncated c o x y e g h i) (truncated c2 o2 x2 y2 e2 g2 h2 i2) = search rules
    one_stop a b n k w v r q (stop.whole m f e g h i) (stop.too_many c f2 e2 g2 h2 i2) = absurd
        (not_both message too_many (λ j. cc) (ends_whole m (length held) f) f2.0)
    one_stop a b n k w v r q (stop.whole m f e g h i) (stop.too_large c f2 e2 g2 h2 i2) = absurd
        (not_both message too_large (λ j. cc) (ends_whole m (length held) f) f2.0)
    one_stop a b n k w v r q (stop.whole m f e g h i) (too_small o2 x2 y2 e2 h2 i2) = absurd
        (never_open message k (λ j. cc) (λ j. cc) (ends_whole m (length held) f) o2)
    one_stop a b n k w v r q (stop.whole m f e g h i) (no_message o2 x2 y2 s2 e2 g2 h2 i2) = absurd
        (never_open message 8 (λ j. cc) (λ j. cc) (ends_whole m (length held) f) (inl (o2, refl)))
    one_stop a b n k w v r q (stop.whole m f e g h i) (truncated c2 o2 x2 y2 e2 g2 h2 i2) = absurd
        (never_open message c2 (λ j. cc) (λ j. cc) (ends_whole m (length held) f) o2)
    one_stop a b n k w v r q (stop.too_many c f e g h i) (stop.whole m f2 e2 g2 h2 i2) = absurd
        (not_both too_many message (λ j. cc) f.0 (ends_whole m (length held) f2))
    one_stop a b n k w v r q (stop.too_many c f e g h i) (stop.too_large c2 f2 e2 g2 h2 i2) = search (rules, not_both too_many too_large (λ j. cc) f.0 f2.0)
    one_stop a b n k w v r q (stop.too_many c f e g h i) (too_small o2 x2 y2 e2 h2 i2) = search (rules, never_open too_many k (λ j. cc) (λ j. cc) f.0 o2)
    one_stop a b n k w v r q (stop.too_many c f e g h i) (no_message o2 x2 y2 s2 e2 g2 h2 i2) = search (rules, never_open)
    one_stop a b n k w v r q (stop.too_many c f e g h i) (truncated c2 o2 x2 y2 e2 g2 h2 i2) = search (rules, never_open too_many c2 (λ j. cc) (λ j. cc) f.0 o2)
    one_stop a b n k w v r q (stop.too_large c f e g h i) (stop.whole m f2 e2 g2 h2 i2) = absurd
        (not_both too_large message (λ j. cc) f.0 (ends_whole m (length held) f2))
    one_stop a b n k w v r q (stop.too_large c f e g h i) (stop.too_many c2 f2 e2 g2 h2 i2) = search (rules, not_both too_large too_many (λ j. cc) f.0 f2.0)
    one_stop a b n k w v r q (stop.too_large c f e g h i) (too_small o2 x2 y2 e2 h2 i2) = search (rules, never_open too_large k (λ j. cc) (λ j. cc) f.0 o2)
    one_stop a b n k w v r q (stop.too_large c f e g h i) (no_message o2 x2 y2 s2 e2 g2 h2 i2) = absurd
        (never_open too_large 8 (λ j. cc) (λ j. cc) f.0 (inl (o2, refl)))
    one_stop a b n k w v r q (stop.too_large c f e g h i) (truncated c2 o2 x2 y2 e2 g2 h2 i2) = absurd
        (never_open too_large c2 (λ j. cc) (λ j. cc) f.0 o2)
    one_stop a b n k w v r q (too_small o x y e h i) (stop.whole m f2 e2 g2 h2 i2) = absurd
        (never_open message n (λ j. cc) (λ j. cc) (ends_whole m (length held) f2) o)
    one_stop a b n k w v r q (too_small o x y e h i) (stop.too_many c2 f2 e2 g2 h2 i2) = search (rules, never_open too_many n (λ j. cc) (λ j. cc) f2.0 o)
    one_stop a b n k w v r q (too_small o x y e h i) (stop.too_large c2 f2 e2 g2 h2 i2) = search (rules, never_open too_large n (λ j. cc) (λ j. cc) f2.0 o)
    one_stop a b n k w v r q (too_small o x y e h i) (no_message o2 x2 y2 s2 e2 g2 h2 i2) = search (rules, none_comes)
    one_stop a b n k w v r q (too_small o x y e h i) (truncated c2 o2 x2 y2 e2 g2 h2 i2) = absurd (x x2)
    one_stop a b n k w v r q (no_message o x y s e g h i) (stop.whole m f2 e2 g2 h2 i2) = absurd
        (never_open message 8 (λ j. cc) (λ j. cc) (ends_whole m (length held) f2) (inl (o, refl)))
    one_stop a b n k w v r q (no_message o x y s e g h i) (stop.too_many c2 f2 e2 g2 h2 i2) = search (rules, never_open)
    one_stop a b n k w v r q (no_message o x y s e g h i) (stop.too_large c2 f2 e2 g2 h2 i2) = absurd
        (never_open too_large 8 (λ j. cc) (λ j. cc) f2.0 (inl (o, refl)))
    one_stop a b n k w v r q (no_message o x y s e g h i) (too_small o2 x2 y2 e2 h2 i2) = search (rules, none_comes)
    one_stop a b n k w v r q (no_message o x y s e g h i) (truncated c2 o2 x2 y2 e2 g2 h2 i2) = absurd (y2 (o, y, s))
    one_stop a b n k w v r q (truncated c o x y e g h i) (stop.whole m f2 e2 g2 h2 i2) = absurd
        (never_open message c (λ j. cc) (λ j. cc) (ends_whole m (length held) f2) o)
    one_stop a b n k w v r q (truncated c o x y e g h i) (stop.too_many c2 f2 e2 g2 h2 i2) = search (rules, never_open too_many c (λ j. cc) (λ j. cc) f2.0 o)
    one_stop a b n k w v r q (truncated c o x y e g h i) (stop.too_large c2 f2 e2 g2 h2 i2) = search (rules, never_open too_large c (λ j. cc) (λ j. cc) f2.0 o)
    one_stop a b n k w v r q (truncated c o x y e g h i) (too_small o2 x2 y2 e2 h2 i2) = absurd (x2 x)
    one_stop a b n k w v r q (truncated c o x y e g h i) (no_message o2 x2 y2 s2 e2 g2 h2 i2) = absurd (y (o2, y2, s2))

-- no bytes give the zero words of a run alone
nothing_more : (z p : ℕ) → words_to_come z p [] ≡ replicate z 0
nothing_more z p = search (rules, take_all, drop_all, append-nil)

-- zero bytes for p literal words and a group more
abbrev probe : ℕ → List ℕ
probe p = replicate (8 * p + 2) 0

probe_long : (z p : ℕ) → length (words_to_come z p (probe p)) ≡ z + (p + 1)
probe_long z p =
    let front : take (8 * p) (probe p) ≡ replicate (8 * p) 0 = take-replicate (8 * p) (8 * p + 2) 0 (omega arith) in
    let two : 8 * p + 2 - 8 * p ≡ 2 = omega arith in
    let back : drop (8 * p) (probe p) ≡ 0 ∷ 0 ∷ [] = drop-replicate (8 * p) (8 * p + 2) 0 ∙ ap (λ (k : ℕ). replicate k 0) two in
    search (rules, length-append, length-replicate, words_exact)

probe_short : (z p q : ℕ) → p < q → length (words_to_come z q (probe p)) ≡ z + p
probe_short z p q h = search (rules, length-replicate, take_all, drop_all, length-append, words_exact)

-- Two places that give the same words, whatever bytes follow, are one.
one_place : (z p y q : ℕ) → ((more : List ℕ) → words_to_come z p more ≡ words_to_come y q more) → (z ≡ y) × (p ≡ q)
one_place z p y q same =
    let zeros : z ≡ y =
    sym (length-replicate z 0) ∙ (ap length (sym (nothing_more z p) ∙ (same [] ∙ nothing_more y q)) ∙ length-replicate y 0) in (
      zeros,
      elim (cases_lt p q) [
        | inl less ↦ (let e = ap length (same (probe p)) in absurd (omega (arith, e, probe_long z p, probe_short y p q less, zeros)))
        | inr more ↦ elim (cases_lt q p) [
          | inl less ↦ (let e = ap length (same (probe q)) in absurd (omega (arith, e, probe_long y q, probe_short z q p less, zeros)))
          | inr also ↦ omega (arith, more, also)
        ]
      ],
    )

-- fewer bytes do not give the words
not_fewer : (z p y q x r t u : ℕ) (bytes ws : List ℕ) → GivesWords z p bytes ws t y q → GivesWords z p bytes ws u x r → t < u → ⊥
not_fewer z p y q x r t u bytes ws f g less = search (rules, append-nil (take t bytes), length-append ws (words_to_come y q []))

-- So words are followed by one place.
pub one_lead : (z p y q x r t u : ℕ) (bytes ws : List ℕ) → GivesWords z p bytes ws t y q → GivesWords z p bytes ws u x r
    → (t ≡ u) × (y ≡ x) × (q ≡ r)
one_lead z p y q x r t u bytes ws f g = elim (cases_lt t u) [
  | inl less ↦ absurd (not_fewer z p y q x r t u bytes ws f g less)
  | inr more ↦ elim (cases_lt u t) [
    | inl less ↦ absurd (not_fewer z p x r y q u t bytes ws g f less)
    | inr also ↦
        let same : t ≡ u = omega (arith, more, also) in
        let at = one_place y q x r
        (λ more. append_cancel_left ws _ _
        (sym (f.gives more) ∙ (ap (λ (k : ℕ). words_to_come z p (take k bytes ++ more)) same ∙ g.gives more))) in
        (same, at.0, at.1)
  ]
]

-- The words that came are the first of those that the bytes give.
pub words_first : (z p y q t : ℕ) (bytes ws : List ℕ) → GivesWords z p bytes ws t y q
    → words_to_come z p bytes ≡ ws ++ words_to_come y q (drop t bytes)
words_first z p y q t bytes ws f = search (rules, take-append-drop)

-- The bytes of the message after some of the appended words.
held_after : (limit : ℕ) (bytes old new : List ℕ) (state : Unpacking) (ws front tail : List ℕ) (c z p : ℕ) → ws ≡ front ++ tail
    → Appends limit bytes old state ws c z p new
    → take (state.written + 8 * length front) new ≡ take state.written old ++ plain_text front
held_after limit bytes old new state ws front tail c z p e t =
    search (rules, flat_map-append, append_assoc, length-take-le, take_at, length-append, length_plain)

-- A call that stops does not append fewer words than another.
stops_last : (limit : ℕ) (bytes old new longer : List ℕ) (state : Unpacking) (ws vs : List ℕ) (c z p d y q : ℕ) (a : Answer)
    (n w : ℕ) (r : CallReport) → Appends limit bytes old state ws c z p new → Appends limit bytes old state vs d y q longer
    → length ws < length vs
    → StopsCall limit (length old) (take (state.written + 8 * length ws) new) z p (drop c bytes) a n w r → ⊥
stops_last limit bytes old new longer state ws vs c z p d y q a n w r f g less s =
    let more = words_to_come z p (drop c bytes) in
    let others = words_to_come y q (drop d bytes) in
    let all : ws ++ more ≡ vs ++ others =
    sym (words_first state.zero_words state.literal_words z p c bytes ws f.leads)
    ∙ words_first state.zero_words state.literal_words y q d bytes vs g.leads in
    let front : ws ≡ take (length ws) vs =
    sym (take_at ws more (length ws) refl) ∙ (ap (take (length ws)) all ∙ take-append-le (length ws) vs others (omega (arith, less))) in
    let tail = drop (length ws) vs in
    let split : vs ≡ ws ++ tail =
    sym (take-append-drop (length ws) vs) ∙ ap (λ (l : List ℕ). l ++ tail) (sym front) in
    let held = take (state.written + 8 * length ws) new in
    let same : take (state.written + 8 * length ws) longer ≡ held =
    held_after limit bytes old longer state vs ws tail d y q split g
    ∙ sym (held_after limit bytes old new state ws ws [] c z p (sym (append-nil ws)) f) in
    let goes_on = g.before (length ws) less in
    let still : IsOpen limit held goes_on.0 = subst (λ (l : List ℕ). IsOpen limit l goes_on.0) same goes_on.1 in
    let some : 0 < length more = omega (arith, ap length all, length-append ws more, length-append vs others, less) in
    let long : length held ≡ state.written + 8 * length ws =
    search (rules, length-take-le, length-append, length_plain) in
    not_last held goes_on.0 still s some (omega (arith, long, g.fits, less))
  where
    not_last : (held : List ℕ) (needed : ℕ) → IsOpen limit held needed
        → StopsCall limit (length old) held z p (drop c bytes) a n w r → 0 < length (words_to_come z p (drop c bytes))
        → length held + 8 ≤ length old → ⊥
    not_last held needed o (stop.whole m f e g h i) some capacity = open_not_whole limit needed (length held) held m o f
    not_last held needed o (stop.too_many k f e g h i) some capacity = never_open limit held too_many needed (λ j. cc) (λ j. cc) f.0 o
    not_last held needed o (stop.too_large k f e g h i) some capacity = never_open limit held too_large needed (λ j. cc) (λ j. cc) f.0 o
    not_last held needed o (stop.too_small x y e g h i) some capacity = omega (arith, e, capacity)
    not_last held needed o (stop.no_message x y e g h i j k) some capacity =
        omega (arith, some, ap length (none_comes limit held z p (drop c bytes) y e g))
    not_last held needed o (stop.truncated k x y e g h i j) some capacity = omega (arith, some, ap length y)

-- So two calls append the same words.
same_words : (limit : ℕ) (bytes old new longer : List ℕ) (state : Unpacking) (ws vs : List ℕ) (c z p d y q : ℕ) (a b : Answer)
    (n k w v : ℕ) (r s : CallReport) → Appends limit bytes old state ws c z p new → Appends limit bytes old state vs d y q longer
    → StopsCall limit (length old) (take (state.written + 8 * length ws) new) z p (drop c bytes) a n w r
    → StopsCall limit (length old) (take (state.written + 8 * length vs) longer) y q (drop d bytes) b k v s → ws ≡ vs
same_words limit bytes old new longer state ws vs c z p d y q a b n k w v r s f g h i = elim (cases_lt (length ws) (length vs)) [
  | inl less ↦ absurd (stops_last limit bytes old new longer state ws vs c z p d y q a n w r f g less h)
  | inr more ↦ elim (cases_lt (length vs) (length ws)) [
    | inl less ↦ absurd (stops_last limit bytes old longer new state vs ws d y q c z p b k v s g f less i)
    | inr also ↦
        let all = sym (words_first state.zero_words state.literal_words z p c bytes ws f.leads)
        ∙ words_first state.zero_words state.literal_words y q d bytes vs g.leads in
        let one : length ws ≡ length vs = omega (arith, more, also) in
        sym (take_at ws (words_to_come z p (drop c bytes)) (length ws) refl)
        ∙ (ap (take (length ws)) all ∙ take_at vs (words_to_come y q (drop d bytes)) (length ws) (sym one))
  ]
]

-- What is reported of the same words.
reported_once : (limit : ℕ) (bytes old new longer : List ℕ) (state left last : Unpacking) (ws vs : List ℕ) (c z p d y x : ℕ) (a b : Answer)
    (n k w v : ℕ) (r q : CallReport) → Appends limit bytes old state ws c z p new → Appends limit bytes old state vs d y x longer
    → StopsCall limit (length old) (take (state.written + 8 * length ws) new) z p (drop c bytes) a n w r
    → StopsCall limit (length old) (take (state.written + 8 * length vs) longer) y x (drop d bytes) b k v q
    → left ≡ state_of w z p state → last ≡ state_of v y x state
    → (a ≡ b) × (c ≡ d) × (n ≡ k) × (new ≡ longer) × (left ≡ last) × (r ≡ q)
reported_once limit bytes old new longer state left last ws vs c z p d y x a b n k w v r q f g h i e j =
    let same = same_words limit bytes old new longer state ws vs c z p d y x a b n k w v r q f g h i in
    let text : new ≡ longer = search rules in
    let place = one_lead state.zero_words state.literal_words z p y x c d bytes ws f.leads
    (subst (λ (l : List ℕ). GivesWords state.zero_words state.literal_words bytes l d y x) (sym same) g.leads) in
    let held : take (state.written + 8 * length vs) longer ≡ take (state.written + 8 * length ws) new =
    ap₂ (λ (l m : List ℕ). take (state.written + 8 * length l) m) (sym same) (sym text) in
    let stop = subst (λ (m : List ℕ). StopsCall limit (length old) m z p (drop c bytes) b k v q) held
    (subst (λ (t : ℕ). StopsCall limit (length old) (take (state.written + 8 * length vs) longer) z p (drop t bytes) b k v q)
    (sym place.0)
    (subst (λ (t : ℕ). StopsCall limit (length old) (take (state.written + 8 * length vs) longer) z t (drop d bytes) b k v q)
    (sym place.2)
    (subst (λ (t : ℕ). StopsCall limit (length old) (take (state.written + 8 * length vs) longer) t x (drop d bytes) b k v q)
    (sym place.1) i))) in
    search (rules, one_stop limit (take (state.written + 8 * length ws) new) (length old) z p (drop c bytes) a b n k w v r q h stop)

pub one_unpack_reported : (l : CallLimits) (bs old : List ℕ) (state : Unpacking) (a b : Answer) (c d n k : ℕ) (xs ys : List ℕ)
    (left last : Unpacking) (r q : CallReport) → ReportsUnpackMessage l bs old state a c n xs left r
    → ReportsUnpackMessage l bs old state b d k ys last q
    → (a ≡ b) × (c ≡ d) × (n ≡ k) × (xs ≡ ys) × (left ≡ last) × (r ≡ q)
one_unpack_reported l bs old state a b c d n k xs ys left last r q (bad not_good e f g h i j) (bad also s t u v w x) = search rules
one_unpack_reported l bs old state a b c d n k xs ys left last r q (bad not_good e f g h i j) (unpacks vs y x v lim is g2 s w) = search rules
one_unpack_reported l bs old state a b c d n k xs ys left last r q (unpacks ws z p w lim is f s e) (bad not_good t u v g h i) = search rules
one_unpack_reported l bs old state a b c d n k xs ys left last r q (unpacks ws z p w lim is f h e) (unpacks vs y x v also it g i j) =
    reported_once l.message_words bs old xs ys state left last ws vs c z p d y x a b n k w v r q f g h i e j
