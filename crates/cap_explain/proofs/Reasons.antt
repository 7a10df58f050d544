-- Each sentence is true where its reason holds.
use Rattle.cap_spec.proofs.ProofNames.{List, None, Option, Some, [], append_assoc, arith, cases_lt, codes, eq-eqb, eqb_tells}
use Rattle.cap_spec.proofs.ProofNames.{false, false≢true, ◌∙◌, inl, inr, ints, le-ltb, lt-ltb, pos, refl, subst, sym, true, ℕ, ℤ}
use Rattle.cap_spec.proofs.ProofNames.{◌++◌, ◌<◌, ◌∷◌, ◌≡◌, ◌⊎◌, Condition, HasWord, IsComposite, IsDeepAt}
use Rattle.cap_spec.proofs.ProofNames.{IsFirstFault, IsFirstOverlap, IsFirstReason, IsLaxAt, IsRefused, Leads, Reaches}
use Rattle.cap_spec.proofs.ProofNames.{code, far_segment, is_deep, is_past, kind, levels_below, near, one_pad, pad}
use Rattle.cap_spec.proofs.ProofNames.{to_object, two_pads}
use Rattle.cap_spec.specs.declared.Lax.{Lax}
use Rattle.cap_spec.specs.declared.Lax.TheVariants.{CapabilityPad, EmptySegment, NullPad}
use Rattle.cap_spec.specs.declared.Reason.{Reason}
use Rattle.cap_spec.specs.declared.Reason.TheVariants.{CompositeOverrun, CompositeTag, DepthLimit, OutOfSegment}
use Rattle.cap_spec.specs.declared.Reason.TheVariants.{PadIsFar, PadNotFar, PadOutside, Reserved, SegmentMissing}
use Rattle.cap_spec.specs.declared.Reason.TheVariants.{TagKind, TagOffset, WordLimit}
use Rattle.cap_spec.specs.declared.Refusal.{Refusal}
use Rattle.cap_spec.specs.declared.Step.{Step}
use Rattle.cap_spec.specs.Faults.{is_wrong}
use Rattle.cap_spec.specs.Following.{Outside}
use Rattle.cap_spec.proofs.Trees.Charges.{lead_kind}
use Rattle.cap_spec.specs.declared.Reason.TheVariants.{NoRoot}
use Rattle.cap_spec.specs.declared.StrictRefusal.{StrictRefusal}
use Rattle.cap_spec.specs.declared.StrictRefusal.TheVariants.{ManySegments as many, Pointer as not_strict}
use Rattle.cap_spec.specs.declared.StrictRefusal.TheVariants.{Refused as refused}
use Rattle.cap_walk.specs.Demands.{IsDemandFault, words_under}
use Rattle.cap_walk.specs.declared.demands.Demands.{Demands}
use Rattle.cap_ptr.specs.Shapes.{is_structs}
use Rattle.cap_explain.specs.Explaining.{lines_at, lines_of, refusal_lines}
use Rattle.cap_explain.specs.Leading.{landing_of, word_of}
use Rattle.cap_explain.specs.Meanings.{HasTrueReason, IsTrue, begins_before, capability_pad, composite_overrun}
use Rattle.cap_explain.specs.Meanings.{composite_tag, deep_structs, deep_target, empty_segment, many_segments, no_root}
use Rattle.cap_explain.specs.Meanings.{null_pad, overlaps, pad_is_far, pad_names_missing, pad_not_far, pad_outside}
use Rattle.cap_explain.specs.Meanings.{past_charge, pointer_names_missing, reserved_pad, reserved_pointer, runs_past}
use Rattle.cap_explain.specs.Meanings.{segment_named, tag_kind, tag_offset, target_at, word_named}
use Rattle.cap_explain.specs.Sentences.{sentence}
use Rattle.cap_explain.specs.declared.landing.Landing.{Landing}
use Rattle.cap_explain.specs.declared.landing.Landing.TheVariants.{Near}
use Rattle.cap_explain.specs.declared.numbers.Numbers.{Numbers}
use Rattle.cap_explain.specs.declared.sentences.Fault.{Fault}
use Rattle.cap_explain.specs.declared.sentences.Fault.TheVariants.{ManySegments, NotStrict, Overlap, Refused}
use Rattle.cap_explain.specs.declared.target.Target.{Target}
use Rattle.cap_explain.proofs.Targets.{missing_landing, near_landing, one_landing, shown_of, two_landing}

-- a word is one of a list of structs, or not
is_list : (q : ℕ) → IsComposite q ⊎ ((q' : ℕ) → q' ≡ q → is_structs q' ≡ false)
is_list q =
    elim (eqb_tells (kind q) 1) [
      | inl (x, one) ↦ elim (eqb_tells (code q) 7) [
        | inl (y, seven) ↦ inl (one, seven)
        | inr (y, n) ↦ inr (λ q' e. rw (e, x, y) refl)
      ]
      | inr (x, n) ↦ inr (λ q' e. rw (e, x) refl)
    ]

structs : (q' q : ℕ) → q' ≡ q → IsComposite q → is_structs q' ≡ true
structs q' q e list = rw (e, eq-eqb (kind q) 1 list.0, eq-eqb (code q) 7 list.1) refl

-- nothing is below another object
no_levels : (q tag : ℕ) → is_structs q ≡ false → kind q < 2 → levels_below q tag ≡ 0
no_levels q tag e below =
    elim (eqb_tells (kind q) 0) [
      | inl (x, zero) ↦ rw x refl
      | inr (x, n) ↦ elim (eqb_tells (code q) 7) [
        | inl (y, seven) ↦ absurd (false≢true (sym e ∙ structs q q refl (omega (arith, n, below), seven)))
        | inr (y, other) ↦ rw (x, y) refl
      ]
    ]

-- the sentence by the word that is named, if it exists
abbrev pub sentence_by : List (List ℕ) → Fault → ℕ → ℕ → Option ℕ → List ℕ
sentence_by m fault s w None = sentence fault Near None
sentence_by m fault s w (Some p) = sentence fault (landing_of m p) (target_at m s w p)

-- it is the last line
lines_last : (m : List (List ℕ)) (fault : Fault) (s w : ℕ) (k : Numbers) (o : Option ℕ)
    → (before : List ℕ) × (lines_at m fault s w k o ≡ before ++ (codes "  reason " ++ sentence_by m fault s w o ++ 10 ∷ []))
lines_last m fault s w k None = ([], refl)
lines_last m fault s w k (Some p) = (_, refl)

-- the sentence of the pointer at s:w is true
abbrev pub IsTrueHere : List (List ℕ) → ℕ → ℕ → ℕ → ℕ → Fault → Type 0
IsTrueHere m words depth s w fault = IsTrue m words depth s w (sentence_by m fault s w (word_of m s w))

-- so the lines end with a true reason
pub true_lines : (m : List (List ℕ)) (words depth s w : ℕ) (fault : Fault) (front : List ℕ) (k : Numbers)
    → IsTrueHere m words depth s w fault → HasTrueReason m words depth s w (front ++ lines_of m fault s w k)
true_lines m words depth s w fault front k h =
    let (before, last) = lines_last m fault s w k (word_of m s w) in
    record {
      before = front ++ before;
      sentence = sentence_by m fault s w (word_of m s w);
      last = rw last (sym (append_assoc front before _));
      holds = h;
    }

-- a sentence that doesn't depend on the pad or the target
plain_sentence : (m : List (List ℕ)) (words depth s w : ℕ) (fault : Fault) (o : Option ℕ)
    → ((pad : Landing) (target : Option Target) → IsTrue m words depth s w (sentence fault pad target))
    → IsTrue m words depth s w (sentence_by m fault s w o)
plain_sentence m words depth s w fault None h = h Near None
plain_sentence m words depth s w fault (Some p) h = h (landing_of m p) (target_at m s w p)

module _ (m : List (List ℕ)) (words depth s w : ℕ) where
  -- the target is not inside its segment
  true_outside : (k t : ℕ) (b : ℤ) (q : ℕ) → Leads m s w k (to_object t b q) → Outside m t b q
      → IsTrueHere m words depth s w (Refused OutOfSegment)
  true_outside k t b q leads (there, out) =
      let (p, h, x) = shown_of m s w k t b q leads in
      elim (cases_lt x.shown.start x.shown.excess) [
        | inl before ↦ rw (h, x.is_shown, lt-ltb x.shown.start x.shown.excess before)
            (begins_before refl k t b q leads there (omega (arith, ints, x.begin, before)))
        | inr after ↦ rw (h, x.is_shown, le-ltb x.shown.start x.shown.excess after) (elim out [
          | inl low ↦ absurd (omega (arith, ints, x.begin, low, after))
          | inr past ↦ runs_past refl k t b q leads there past
        ])
      ]

  -- what a condition says
  true_condition : (v : Reason) → Condition m s w v → IsTrueHere m words depth s w (Refused v)
  true_condition NoRoot c = elim c [ ]
  true_condition DepthLimit c = elim c [ ]
  true_condition WordLimit c = elim c [ ]
  true_condition Reserved (p, h, inl r) = rw (h, near_landing m p (λ e. omega (arith, e, r.0))) (reserved_pointer refl p h r)
  true_condition Reserved (p, h, inr (one, q, hq, r)) = rw (h, one_landing m p q one hq) (reserved_pad refl p q h one hq r)
  true_condition SegmentMissing (p, h, far, inl gone) = rw (h, missing_landing m p far gone) (pointer_names_missing refl p h far gone)
  true_condition SegmentMissing (p, h, far, inr (long, f, q, hf, hq, one, gone)) =
      rw (h, two_landing m p f q (far, long) hf hq) (pad_names_missing refl p f h (far, long) hf one.0 gone)
  true_condition PadOutside (p, h, far, missing) = rw h (pad_outside refl p h far missing)
  true_condition PadIsFar (p, q, h, one, hq, far) = rw h (pad_is_far refl p q h one hq far)
  true_condition PadNotFar (p, f, q, h, both, hf, hq, n) = rw h (pad_not_far refl p f h both hf n)
  true_condition TagKind (p, f, q, h, both, hf, hq, k) = rw h (tag_kind refl p q h both hq k)
  true_condition TagOffset (p, f, q, h, both, hf, hq, k) = rw h (tag_offset refl p q h both hq k)
  true_condition OutOfSegment (k, t, b, q, leads, out) = true_outside k t b q leads out
  true_condition CompositeTag (k, t, b, q, tag, leads, list, has, n) =
      let (p, h, x) = shown_of m s w k t (pos b) q leads in
      rw h (composite_tag refl k t b q tag leads list has n)
  true_condition CompositeOverrun (k, t, b, q, tag, leads, list, has, past) =
      let (p, h, x) = shown_of m s w k t (pos b) q leads in
      rw h (composite_overrun refl k t b q tag leads list has past)

  -- the target is too deep
  true_deep : (path : List Step) (level : ℕ) → Reaches m path level s w → IsDeepAt m depth s w level
      → IsTrueHere m words depth s w (Refused DepthLimit)
  true_deep path level reached (k, t, b, q, tag, finds, tagged, past) =
      let (p, h, x) = shown_of m s w k t (pos b) q finds.leads in
      elim (is_list q) [
        | inl list ↦ rw (h, x.is_shown, structs x.shown.word q x.word list)
            (deep_structs refl path level k t b q tag reached finds list tagged past)
        | inr other ↦
            let none_below = no_levels q tag (other q refl) (lead_kind m s w k t (pos b) q finds.leads) in
            rw (h, x.is_shown, other x.shown.word x.word) (deep_target refl path level k t b q reached finds (omega (arith, past, none_below)))
      ]

  -- the first reason at the pointer that is named
  true_first : (r : Refusal) (f : IsFirstFault m words depth r) → r.segment ≡ s → r.word ≡ w → (path : List Step)
      (level : ℕ) → Reaches m path level s w → (v : Reason) → IsFirstReason m words depth f.fault.charge s w level v
      → IsTrueHere m words depth s w (Refused v)
  true_first r f x y path level reached v (is_wrong wrong) = true_condition v wrong.holds
  true_first r f x y path level reached v (is_deep named deep) =
      subst (λ (u : Reason). IsTrueHere m words depth s w (Refused u)) (sym named) (true_deep path level reached deep)
  true_first r f x y path level reached v (is_past cost named shallow costs past) =
      subst (λ (u : Reason). IsTrueHere m words depth s w (Refused u)) (sym named)
      (plain_sentence m words depth s w (Refused WordLimit) (word_of m s w) (λ pad target. past_charge refl r f cost x y costs past))

  -- the word of a one-word pad
  true_lax : (what : Lax) → IsLaxAt m s w what → IsTrueHere m words depth s w (NotStrict what)
  true_lax NullPad (near p h n says z) = absurd (omega (arith, z))
  true_lax NullPad (one_pad p q h one hq n says z) = rw h (null_pad refl p h one (subst (HasWord m (far_segment p) (pad p)) says hq))
  true_lax NullPad (two_pads p f q h both hf hq one tag lead z) = absurd (omega (arith, z))
  true_lax CapabilityPad (i, near p h n says z) = absurd (omega (arith, z))
  true_lax CapabilityPad (i, one_pad p q h one hq n says z) = rw h (capability_pad refl p q h one hq says.0)
  true_lax CapabilityPad (i, two_pads p f q h both hf hq one tag lead z) = absurd (omega (arith, z))
  true_lax EmptySegment (k, t, b, q, finds, empty) =
      let (p, h, x) = shown_of m s w k t (pos b) q finds.leads in
      rw h (empty_segment refl k t b q finds empty)

  -- the overlap
  pub true_overlap : (pointers : ℕ) → IsFirstOverlap m s w pointers → IsTrueHere m words depth s w Overlap
  true_overlap pointers f = plain_sentence m words depth s w Overlap (word_of m s w)
      (λ pad target. overlaps refl f.path pointers f.numbered f.first.holds)

true_refused : (m : List (List ℕ)) (words depth : ℕ) (r : Refusal) → IsRefused m words depth r
    → IsTrueHere m words depth r.segment r.word (Refused r.reason)
true_refused m words depth r (inl none) =
    subst (λ (u : Reason). IsTrueHere m words depth r.segment r.word (Refused u)) (sym none.lacks.reason)
    (plain_sentence m words depth r.segment r.word (Refused NoRoot) (word_of m r.segment r.word)
    (λ pad target. no_root refl none.lacks.empty))
true_refused m words depth r (inr f) = true_first m words depth r.segment r.word r f refl refl f.path f.fault.numbered.level
    f.fault.numbered.reached r.reason f.fault.reason

-- the lines on a message that doesn't meet the demands end with a true reason
pub true_reason : (demands : Demands) (m : List (List ℕ)) (words depth : ℕ) (fault : StrictRefusal) (front : List ℕ)
    (k : Numbers) → IsDemandFault demands m words depth fault
    → HasTrueReason m (words_under demands m words) depth (segment_named fault) (word_named fault) (front ++ refusal_lines m fault k)
true_reason demands m words depth (refused r) front k h =
    true_lines m (words_under demands m words) depth r.segment r.word (Refused r.reason) front k
    (true_refused m (words_under demands m words) depth r h)
true_reason demands m words depth many front k h =
    let (strict, (within, all)) = h in
    true_lines m (words_under demands m words) depth 0 0 ManySegments front k
    (plain_sentence m (words_under demands m words) depth 0 0 ManySegments (word_of m 0 0) (λ pad target. many_segments refl all))
true_reason demands m words depth (not_strict what s w pointers) front k h =
    let (strict, (within, few, first)) = h in
    true_lines m (words_under demands m words) depth s w (NotStrict what) front k
    (true_lax m (words_under demands m words) depth s w what first.lax)
