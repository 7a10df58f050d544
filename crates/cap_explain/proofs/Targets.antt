-- The landing pad and the target that the lines show, in the terms of the format.
use Rattle.cap_spec.proofs.Frames.Messages.{HasWord-segment}
use Rattle.cap_spec.proofs.ProofNames.{List, None, Option, Some, ap, arith, cases_lt, eq-eqb, eqb_tells, inl, inr, ints}
use Rattle.cap_spec.proofs.ProofNames.{le-ltb, length, lt-ltb, ne_eqb, pos, refl, subst, sym, ℕ, ℤ, ◌+ℤ◌, ◌+◌, ◌<◌}
use Rattle.cap_spec.proofs.ProofNames.{◌^◌, ◌∙◌, ◌≡◌, ◌≢◌, ◌≤◌, HasWord, IsComposite, IsFar, IsOnePad, IsTwoPad, Leads}
use Rattle.cap_spec.proofs.ProofNames.{code, far_segment, kind, middle, near, one_pad, pad, signed_offset_of, to_object}
use Rattle.cap_spec.proofs.ProofNames.{two, two_pads, Says, Lead, same_Some, false}
use Rattle.cap_spec.specs.Following.{IsTag}
use Rattle.std.proofs.Common.{eqb, ◌-ℤ◌, ◌-◌}
use Rattle.cap_explain.specs.FormTexts.{excess}
use Rattle.cap_explain.specs.Leading.{landing_of, segment_after, list_tag, target_after, target_of, target_over}
use Rattle.cap_explain.specs.Leading.{word_of}
use Rattle.cap_explain.specs.Meanings.{Shows, begin_of, target_at}
use Rattle.cap_explain.specs.declared.landing.Landing.{Landing}
use Rattle.cap_explain.specs.declared.landing.Landing.TheVariants.{Missing, Near, One, Outside, Two}
use Rattle.cap_explain.specs.declared.target.Target.{Target}

-- The landing pad of a word: it isn't far,
pub near_landing : (m : List (List ℕ)) (p : ℕ) → kind p ≢ 2 → landing_of m p ≡ Near
near_landing m p n = rw (ne_eqb (kind p) 2 n) refl

-- its segment doesn't exist,
pub missing_landing : (m : List (List ℕ)) (p : ℕ) → IsFar p → length m ≤ far_segment p → landing_of m p ≡ Missing
missing_landing m p far gone = rw (eq-eqb (kind p) 2 far, le-ltb (far_segment p) (length m) gone) refl

-- it has one word,
pub one_landing : (m : List (List ℕ)) (p q : ℕ) → IsOnePad p → HasWord m (far_segment p) (pad p) q → landing_of m p ≡ One q
one_landing m p q one h =
    rw (eq-eqb (kind p) 2 one.0, lt-ltb (far_segment p) (length m) (HasWord-segment m (far_segment p) (pad p) q h), h, eq-eqb (two p) 0 one.1) refl

-- or it has two.
pub two_landing : (m : List (List ℕ)) (p f q : ℕ) → IsTwoPad p → HasWord m (far_segment p) (pad p) f
    → HasWord m (far_segment p) (pad p + 1) q → landing_of m p ≡ Two f q
two_landing m p f q both hf hq =
    let long : two p ≢ 0 = λ e. omega (arith, e, both.1) in
    rw (eq-eqb (kind p) 2 both.0, lt-ltb (far_segment p) (length m) (HasWord-segment m (far_segment p) (pad p) f hf), hf, hq, ne_eqb (two p) 0 long) refl

-- the target of a near pointer
abbrev object_after : ℕ → ℕ → ℕ → Target
object_after t w q = record { segment = t; start = w + 1 + middle q; excess = excess (middle q); word = q }

after_is : (t w q : ℕ) → kind q < 2 → q ≢ 0 → target_after t w q ≡ Some (object_after t w q)
after_is t w q below some = rw (ne_eqb q 0 some, lt-ltb (kind q) 2 below) refl

from_zero : (a : ℕ) → pos a -ℤ pos 0 ≡ pos a
from_zero a = omega (arith, ints)

-- where it begins
begin_after : (w q : ℕ) → pos (w + 1 + middle q) -ℤ pos (excess (middle q)) ≡ pos (w + 1) +ℤ signed_offset_of q
begin_after w q =
    elim (cases_lt (middle q) (2 ^ 29)) [
      | inl small ↦ rw (lt-ltb (middle q) (2 ^ 29) small) (omega (arith, ints))
      | inr large ↦ rw (le-ltb (middle q) (2 ^ 29) large) (omega (arith, ints))
    ]

shows_after : (target : Option Target) (t w q : ℕ) → target ≡ target_after t w q → kind q < 2 → q ≢ 0
    → Shows target t (pos (w + 1) +ℤ signed_offset_of q) q
shows_after target t w q e below some = record {
  shown = object_after t w q;
  is_shown = e ∙ after_is t w q below some;
  segment = refl;
  begin = begin_after w q;
  word = refl;
}

-- the target of two pad words
abbrev object_over : ℕ → ℕ → Target
object_over f r = record { segment = far_segment f; start = pad f; excess = 0; word = r }

over_is : (f r : ℕ) → IsOnePad f → IsTag r → target_over f r ≡ Some (object_over f r)
over_is f r one tag =
    rw (eq-eqb (kind f) 2 one.0, eq-eqb (two f) 0 one.1, lt-ltb (kind r) 2 tag.0, eq-eqb (middle r) 0 tag.1) refl

-- the parts of what a pointer leads to
abbrev segment_in : Lead → ℕ
segment_in (to_object t b q) = t
segment_in _ = 0

abbrev begin_in : Lead → ℤ
begin_in (to_object t b q) = b
begin_in _ = pos 0

abbrev shape_in : Lead → ℕ
shape_in (to_object t b q) = q
shape_in _ = 0

-- what a pointer leads to is shown
pub shown_of : (m : List (List ℕ)) (s w k t : ℕ) (b : ℤ) (q : ℕ) → Leads m s w k (to_object t b q)
    → (p : ℕ) × HasWord m s w p × Shows (target_at m s w p) t b q
shown_of m s w k t b q (near p h n (below, some, segment, start, shape) z) =
    let own = shows_after (target_at m s w p) s w p (ap (target_of s w p) (near_landing m p n)) below some in
    (p, h, rw (segment, start, shape) own)
shown_of m s w k t b q (one_pad p r h one hr n (below, some, segment, start, shape) z) =
    let own = shows_after (target_at m s w p) (far_segment p) (pad p) r (ap (target_of s w p) (one_landing m p r one hr)) below some in
    (p, h, rw (segment, start, shape) own)
shown_of m s w k t b q (two_pads p f r h both hf hr one tag lead z) = (
  p,
  h,
  record {
    shown = object_over f r;
    is_shown = ap (target_of s w p) (two_landing m p f r both hf hr) ∙ over_is f r one tag;
    segment = sym (ap segment_in lead);
    begin = from_zero (pad f) ∙ sym (ap begin_in lead);
    word = sym (ap shape_in lead);
  },
)

-- the landing pad of a word, by its form
pub data Landed (m : List (List ℕ)) (p : ℕ) (landing : Landing) : Type 0 where
  lands_near : kind p ≢ 2 → landing ≡ Near → Landed m p landing
  lands_missing : landing ≡ Missing → Landed m p landing
  lands_outside : landing ≡ Outside → Landed m p landing
  lands_one : (q : ℕ) → IsOnePad p → HasWord m (far_segment p) (pad p) q → landing ≡ One q → Landed m p landing
  lands_two : (f q : ℕ) → IsTwoPad p → HasWord m (far_segment p) (pad p) f → HasWord m (far_segment p) (pad p + 1) q
      → landing ≡ Two f q → Landed m p landing

module _ (m : List (List ℕ)) (p : ℕ) (far : IsFar p) (there : far_segment p < length m) where
  far_landed : (first second : Option ℕ) → word_of m (far_segment p) (pad p) ≡ first → word_of m (far_segment p) (pad p + 1) ≡ second
      → Landed m p (landing_of m p)
  far_landed None second a b =
      lands_outside (rw (eq-eqb (kind p) 2 far, lt-ltb (far_segment p) (length m) there, a) refl)
  far_landed (Some f) second a b =
      elim (eqb_tells (two p) 0) [
        | inl (x, zero) ↦ lands_one f (far, zero) a (one_landing m p f (far, zero) a)
        | inr (x, long) ↦ two_landed second b x long
      ]
    where
      two_landed : (o : Option ℕ) → word_of m (far_segment p) (pad p + 1) ≡ o → eqb (two p) 0 ≡ false → two p ≢ 0
          → Landed m p (landing_of m p)
      two_landed None c x long =
          lands_outside (rw (eq-eqb (kind p) 2 far, lt-ltb (far_segment p) (length m) there, a, c, x) refl)
      two_landed (Some q) c x long =
          let both : IsTwoPad p = (far, omega (arith, long)) in
          lands_two f q both a c (two_landing m p f q both a c)

pub landed : (m : List (List ℕ)) (p : ℕ) → Landed m p (landing_of m p)
landed m p =
    elim (eqb_tells (kind p) 2) [
      | inr (x, n) ↦ lands_near n (near_landing m p n)
      | inl (x, far) ↦ elim (cases_lt (far_segment p) (length m)) [
        | inr gone ↦ lands_missing (missing_landing m p far gone)
        | inl there ↦ far_landed m p far there (word_of m (far_segment p) (pad p)) (word_of m (far_segment p) (pad p + 1)) refl refl
      ]
    ]

-- nothing is something
abbrev Holds : {A : Type 0} → Option A → Type 0
Holds None = Unit {0}
Holds (Some x) = ⊥

nothing : {A : Type 0} (x : A) → None ≡ Some x → ⊥
nothing x e = subst Holds e tt

-- no target is shown where there is none
none_shown : (t : ℕ) (b : ℤ) (q : ℕ) → Shows None t b q → ⊥
none_shown t b q x = nothing x.shown x.is_shown

-- what a shown target says of the word that gives its sizes
after_says : (s w r t : ℕ) (b : ℤ) (q : ℕ) → Shows (target_after s w r) t b q → Says s w r (to_object t b q)
after_says s w r t b q x =
    elim (eqb_tells r 0) [
      | inl (e, zero) ↦ none (rw e refl)
      | inr (e, some) ↦ elim (cases_lt (kind r) 2) [
        | inr above ↦ none (rw (e, le-ltb (kind r) 2 above) refl)
        | inl below ↦ said below some
      ]
    ]
  where
    none : target_after s w r ≡ None → Says s w r (to_object t b q)
    none e = absurd (none_shown t b q (subst (λ (o : Option Target). Shows o t b q) e x))

    said : kind r < 2 → r ≢ 0 → Says s w r (to_object t b q)
    said below some =
        let same : object_after s w r ≡ x.shown = same_Some _ _ (sym (after_is s w r below some) ∙ x.is_shown) in (
          below,
          some,
          sym (ap (λ (y : Target). y.segment) same ∙ x.segment),
          sym x.begin ∙ ap begin_of (sym same) ∙ begin_after w r,
          sym (ap (λ (y : Target). y.word) same ∙ x.word),
        )

-- what a target over two pad words says of them
abbrev OverSays : ℕ → ℕ → ℕ → ℤ → ℕ → Type 0
OverSays f r t b q = IsOnePad f × IsTag r × (to_object t b q ≡ to_object (far_segment f) (pos (pad f)) r)

over_says : (f r t : ℕ) (b : ℤ) (q : ℕ) → Shows (target_over f r) t b q → OverSays f r t b q
over_says f r t b q x =
    elim (eqb_tells (kind f) 2) [
      | inr (u, n) ↦ none (rw u refl)
      | inl (u, far) ↦ elim (eqb_tells (two f) 0) [
        | inr (v, n) ↦ none (rw (u, v) refl)
        | inl (v, short) ↦ elim (cases_lt (kind r) 2) [
          | inr above ↦ none (rw (u, v, le-ltb (kind r) 2 above) refl)
          | inl below ↦ elim (eqb_tells (middle r) 0) [
            | inr (y, n) ↦ none (rw (u, v, lt-ltb (kind r) 2 below, y) refl)
            | inl (y, zero) ↦ said (far, short) (below, zero) (rw (u, v, lt-ltb (kind r) 2 below, y) refl)
          ]
        ]
      ]
    ]
  where
    none : target_over f r ≡ None → OverSays f r t b q
    none e = absurd (none_shown t b q (subst (λ (o : Option Target). Shows o t b q) e x))

    said : IsOnePad f → IsTag r → target_over f r ≡ Some (object_over f r) → OverSays f r t b q
    said one tag e =
        let same : x.shown ≡ object_over f r = same_Some _ _ (sym x.is_shown ∙ e) in
        let segment : t ≡ far_segment f = sym x.segment ∙ ap (λ (y : Target). y.segment) same in
        let begin : b ≡ pos (pad f) = sym x.begin ∙ ap begin_of same ∙ from_zero (pad f) in
        let word : q ≡ r = sym x.word ∙ ap (λ (y : Target). y.word) same in
        (one, tag, rw (segment, begin, word) refl)

-- each target that is shown is where the pointer leads, in the segment that is named
pub leads_of : (m : List (List ℕ)) (s w p : ℕ) (landing : Landing) → HasWord m s w p → Landed m p landing → (t : ℕ) (b : ℤ) (q : ℕ)
    → Shows (target_of s w p landing) t b q → ((k : ℕ) × Leads m s w k (to_object t b q)) × (segment_after s p landing ≡ t)
leads_of m s w p landing h (lands_near n e) t b q x =
    let says = after_says s w p t b q (subst (λ (l : Landing). Shows (target_of s w p l) t b q) e x) in
    ((0, near p h n says refl), rw e (sym says.2))
leads_of m s w p landing h (lands_missing e) t b q x = absurd (none_shown t b q (subst (λ (l : Landing). Shows (target_of s w p l) t b q) e x))
leads_of m s w p landing h (lands_outside e) t b q x = absurd (none_shown t b q (subst (λ (l : Landing). Shows (target_of s w p l) t b q) e x))
leads_of m s w p landing h (lands_one r one hr e) t b q x =
    let says = after_says (far_segment p) (pad p) r t b q (subst (λ (l : Landing). Shows (target_of s w p l) t b q) e x) in
    ((1, one_pad p r h one hr (λ far. omega (arith, far, says.0)) says refl), rw e (sym says.2))
leads_of m s w p landing h (lands_two f r both hf hr e) t b q x =
    let says = over_says f r t b q (subst (λ (l : Landing). Shows (target_of s w p l) t b q) e x) in (
      (2, two_pads p f r h both hf hr says.0 says.1 says.2 refl),
      rw (e, eq-eqb (kind f) 2 says.0.0, eq-eqb (two f) 0 says.0.1) (sym (ap segment_in says.2)),
    )

-- the tag that is shown
pub tag_shown : (m : List (List ℕ)) (x : Target) (tag : ℕ) → list_tag m x ≡ Some tag
    → IsComposite x.word × (b : ℕ) × (begin_of x ≡ pos b) × HasWord m x.segment b tag
tag_shown m x tag h =
    elim (eqb_tells (kind x.word) 1) [
      | inr (u, n) ↦ absurd (nothing tag (rw u at h))
      | inl (u, one) ↦ elim (eqb_tells (code x.word) 7) [
        | inr (v, n) ↦ absurd (nothing tag (rw (u, v) at h))
        | inl (v, seven) ↦ elim (cases_lt x.start x.excess) [
          | inl before ↦ absurd (nothing tag (rw (u, v, lt-ltb x.start x.excess before) at h))
          | inr after ↦ ((one, seven), x.start - x.excess, omega (arith, ints, after), rw (u, v, le-ltb x.start x.excess after) at h)
        ]
      ]
    ]

pub tag_there : (m : List (List ℕ)) (x : Target) (tag b : ℕ) → IsComposite x.word → begin_of x ≡ pos b → HasWord m x.segment b tag
    → list_tag m x ≡ Some tag
tag_there m x tag b list begin h =
    let after : x.excess ≤ x.start = omega (arith, ints, begin) in
    let same : x.start - x.excess ≡ b = omega (arith, ints, begin) in
    rw (eq-eqb (kind x.word) 1 list.0, eq-eqb (code x.word) 7 list.1, le-ltb x.start x.excess after, same) h
