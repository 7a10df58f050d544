-- Every word of a message has a fate: a reason is wrong there, or it leads to null,
-- to a capability or to an object inside its segment.
use Rattle.cap_spec.specs.Following.{IsInside}
use Rattle.cap_spec.proofs.Frames.Messages.{HasWord-at, HasWord-segment}
use Rattle.cap_spec.proofs.Pointers.Following.{HasSegment, wrong-composite_tag, wrong-content_missing, wrong-missing}
use Rattle.cap_spec.proofs.Pointers.Following.{wrong-out, wrong-outside, wrong-overrun, wrong-pad_far, wrong-pad_near}
use Rattle.cap_spec.proofs.Pointers.Following.{wrong-pad_reserved, wrong-reserved, wrong-tag_kind, wrong-tag_offset}
use Rattle.cap_spec.proofs.ProofNames.{List, arith, inl, inr, length, negsuc, pos, refl, ℕ, ℤ, ◌*◌, ◌+ℤ◌, ◌+◌, ◌<◌, ◌≡◌}
use Rattle.cap_spec.proofs.ProofNames.{◌≢◌, ◌≤◌, ◌⊎◌, cases_lt, eqb_tells, ints, Finds, IsComposite, IsOnePad, IsTwoPad}
use Rattle.cap_spec.proofs.ProofNames.{TagFits, Lead, Leads, Says, Wrong, near, one_pad, to_cap, to_null, to_object}
use Rattle.cap_spec.proofs.ProofNames.{two_pads, HasWord, segment_of, IsFar, IsReserved, cap_index, code, data_size}
use Rattle.cap_spec.proofs.ProofNames.{extent, far_segment, kind, list_size, middle, pad, pointer_size, two}
use Rattle.cap_spec.proofs.ProofNames.{signed_offset_of, Reason, OutOfSegment, PadIsFar, PadOutside, Reserved}
use Rattle.cap_spec.proofs.ProofNames.{SegmentMissing, TagKind, TagOffset}
use Rattle.cap_spec.proofs.Trees.Charges.{extent_structs}

-- Every word of a message has a fate: a reason is wrong there, or it leads to null,
-- to a capability or to an object inside its segment.
abbrev pub Fate : List (List ℕ) → ℕ → ℕ → Type 0
Fate m s w = ((v : Reason) × Wrong m s w v)
    ⊎ (((k : ℕ) × Leads m s w k to_null) ⊎ (((k i : ℕ) × Leads m s w k (to_cap i))
    ⊎ ((k t b q : ℕ) × Finds m s w k t b q)))

-- an object inside its segment
found-fate : (m : List (List ℕ)) (s w k t b q : ℕ) → Leads m s w k (to_object t (pos b) q) → t < length m
    → b + extent q ≤ length (segment_of m t)
    → (IsComposite q → (tag : ℕ) × HasWord m t b tag × TagFits tag (list_size q)) → Fate m s w
found-fate m s w k t b q leads there inside fits =
    let i : IsInside m t b q = record { exists = there; inside = inside; composite = fits } in
    inr (inr (inr (k, t, b, q, record { leads = leads; inside = i })))

-- a lead to an object, whose segment exists
object-fate : (m : List (List ℕ)) (s w k t : ℕ) (b : ℤ) (q : ℕ) → Leads m s w k (to_object t b q)
    → t < length m → Fate m s w
object-fate m s w k t (negsuc b) q leads there =
    inl (OutOfSegment, wrong-out m s w k t (negsuc b) q leads (there, inl (omega (arith, ints))))
object-fate m s w k t (pos b) q leads there =
    elim (cases_lt (length (segment_of m t)) (b + extent q)) [
      | inl past ↦ inl (OutOfSegment, wrong-out m s w k t (pos b) q leads (there, inr (omega (arith, ints))))
      | inr inside ↦ elim (eqb_tells (kind q) 1) [
        | inr (x, other) ↦ found-fate m s w k t b q leads there inside (λ c. absurd (other c.0))
        | inl (x, list) ↦ elim (eqb_tells (code q) 7) [
          | inr (y, other) ↦ found-fate m s w k t b q leads there inside (λ c. absurd (other c.1))
          | inl (y, seven) ↦ tagged inside (list, seven)
              (HasWord-at m t b (omega (arith, extent_structs q list seven)))
        ]
      ]
    ]
  where
    tagged : (b + extent q ≤ length (segment_of m t)) → IsComposite q → (tag : ℕ) × HasWord m t b tag → Fate m s w
    tagged inside list (tag, has) =
        elim (eqb_tells (kind tag) 0) [
          | inr (x, other) ↦ inl (_, wrong-composite_tag m s w k t b q tag leads there inside list has other)
          | inl (x, struct) ↦ elim (cases_lt (list_size q) (middle tag * (data_size tag + pointer_size tag))) [
            | inl past ↦ inl (_, wrong-overrun m s w k t b q tag leads there inside list has struct past)
            | inr fits ↦ found-fate m s w k t b q leads there inside (λ c. (tag, has, (struct, fits)))
          ]
        ]

-- what a word that isn't far says
said : (t w q : ℕ) → kind q ≢ 2 → IsReserved q
    ⊎ ((r : Lead) × Says t w q r × ((m : List (List ℕ)) → t < length m → HasSegment m r))
said t w q n =
    elim (eqb_tells (kind q) 3) [
      | inl (x, three) ↦ elim (eqb_tells (middle q) 0) [
        | inl (y, none) ↦ inr (to_cap (cap_index q), ((three, none), refl), λ m there. tt)
        | inr (y, some) ↦ inl (three, some)
      ]
      | inr (x, other) ↦ elim (eqb_tells q 0) [
        | inl (y, zero_word) ↦ inr (to_null, zero_word, λ m there. tt)
        | inr (y, some) ↦ inr (
          to_object t (pos (w + 1) +ℤ signed_offset_of q) q,
          (omega arith, some, refl, refl, refl),
          λ m there. there,
        )
      ]
    ]

lead-fate : (m : List (List ℕ)) (s w k : ℕ) (r : Lead) → Leads m s w k r → HasSegment m r → Fate m s w
lead-fate m s w k to_null leads exists = inr (inl (k, leads))
lead-fate m s w k (to_cap i) leads exists = inr (inr (inl (k, i, leads)))
lead-fate m s w k (to_object t b q) leads exists = object-fate m s w k t b q leads exists

-- Its fate, by its form: it isn't far,
near-fate : (m : List (List ℕ)) (s w p : ℕ) → HasWord m s w p → kind p ≢ 2 → Fate m s w
near-fate m s w p h n =
    elim (said s w p n) [
      | inl reserved ↦ inl (Reserved, wrong-reserved m s w p h reserved)
      | inr (r, says, exists) ↦ lead-fate m s w 0 r (near p h n says refl) (exists m (HasWord-segment m s w p h))
    ]

-- it has a one-word pad,
one-fate : (m : List (List ℕ)) (s w p q : ℕ) → HasWord m s w p → IsOnePad p
    → HasWord m (far_segment p) (pad p) q → Fate m s w
one-fate m s w p q h one hq =
    elim (eqb_tells (kind q) 2) [
      | inl (x, far) ↦ inl (PadIsFar, wrong-pad_far m s w p q h one hq far)
      | inr (x, n) ↦ elim (said (far_segment p) (pad p) q n) [
        | inl reserved ↦ inl (Reserved, wrong-pad_reserved m s w p q h one hq reserved)
        | inr (r, says, exists) ↦ lead-fate m s w 1 r (one_pad p q h one hq n says refl)
            (exists m (HasWord-segment m (far_segment p) (pad p) q hq))
      ]
    ]

-- it has a two-word pad,
module _ (m : List (List ℕ)) (s w p f q : ℕ) (h : HasWord m s w p) (both : IsTwoPad p)
    (hf : HasWord m (far_segment p) (pad p) f) (hq : HasWord m (far_segment p) (pad p + 1) q) where
  tag-fate : IsOnePad f → far_segment f < length m → Fate m s w
  tag-fate one there =
      elim (cases_lt (kind q) 2) [
        | inr other ↦ inl (TagKind, wrong-tag_kind m s w p f q h both hf hq one there other)
        | inl object ↦ elim (eqb_tells (middle q) 0) [
          | inr (x, some) ↦ inl (TagOffset, wrong-tag_offset m s w p f q h both hf hq one there object some)
          | inl (x, none) ↦ object-fate m s w 2 (far_segment f) (pos (pad f)) q
              (two_pads p f q h both hf hq one (object, none) refl refl) there
        ]
      ]

  one-far-fate : IsOnePad f → Fate m s w
  one-far-fate one =
      elim (cases_lt (far_segment f) (length m)) [
        | inl there ↦ tag-fate one there
        | inr past ↦ inl (SegmentMissing, wrong-content_missing m s w p f q h both hf hq one past)
      ]

  two-fate : Fate m s w
  two-fate =
      elim (eqb_tells (kind f) 2) [
        | inr (x, other) ↦ inl (_, wrong-pad_near m s w p f q h both hf hq (λ one. other one.0))
        | inl (x, far) ↦ elim (eqb_tells (two f) 0) [
          | inr (y, other) ↦ inl (_, wrong-pad_near m s w p f q h both hf hq (λ one. other one.1))
          | inl (y, single) ↦ one-far-fate (far, single)
        ]
      ]

-- its pad lies inside its segment, or it doesn't
far-fate : (m : List (List ℕ)) (s w p : ℕ) → HasWord m s w p → IsFar p → far_segment p < length m
    → pad p + (two p + 1) ≤ length (segment_of m (far_segment p)) → Fate m s w
far-fate m s w p h far there inside =
    let first = HasWord-at m (far_segment p) (pad p) (omega arith) in
    elim (eqb_tells (two p) 0) [
      | inl (x, single) ↦ one-fate m s w p first.0 h (far, single) first.1
      | inr (x, other) ↦
          let single : two p ≡ 1 = omega arith in
          let second = HasWord-at m (far_segment p) (pad p + 1) (omega arith) in
          two-fate m s w p first.0 second.0 h (far, single) first.1 second.1
    ]

-- every word has a fate
pub fate : (m : List (List ℕ)) (s w p : ℕ) → HasWord m s w p → Fate m s w
fate m s w p h =
    elim (eqb_tells (kind p) 2) [
      | inr (x, n) ↦ near-fate m s w p h n
      | inl (x, far) ↦ elim (cases_lt (far_segment p) (length m)) [
        | inr past ↦ inl (SegmentMissing, wrong-missing m s w p h far past)
        | inl there ↦ elim (cases_lt (length (segment_of m (far_segment p))) (pad p + (two p + 1))) [
          | inl past ↦ inl (PadOutside, wrong-outside m s w p h far there past)
          | inr inside ↦ far-fate m s w p h far there inside
        ]
      ]
    ]
