-- A pointer word leads to one thing. Either that is null, a capability or an object inside its segment,
-- or exactly one reason is wrong there.
use Rattle.cap_spec.specs.Following.{Outside}
use Rattle.cap_spec.proofs.Frames.Messages.{at_word, one_word}
use Rattle.cap_spec.proofs.Pointers.Conditions.{NoneBelow, and_not, none_below_reserved, one-not_missing}
use Rattle.cap_spec.proofs.Pointers.Conditions.{one-not_outside, one-not_pad_far, one-not_pad_near, one-not_reserved}
use Rattle.cap_spec.proofs.Pointers.Conditions.{outside-not_missing, outside-not_reserved, two-none_below_far}
use Rattle.cap_spec.proofs.Pointers.Conditions.{two-none_below_tag, two-not_tag_kind, two-not_tag_offset}
use Rattle.cap_spec.proofs.ProofNames.{List, arith, inl, inr, length, negsuc, pos, subst, ℕ, ℤ, ◌*◌, ◌+◌, ◌<◌, ◌≡◌, ◌≢◌, ◌≤◌}
use Rattle.cap_spec.proofs.ProofNames.{Finds, Condition, IsComposite, IsOnePad, IsTwoPad, Lead, Leads, Says, Wrong}
use Rattle.cap_spec.proofs.ProofNames.{rank, to_cap, to_null, to_object, HasWord, segment_of, IsFar, IsReserved}
use Rattle.cap_spec.proofs.ProofNames.{data_size, extent, far_segment, kind, list_size, middle, pad, pointer_size, two}
use Rattle.cap_spec.proofs.ProofNames.{Reason, CompositeOverrun, CompositeTag, OutOfSegment, PadIsFar, PadNotFar}
use Rattle.cap_spec.proofs.ProofNames.{PadOutside, Reserved, SegmentMissing, TagKind, TagOffset, common_steps, rules}

-- What a word leads to, by its form.
module _ (m : List (List ℕ)) (s w k : ℕ) (r : Lead) where
  pub leads-near : Leads m s w k r → (p : ℕ) → HasWord m s w p → kind p ≢ 2 → (k ≡ 0) × Says s w p r
  leads-near x0 p h not_far = search (rules, at_word)

  pub leads-one : Leads m s w k r → (p q : ℕ) → HasWord m s w p → IsOnePad p → HasWord m (far_segment p) (pad p) q
      → (k ≡ 1) × Says (far_segment p) (pad p) q r
  leads-one x0 p q h one hq = search (rules, at_word)

-- a pointer word leads to one thing, with one number of pads
pub one_lead : (m : List (List ℕ)) (s w k k' : ℕ) (r r' : Lead) → Leads m s w k r → Leads m s w k' r'
    → (k ≡ k') × (r ≡ r')
one_lead m s w k k' r r' x7 h' = search rules

-- at most one reason is wrong at a word
pub one_wrong : (m : List (List ℕ)) (s w : ℕ) (u v : Reason) → Wrong m s w u → Wrong m s w v → u ≡ v
one_wrong m s w u v a b = grind (arith, common_steps)

-- What a word says is not reserved.
not_reserved : (t w q : ℕ) (r : Lead) → Says t w q r → ¬ IsReserved q
not_reserved t w q x3 h x5 = search rules

-- the segment of an object exists
abbrev pub HasSegment : List (List ℕ) → Lead → Type 0
HasSegment m to_null = Unit {0}
HasSegment m (to_cap i) = Unit {0}
HasSegment m (to_object t b q) = t < length m

-- none of the conditions on pads holds at a word that leads to some place
pub leads_clean : (m : List (List ℕ)) (s w k : ℕ) (r : Lead) → Leads m s w k r → HasSegment m r
    → NoneBelow m s w (rank OutOfSegment)
leads_clean m s w k r x5 exists =
    search (
      rules,
      and_not,
      none_below_reserved,
      one-not_reserved,
      not_reserved,
      one-not_missing,
      one-not_outside,
      one-not_pad_far,
      one-not_pad_near,
      two-none_below_tag,
      two-not_tag_kind,
      two-not_tag_offset,
    )

-- A reason is wrong where its condition holds and none before it.
-- the word is reserved
pub wrong-reserved : (m : List (List ℕ)) (s w p : ℕ) → HasWord m s w p → IsReserved p → Wrong m s w Reserved
wrong-reserved m s w p h r = record { holds = (p, h, inl r); first = none_below_reserved m s w }

-- the word of its one-word pad is reserved
pub wrong-pad_reserved : (m : List (List ℕ)) (s w p q : ℕ) → HasWord m s w p → IsOnePad p
    → HasWord m (far_segment p) (pad p) q → IsReserved q → Wrong m s w Reserved
wrong-pad_reserved m s w p q h one hq r =
    record { holds = (p, h, inr (one, q, hq, r)); first = none_below_reserved m s w }

-- the segment of its pad is missing
pub wrong-missing : (m : List (List ℕ)) (s w p : ℕ) → HasWord m s w p → IsFar p → length m ≤ far_segment p
    → Wrong m s w SegmentMissing
wrong-missing m s w p h far past = grind (arith, common_steps)

-- its pad is outside of its segment
pub wrong-outside : (m : List (List ℕ)) (s w p : ℕ) → HasWord m s w p → IsFar p → far_segment p < length m
    → length (segment_of m (far_segment p)) < pad p + (two p + 1) → Wrong m s w PadOutside
wrong-outside m s w p h far there past =
    let c2 = and_not m s w Reserved (none_below_reserved m s w) (outside-not_reserved m s w p h far past) in
    record {
      holds = (p, h, far, (there, past));
      first = and_not m s w SegmentMissing c2 (outside-not_missing m s w p h far there past);
    }

-- the word of its one-word pad is far
pub wrong-pad_far : (m : List (List ℕ)) (s w p q : ℕ) → HasWord m s w p → IsOnePad p
    → HasWord m (far_segment p) (pad p) q → IsFar q → Wrong m s w PadIsFar
wrong-pad_far m s w p q h one hq far =
    let c2 = and_not m s w Reserved (none_below_reserved m s w)
    (one-not_reserved m s w p q h one hq (λ r. omega (arith, far, r.0))) in
    let c3 = and_not m s w SegmentMissing c2 (one-not_missing m s w p q h one hq) in
    record {
      holds = (p, q, h, one, hq, far);
      first = and_not m s w PadOutside c3 (one-not_outside m s w p q h one hq);
    }

-- It has a two-word pad inside its segment.
module _ (m : List (List ℕ)) (s w p f q : ℕ) (h : HasWord m s w p) (both : IsTwoPad p)
    (hf : HasWord m (far_segment p) (pad p) f) (hq : HasWord m (far_segment p) (pad p + 1) q) where
  -- the first word of the pad isn't a far pointer to one word
  pub wrong-pad_near : ¬ IsOnePad f → Wrong m s w PadNotFar
  wrong-pad_near n = search (rules, two-none_below_far)

  -- the segment of the content is missing
  pub wrong-content_missing : IsOnePad f → length m ≤ far_segment f → Wrong m s w SegmentMissing
  wrong-content_missing one past = grind (arith, common_steps)

  -- the tag is neither a struct's nor a list's
  pub wrong-tag_kind : IsOnePad f → far_segment f < length m → 2 ≤ kind q → Wrong m s w TagKind
  wrong-tag_kind one there k = search (rules, two-none_below_tag)

  -- the tag has an offset
  pub wrong-tag_offset : IsOnePad f → far_segment f < length m → kind q < 2 → middle q ≢ 0 → Wrong m s w TagOffset
  wrong-tag_offset one there k n = search (rules, and_not, two-none_below_tag, two-not_tag_kind)

-- It leads to an object.
module _ (m : List (List ℕ)) (s w k t : ℕ) (b : ℤ) (q : ℕ) (leads : Leads m s w k (to_object t b q)) where
  -- whose words aren't all inside its segment
  pub wrong-out : Outside m t b q → Wrong m s w OutOfSegment
  wrong-out out = search (rules, leads_clean)

-- a lead to an object that is outside
abbrev OutsideOf : List (List ℕ) → Lead → Type 0
OutsideOf m to_null = ⊥
OutsideOf m (to_cap i) = ⊥
OutsideOf m (to_object t b q) = Outside m t b q

-- a lead to a composite list of this tag word, at which P holds of the list and its tag
abbrev TagOf : List (List ℕ) → (ℕ → ℕ → Type 0) → ℕ → Lead → Type 0
TagOf m P tag to_null = ⊥
TagOf m P tag (to_cap i) = ⊥
TagOf m P tag (to_object t (pos b) q) = IsComposite q × HasWord m t b tag × P q tag
TagOf m P tag (to_object t (negsuc b) q) = ⊥

not_outside : (m : List (List ℕ)) (t b q : ℕ) → b + extent q ≤ length (segment_of m t) → ¬ Outside m t (pos b) q
not_outside m t b q a x5 = search rules

-- What is so of a lead, if the conditions on objects hold.
module _ (m : List (List ℕ)) (s w k : ℕ) (r : Lead) (leads : Leads m s w k r) where
  out-lead : Condition m s w OutOfSegment → OutsideOf m r
  out-lead x0 = search (rules, one_lead)

  tag-lead : Condition m s w CompositeTag → (tag : ℕ) × TagOf m (λ q x. kind x ≢ 0) tag r
  tag-lead x0 = search (rules, one_lead)

  overrun-lead : Condition m s w CompositeOverrun
      → (tag : ℕ) × TagOf m (λ q x. list_size q < middle x * (data_size x + pointer_size x)) tag r
  overrun-lead x0 = search (rules, one_lead)

  -- where it leads to some place, in a segment that exists, and none of these conditions holds, nothing is wrong
  clean-not_wrong : HasSegment m r → ¬ Condition m s w OutOfSegment → ¬ Condition m s w CompositeTag
      → ¬ Condition m s w CompositeOverrun → (v : Reason) → ¬ Wrong m s w v
  clean-not_wrong exists n9 n10 n11 OutOfSegment x = n9 x.holds
  clean-not_wrong exists n9 n10 n11 CompositeTag x = n10 x.holds
  clean-not_wrong exists n9 n10 n11 CompositeOverrun x = n11 x.holds
  clean-not_wrong exists n9 n10 n11 v x = leads_clean m s w k r leads exists v (omega arith) x.holds

-- nothing is wrong with a word that leads to null
pub null-not_wrong : (m : List (List ℕ)) (s w k : ℕ) → Leads m s w k to_null → (v : Reason) → ¬ Wrong m s w v
null-not_wrong m s w k leads =
    clean-not_wrong m s w k to_null leads tt (out-lead m s w k to_null leads)
    (λ c. (tag-lead m s w k to_null leads c).1) (λ c. (overrun-lead m s w k to_null leads c).1)

-- nothing is wrong with a word that leads to a capability
pub cap-not_wrong : (m : List (List ℕ)) (s w k i : ℕ) → Leads m s w k (to_cap i) → (v : Reason) → ¬ Wrong m s w v
cap-not_wrong m s w k i leads =
    clean-not_wrong m s w k (to_cap i) leads tt (out-lead m s w k (to_cap i) leads)
    (λ c. (tag-lead m s w k (to_cap i) leads c).1) (λ c. (overrun-lead m s w k (to_cap i) leads c).1)

-- nothing is wrong with a word that leads to an object inside its segment
pub object-not_wrong : (m : List (List ℕ)) (s w k t b q : ℕ) → Finds m s w k t b q → (v : Reason) → ¬ Wrong m s w v
object-not_wrong m s w k t b q f =
    clean-not_wrong m s w k (to_object t (pos b) q) f.leads f.inside.exists
    (λ c. not_outside m t b q f.inside.inside (out-lead m s w k (to_object t (pos b) q) f.leads c))
    (λ c. tag_kind (tag-lead m s w k (to_object t (pos b) q) f.leads c))
    (λ c. overrun (overrun-lead m s w k (to_object t (pos b) q) f.leads c))
  where
    tag_kind : (tag : ℕ) × TagOf m (λ q x. kind x ≢ 0) tag (to_object t (pos b) q) → ⊥
    tag_kind (tag, (composite, has, n)) =
        let c = f.inside.composite composite in
        n (subst (λ x. kind x ≡ 0) (one_word m t b c.0 tag c.1 has) c.2.0)

    overrun : (tag : ℕ) × TagOf m (λ q x. list_size q < middle x * (data_size x + pointer_size x)) tag
        (to_object t (pos b) q) → ⊥
    overrun (tag, (composite, has, n)) =
        let c = f.inside.composite composite in
        let fits : middle tag * (data_size tag + pointer_size tag) ≤ list_size q =
        subst (λ x. middle x * (data_size x + pointer_size x) ≤ list_size q) (one_word m t b c.0 tag c.1 has) c.2.1 in
        absurd (omega arith)

-- It leads to a composite list inside its segment.
module _ (m : List (List ℕ)) (s w k t b q tag : ℕ) (leads : Leads m s w k (to_object t (pos b) q))
    (exists : t < length m) (inside : b + extent q ≤ length (segment_of m t)) (composite : IsComposite q)
    (has : HasWord m t b tag) where
  none_below_composite_tag : NoneBelow m s w (rank CompositeTag)
  none_below_composite_tag =
      and_not m s w OutOfSegment (leads_clean m s w k (to_object t (pos b) q) leads exists)
      (λ c. not_outside m t b q inside (out-lead m s w k (to_object t (pos b) q) leads c))

  -- whose tag isn't a struct's
  pub wrong-composite_tag : kind tag ≢ 0 → Wrong m s w CompositeTag
  wrong-composite_tag n = search (rules, none_below_composite_tag)

  -- whose elements are past its words
  pub wrong-overrun : kind tag ≡ 0 → list_size q < middle tag * (data_size tag + pointer_size tag)
      → Wrong m s w CompositeOverrun
  wrong-overrun z n = record {
    holds = (k, t, b, q, tag, leads, composite, has, n);
    first = and_not m s w CompositeTag none_below_composite_tag
        (λ c. same (tag-lead m s w k (to_object t (pos b) q) leads c));
  }
    where
      same : (x : ℕ) × TagOf m (λ q x. kind x ≢ 0) x (to_object t (pos b) q) → ⊥
      same (x, (composite', has', not_zero)) = not_zero (subst (λ y. kind y ≡ 0) (one_word m t b tag x has has') z)
