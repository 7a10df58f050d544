-- What marking a range of bits does to the places of a message.
use Rattle.std.proofs.Math.Seq.{get_or-append_seam}
use Rattle.cap_spec.specs.Denoting.{places}
use Rattle.cap_spec.proofs.Disjoint.Places.{apart_places, at_place, in_places}
use Rattle.cap_spec.proofs.ProofNames.{List, [], ap, arith, inl, inr, length, slice_index_or, subst}
use Rattle.cap_spec.proofs.ProofNames.{sym, ℕ, ◌++◌, ◌+◌, ◌-◌, ◌<◌, ◌∙◌, ◌∷◌, ◌≡◌, ◌≤◌, cases_eq, rules}
use Rattle.cap_spec.proofs.ProofNames.{cases_lt, get_or_append_left, IsOneOf, IsMessage}
use Rattle.cap_spec.proofs.ProofNames.{segment_of}
use Rattle.cap_vet.specs.Marks.{MarksAll}
use Rattle.cap_vet.specs.Taken.{AreStarts, IsTaken, bit_in}
use Rattle.cap_frame.specs.SegmentStarts.{start_of}
use Rattle.cap_frame.proofs.SegmentStarts.{start_next, start_order}

-- where a place's bit lies in a range of bits of a segment, the place lies in the range
same_place : (m : List (List ℕ)) (s from len s' w' : ℕ) → s < length m → s' < length m → from + len ≤ length (segment_of m s) → w' < length (segment_of m s')
    → start_of m s + from ≤ start_of m s' + w' → start_of m s' + w' < start_of m s + from + len → (s' ≡ s) × (from ≤ w') × (w' < from + len)
same_place m s from len s' w' h h' inside inside' low high = elim (cases_eq s' s) [
  | inl e ↦ let f : start_of m s' ≡ start_of m s = ap (start_of m) e in (e, omega (arith, f), omega (arith, f))
  | inr n ↦ elim (cases_lt s s') [
    | inl less ↦ let r = start_order m s s' less (omega arith) in absurd (omega (arith, r))
    | inr more ↦ let r = start_order m s' s (omega (arith, n)) (omega arith) in absurd (omega (arith, r))
  ]
]

-- the bits of a range, which were free, are set
pub marks_range : (m : List (List ℕ)) (old new : List ℕ) (s from len at : ℕ) → s < length m → from + len ≤ length (segment_of m s) → at ≡ start_of m s + from
    → ((i : ℕ) → at ≤ i → i < at + len → bit_in new i ≡ 1) → ((i : ℕ) → at ≤ i → i < at + len → bit_in old i ≡ 0)
    → ((i : ℕ) → i < at → bit_in new i ≡ bit_in old i) → ((i : ℕ) → at + len ≤ i → bit_in new i ≡ bit_in old i)
    → MarksAll (IsTaken m old) (IsTaken m new) (places s from len)
marks_range m old new s from len at h inside e set free below above = record {
  apart = apart_places s from len;
  free = λ s' w' p q. let r = in_places s from len s' w' p in
      search rules;
  set = λ s' w' p. search (rules, in_places s from len s' w' p);
  kept = search rules;
  only = λ s' w' q. elim (cases_lt (start_of m s' + w') at) [
    | inl x ↦ inl (q.0, q.1, sym (below (start_of m s' + w') x) ∙ q.2)
    | inr x ↦ elim (cases_lt (start_of m s' + w') (at + len)) [
      | inl y ↦ let r = same_place m s from len s' w' h q.0 inside q.1 (omega (arith, e)) (omega (arith, e)) in
          inr (subst (λ (u : ℕ). IsOneOf (u, w') (places s from len)) (sym r.0) (at_place s from len w' r.1 r.2))
      | inr y ↦ inl (q.0, q.1, sym (above (start_of m s' + w') y) ∙ q.2)
    ]
  ];
}

-- a bit of the range that was set before is a place of it
pub range_conflict : (m : List (List ℕ)) (old : List ℕ) (s from len at i : ℕ) → s < length m → from + len ≤ length (segment_of m s) → at ≡ start_of m s + from
    → at ≤ i → i < at + len → bit_in old i ≡ 1 → (w : ℕ) × IsOneOf (s, w) (places s from len) × IsTaken m old s w
range_conflict m old s from len at i h inside e low high taken =
    let w : ℕ = from + (i - at) in
    let f : i ≡ start_of m s + w = omega (arith, e) in
    (w, at_place s from len w (omega arith) (omega (arith, e)), (h, omega (arith, e), subst (λ (u : ℕ). bit_in old u ≡ 1) f taken))

-- the starts of one more segment
pub starts_more : (m : List (List ℕ)) (starts : List ℕ) (s words k : ℕ) → length starts ≡ s
    → ((k : ℕ) → k < s → slice_index_or starts k 0 ≡ start_of m k) → words ≡ start_of m s → k < s + 1
    → slice_index_or (starts ++ words ∷ []) k 0 ≡ start_of m k
starts_more m starts s words k many h e less = search (rules, get_or-append_seam, get_or_append_left)

pub one_start : (m : List (List ℕ)) → IsMessage m → length m ≡ 1 → AreStarts m (0 ∷ [])
one_start m h one = search (rules, start_next)
