-- What the lines of an explanation say of a message: where its pointer leads, and each reason
-- (profile).
use Rattle.std.specs.Prelude.{List, Option, Some, [], codes, length, pos, slice_get, ℕ, ℤ, ◌*◌, ◌++◌, ◌+ℤ◌, ◌+◌, ◌-ℤ◌}
use Rattle.std.specs.Prelude.{◌<ℤ◌, ◌<◌, ◌∷◌, ◌≡◌, ◌≢◌, ◌≤◌}
use Rattle.cap_spec.specs.Denoting.{Finds, levels_below}
use Rattle.cap_spec.specs.Faults.{IsFirstFault}
use Rattle.cap_spec.specs.Following.{HasTag, IsComposite, IsOnePad, IsTwoPad, Leads, PadMissing, to_object}
use Rattle.cap_spec.specs.Messages.{HasWord, segment_of}
use Rattle.cap_spec.specs.Occupying.{Overlaps}
use Rattle.cap_spec.specs.Paths.{Costs, IsNumbered, Reaches}
use Rattle.cap_spec.specs.Pointers.{IsCap, IsFar, IsReserved, data_size, extent, far_segment, kind, list_size, middle}
use Rattle.cap_spec.specs.Pointers.{pad, pointer_size, two}
use Rattle.cap_spec.specs.declared.Refusal.{Refusal}
use Rattle.cap_spec.specs.declared.Step.{Step}
use Rattle.cap_spec.specs.declared.StrictRefusal.{StrictRefusal}
use Rattle.cap_spec.specs.declared.StrictRefusal.TheVariants.{ManySegments, Pointer, Refused}
use Rattle.cap_explain.specs.Leading.{landing_of, target_of}
use Rattle.cap_explain.specs.declared.target.Target.{Target}

-- the target that is shown of the pointer word p at s:w
abbrev pub target_at : List (List ℕ) → ℕ → ℕ → ℕ → Option Target
target_at m s w p = target_of s w p (landing_of m p)

-- the word at which a target begins, which is negative before the start of its segment
abbrev pub begin_of : Target → ℤ
begin_of t = pos t.start -ℤ pos t.excess

-- a target is shown: the object of the shape q that begins at word b of segment t
pub record Shows (target : Option Target) (t : ℕ) (b : ℤ) (q : ℕ) : Type 0 where
  pub shown : Target
  pub is_shown : target ≡ Some shown
  pub segment : shown.segment ≡ t
  pub begin : begin_of shown ≡ b
  pub word : shown.word ≡ q

-- The sentence is true of the message and of its pointer at s:w, under limits of the charge and of the
-- depth.
pub data IsTrue (m : List (List ℕ)) (words depth s w : ℕ) (sentence : List ℕ) : Type 0 where
  no_root : sentence ≡ codes "segment 0 has no words, so the message has no root pointer"
      → slice_get m 0 ≡ Some [] → IsTrue m words depth s w sentence
  reserved_pointer : sentence ≡ codes "the low two bits of the pointer are 3, but it is not a valid capability pointer; the format reserves such words"
      → (p : ℕ) → HasWord m s w p → IsReserved p → IsTrue m words depth s w sentence
  reserved_pad : sentence ≡ codes "the low two bits of the landing pad are 3, but it is not a valid capability pointer; the format reserves such words"
      → (p q : ℕ) → HasWord m s w p → IsOnePad p → HasWord m (far_segment p) (pad p) q → IsReserved q
      → IsTrue m words depth s w sentence
  pointer_names_missing : sentence ≡ codes "the far pointer names a segment that the message does not have"
      → (p : ℕ) → HasWord m s w p → IsFar p → length m ≤ far_segment p → IsTrue m words depth s w sentence
  pad_names_missing : sentence ≡ codes "the first word of the landing pad names a segment that the message does not have"
      → (p f : ℕ) → HasWord m s w p → IsTwoPad p → HasWord m (far_segment p) (pad p) f → IsFar f
      → length m ≤ far_segment f → IsTrue m words depth s w sentence
  pad_outside : sentence ≡ codes "the landing pad is not all inside its segment"
      → (p : ℕ) → HasWord m s w p → IsFar p → PadMissing m p (two p + 1) → IsTrue m words depth s w sentence
  pad_is_far : sentence ≡ codes "the only word of the landing pad is a far pointer again"
      → (p q : ℕ) → HasWord m s w p → IsOnePad p → HasWord m (far_segment p) (pad p) q → IsFar q
      → IsTrue m words depth s w sentence
  pad_not_far : sentence ≡ codes "the first word of the landing pad is not a far pointer to a pad of one word"
      → (p f : ℕ) → HasWord m s w p → IsTwoPad p → HasWord m (far_segment p) (pad p) f → ¬ IsOnePad f
      → IsTrue m words depth s w sentence
  tag_kind : sentence ≡ codes "the second word of the landing pad is neither a struct pointer nor a list pointer"
      → (p q : ℕ) → HasWord m s w p → IsTwoPad p → HasWord m (far_segment p) (pad p + 1) q → 2 ≤ kind q
      → IsTrue m words depth s w sentence
  tag_offset : sentence ≡ codes "the second word of the landing pad has an offset other than 0"
      → (p q : ℕ) → HasWord m s w p → IsTwoPad p → HasWord m (far_segment p) (pad p + 1) q → middle q ≢ 0
      → IsTrue m words depth s w sentence
  begins_before : sentence ≡ codes "the target begins before the start of its segment"
      → (k t : ℕ) (b : ℤ) (q : ℕ) → Leads m s w k (to_object t b q) → t < length m → b <ℤ pos 0
      → IsTrue m words depth s w sentence
  runs_past : sentence ≡ codes "the target runs past the end of its segment"
      → (k t : ℕ) (b : ℤ) (q : ℕ) → Leads m s w k (to_object t b q) → t < length m
      → pos (length (segment_of m t)) <ℤ (b +ℤ pos (extent q)) → IsTrue m words depth s w sentence
  composite_tag : sentence ≡ codes "the first word of the list of structs is not a struct tag"
      → (k t b q tag : ℕ) → Leads m s w k (to_object t (pos b) q) → IsComposite q → HasWord m t b tag → kind tag ≢ 0
      → IsTrue m words depth s w sentence
  composite_overrun : sentence ≡ codes "the elements that the tag gives need more words than the list has"
      → (k t b q tag : ℕ) → Leads m s w k (to_object t (pos b) q) → IsComposite q → HasWord m t b tag
      → list_size q < middle tag * (data_size tag + pointer_size tag) → IsTrue m words depth s w sentence
  deep_target : sentence ≡ codes "the target is at a deeper level than the limit allows"
      → (path : List Step) (level k t b q : ℕ) → Reaches m path level s w → Finds m s w k t b q → depth < level
      → IsTrue m words depth s w sentence
  deep_structs : sentence ≡ codes "the list of structs, or its structs, are at a deeper level than the limit allows"
      → (path : List Step) (level k t b q tag : ℕ) → Reaches m path level s w → Finds m s w k t b q → IsComposite q
      → HasTag m t b q tag → depth < level + levels_below q tag → IsTrue m words depth s w sentence
  past_charge : sentence ≡ codes "the charge up to this pointer and its target is more than the limit"
      → (r : Refusal) (f : IsFirstFault m words depth r) (cost : ℕ) → r.segment ≡ s → r.word ≡ w → Costs m s w cost
      → words < f.fault.charge + cost → IsTrue m words depth s w sentence
  many_segments : sentence ≡ codes "the message has 512 segments, and common readers take at most 511"
      → length m ≡ 512 → IsTrue m words depth s w sentence
  null_pad : sentence ≡ codes "the only word of the landing pad is null, which common readers reject"
      → (p : ℕ) → HasWord m s w p → IsOnePad p → HasWord m (far_segment p) (pad p) 0
      → IsTrue m words depth s w sentence
  empty_segment : sentence ≡ codes "the target is in a segment without words, which common readers reject"
      → (k t b q : ℕ) → Finds m s w k t b q → segment_of m t ≡ [] → IsTrue m words depth s w sentence
  capability_pad : sentence ≡ codes "the only word of the landing pad is a capability, which common readers reject"
      → (p q : ℕ) → HasWord m s w p → IsOnePad p → HasWord m (far_segment p) (pad p) q → IsCap q
      → IsTrue m words depth s w sentence
  overlaps : sentence ≡ codes "the pointer uses a word twice, the root word, or one that an earlier pointer uses; --exclusive forbids all three"
      → (path : List Step) (number : ℕ) → IsNumbered m path s w number → Overlaps m path
      → IsTrue m words depth s w sentence

-- the last of these lines has a sentence as the reason, and it is true of the pointer at s:w
pub record HasTrueReason (m : List (List ℕ)) (words depth s w : ℕ) (lines : List ℕ) : Type 0 where
  pub before : List ℕ
  pub sentence : List ℕ
  pub last : lines ≡ before ++ (codes "  reason " ++ sentence ++ 10 ∷ [])
  pub holds : IsTrue m words depth s w sentence

-- the place that a refusal names
abbrev pub segment_named : StrictRefusal → ℕ
segment_named (Refused r) = r.segment
segment_named ManySegments = 0
segment_named (Pointer what s w pointers) = s

abbrev pub word_named : StrictRefusal → ℕ
word_named (Refused r) = r.word
word_named ManySegments = 0
word_named (Pointer what s w pointers) = w
