-- Which word represents a pointer word over its pads, and what a two-word pad leads to.
use Rattle.std.proofs.Common.{◌<ℤ◌}
use Rattle.cap_spec.specs.declared.Reason.TheVariants.{OutOfSegment, PadNotFar, TagKind, TagOffset}
use Rattle.cap_spec.proofs.Pointers.Following.{wrong-out, wrong-pad_far, wrong-pad_near, wrong-pad_reserved}
use Rattle.cap_spec.proofs.Pointers.Following.{wrong-reserved, wrong-tag_kind, wrong-tag_offset}
use Rattle.cap_spec.proofs.ProofNames.{List, inl, length, pos, refl, subst, ℕ, ℤ, ◌+ℤ◌, ◌+◌, ◌<◌, ◌≡◌, ◌≢◌, ◌≤◌}
use Rattle.cap_spec.proofs.ProofNames.{IsOnePad, Lead, Leads, Says, Wrong, near, one_pad, to_object}
use Rattle.cap_spec.proofs.ProofNames.{two_pads, HasWord, far_segment, kind, middle, pad, signed_offset_of, rules}
use Rattle.cap_ptr.specs.Reaching.{HasTwoPad, LeadsTo, ResolvesTo}

-- a word that says something isn't far
says_near : (t b q : ℕ) (r : Lead) → Says t b q r → kind q ≢ 2
says_near t b q r h f = search rules

-- a word that isn't far represents itself
pub lies-near : (m : List (List ℕ)) (s w p : ℕ) → HasWord m s w p → kind p ≢ 2 → ResolvesTo m s w 0 s w p
lies-near m s w p h n = record {
  leads = λ r says. near p h n says refl;
  reserved = wrong-reserved m s w p h;
  far = λ f. absurd (n f);
}

-- the word of a one-word pad represents its pointer word
pub lies-one_pad : (m : List (List ℕ)) (s w p t b q : ℕ) → HasWord m s w p → IsOnePad p → t ≡ far_segment p → b ≡ pad p → HasWord m t b q
    → ResolvesTo m s w 1 t b q
lies-one_pad m s w p t b q h one t_is b_is hq =
    let hq' : HasWord m (far_segment p) (pad p) q = subst (λ y. HasWord m (far_segment p) y q) b_is (subst (λ x. HasWord m x b q) t_is hq) in
    record {
      leads = λ r says. one_pad p q h one hq' (says_near t b q r says)
          (subst (λ y. Says (far_segment p) y q r) b_is (subst (λ x. Says x b q r) t_is says)) refl;
      reserved = wrong-pad_reserved m s w p q h one hq';
      far = wrong-pad_far m s w p q h one hq';
    }

module _ (m : List (List ℕ)) (s w p f q : ℕ) (h : HasTwoPad m s w p f q) where
  pub content-not_far : ¬ IsOnePad f → Wrong m s w PadNotFar
  content-not_far n = wrong-pad_near m s w p f q h.word h.both h.first h.second n

  pub content-tag_kind : IsOnePad f → far_segment f < length m → 2 ≤ kind q → Wrong m s w TagKind
  content-tag_kind = wrong-tag_kind m s w p f q h.word h.both h.first h.second

  pub content-tag_offset : IsOnePad f → far_segment f < length m → kind q < 2 → middle q ≢ 0 → Wrong m s w TagOffset
  content-tag_offset = wrong-tag_offset m s w p f q h.word h.both h.first h.second

  pub content-lead : (t b : ℕ) → t ≡ far_segment f → b ≡ pad f → IsOnePad f → kind q < 2 → middle q ≡ 0 → LeadsTo m s w 2 t b q
  content-lead t b t_is b_is one k z = two_pads p f q h.word h.both h.first h.second one (k, z) (cc) refl

-- the word of an object leads there
pub object-lead : (m : List (List ℕ)) (s w k t b q : ℕ) (start : ℤ) → ResolvesTo m s w k t b q → kind q < 2 → q ≢ 0
    → start ≡ pos (b + 1) +ℤ signed_offset_of q → Leads m s w k (to_object t start q)
object-lead m s w k t b q start lies kind_below some e = lies.leads (to_object t start q) (kind_below, some, refl, e, refl)

-- an object that starts before its segment is outside
pub wrong-before : (m : List (List ℕ)) (s w k t : ℕ) (start : ℤ) (q : ℕ) → Leads m s w k (to_object t start q) → t < length m → start <ℤ pos 0
    → Wrong m s w OutOfSegment
wrong-before m s w k t start q leads there before = wrong-out m s w k t start q leads (there, inl before)
