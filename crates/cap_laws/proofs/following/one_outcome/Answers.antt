use Rattle.cap_spec.proofs.Pointers.Following.{cap-not_wrong, null-not_wrong, object-not_wrong, one_lead, one_wrong}
use Rattle.cap_spec.proofs.ProofNames.{List, ap, inl, inr, ℕ, ◌≡◌, to_cap, to_null, to_object, rules}
use Rattle.cap_spec.proofs.Trees.Outcomes.{fate}
use Rattle.cap_laws.specs.FollowingLaws.{ComesOf, OneOutcome, Outcome, cap, null, object, refused}
use Rattle.cap_laws.proofs.following.one_outcome.Goals as goal

-- Exactly one thing comes of following a word.
-- two things that come of one word are one
same : (m : List (List ℕ)) (s w : ℕ) (o o' : Outcome) → ComesOf m s w o → ComesOf m s w o' → o' ≡ o
same m s w (refused v) (refused u) h h' = ap refused (one_wrong m s w u v h' h)
same m s w (refused v) (null k) h h' = absurd (null-not_wrong m s w k h' v h)
same m s w (refused v) (cap k i) h h' = absurd (cap-not_wrong m s w k i h' v h)
same m s w (refused v) (object k t b q) h h' = absurd (object-not_wrong m s w k t b q h' v h)
same m s w (null k) (refused v) h h' = absurd (null-not_wrong m s w k h v h')
same m s w (cap k i) (refused v) h h' = absurd (cap-not_wrong m s w k i h v h')
same m s w (object k t b q) (refused v) h h' = absurd (object-not_wrong m s w k t b q h v h')
same m s w (null k) (null l) h h' = ap null (one_lead m s w l k to_null to_null h' h).0
same m s w (null k) (cap l i) h h' = let e = (one_lead m s w l k (to_cap i) to_null h' h).1 in cc
same m s w (null k) (object l t b q) h h' = search (rules, one_lead, to_object, to_null)
same m s w (cap k i) (null l) h h' = let e = (one_lead m s w l k to_null (to_cap i) h' h).1 in cc
same m s w (cap k i) (cap l j) h h' = search (rules, one_lead, to_cap)
same m s w (cap k i) (object l t b q) h h' = search (rules, one_lead, to_object, to_cap)
same m s w (object k t b q) (null l) h h' = search (rules, one_lead, to_null, to_object)
same m s w (object k t b q) (cap l i) h h' = search (rules, one_lead, to_cap, to_object)
same m s w (object k t b q) (object l t' b' q') h h' = search (rules, one_lead, to_object)

-- exactly one thing comes of each word
one_outcome : OneOutcome
one_outcome m s w p h =
    elim (fate m s w p h) [
      | inl (v, wrong) ↦ (refused v, wrong, λ o x. same m s w (refused v) o wrong x)
      | inr (inl (k, leads)) ↦ (null k, leads, λ o x. same m s w (null k) o leads x)
      | inr (inr (inl (k, i, leads))) ↦ (cap k i, leads, λ o x. same m s w (cap k i) o leads x)
      | inr (inr (inr (k, t, b, q, finds))) ↦ (object k t b q, finds, λ o x. same m s w (object k t b q) o finds x)
    ]

pub returns : goal.returns
returns c = one_outcome
