-- What is so of a pointer word gives the answer of following it.
use Rattle.cap_spec.specs.declared.Reason.{Reason}
use Rattle.cap_spec.proofs.Pointers.Following.{cap-not_wrong, null-not_wrong, object-not_wrong, one_lead, one_wrong}
use Rattle.cap_spec.proofs.ProofNames.{Err, IfErr, IfOk, List, Ok, Result, ap, ℕ, ◌≡◌, Finds, Leads}
use Rattle.cap_spec.proofs.ProofNames.{Wrong, to_cap, to_null, rules}
use Rattle.cap_spec.proofs.Trees.Finding.{SameObject, one_object}
use Rattle.cap_ptr.specs.Shapes.{AnswersObject, IsAnswer, IsFollowed, IsShapedObject}
use Rattle.cap_ptr.specs.declared.shapes.Followed.{Followed}
use Rattle.cap_ptr.specs.declared.shapes.Shape.{Shape}
use Rattle.cap_ptr.specs.declared.shapes.Target.{Target}
use Rattle.cap_ptr.specs.declared.shapes.Followed.TheVariants as followed

-- what is so of an object is so of each name of it
same_object : (m : List (List ℕ)) (k t b q k' t' b' q' tag n c : ℕ) (x : Shape) → SameObject k' t' b' q' k t b q
    → IsShapedObject m k' t' b' q' tag n c x → IsShapedObject m k t b q tag n c x
same_object m k t b q k' t' b' q' tag n c x e h = search rules

module _ (m : List (List ℕ)) (s w : ℕ) where
  -- a word that was followed isn't wrong
  not_wrong : (f : Followed) → IsFollowed m s w f → (v : Reason) → ¬ Wrong m s w v
  not_wrong (followed.Target x) (q, tag, h) v = object-not_wrong m s w x.pads x.segment x.start q h.finds v
  not_wrong f h v = search (rules, null-not_wrong, cap-not_wrong)

  -- an answer says where the word leads,
  pub answer-ok : (r : Result Followed Reason) → IsAnswer m s w r → IfOk r (IsFollowed m s w)
  answer-ok r h = search rules

  -- or why it can't be followed
  pub answer-err : (r : Result Followed Reason) → IsAnswer m s w r → IfErr r (Wrong m s w)
  answer-err r h = search rules

  -- a word that is wrong has its reason as the answer
  pub wrong-answer : (r : Result Followed Reason) → IsAnswer m s w r → (v : Reason) → Wrong m s w v → r ≡ Err v
  wrong-answer (Ok f) a v h = absurd (not_wrong f a v h)
  wrong-answer (Err u) a v h = ap Err (one_wrong m s w u v a h)

  -- a word that leads to null has null as the answer
  pub null-answer : (r : Result Followed Reason) → IsAnswer m s w r → (k : ℕ) → Leads m s w k to_null → r ≡ Ok (followed.Null k)
  null-answer (Err u) a k h = absurd (null-not_wrong m s w k h u a)
  null-answer r a k h = search (rules, one_lead)

  -- a word that leads to a capability has it as the answer
  pub cap-answer : (r : Result Followed Reason) → IsAnswer m s w r → (k i : ℕ) → Leads m s w k (to_cap i) → r ≡ Ok (followed.Cap k i)
  cap-answer (Err u) a k i h = absurd (cap-not_wrong m s w k i h u a)
  cap-answer r a k i h = search (rules, one_lead)

  -- a word that leads to an object that sits has it as the answer
  pub object-answer : (r : Result Followed Reason) → IsAnswer m s w r → (k t b q : ℕ) → Finds m s w k t b q
      → (x : Target) × (tag : ℕ) × AnswersObject m k t b q r x tag
  object-answer (Err u) a k t b q h = absurd (object-not_wrong m s w k t b q h u a)
  object-answer r a k t b q h = search (rules, one_lead, one_object, same_object)
