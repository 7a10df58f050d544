-- The bytes and the path decide what the call for the node at a path finds.
use Rattle.cap_spec.proofs.ProofNames.{rules, ap₂, refl, HasObject, PathFinds, FindsKind, Leads, to_cap, to_null}
use Rattle.cap_spec.proofs.ProofNames.{to_object, Spot, element, word}
use Rattle.std.proofs.Common.{Bool, List, [], ap, get_or, not, slice_set, subst, sym, ℕ, ◌∙◌, ◌∷◌, ◌≡◌}
use Rattle.cap_spec.proofs.Paths.PathTexts.{one_bad_place, one_path_text, path_not_bad}
use Rattle.cap_path.specs.PathSteps.{AreStepsLeft}
use Rattle.cap_path.specs.declared.steps.PathSteps.{PathSteps}
use Rattle.cap_vet.proofs.PathFaults.{meets_no_path_fault, one_path_fault}
use Rattle.cap_calls.specs.CallFindings.{without}
use Rattle.cap_calls.specs.NodeCalls.{GetsFirst, ReportsPathCall, bad_limits}
use Rattle.cap_calls.specs.CallNames.{Step, Demands, ReportsWhole, framed, none_found, reports, trailing}
use Rattle.cap_calls.specs.CallNames.{allows_trailing, demands_of, AreLimits, none_node, ReportsMessage, Gets}
use Rattle.cap_calls.specs.CallNames.{ReportsGet, a_node, a_path, bad_path, no_meeting, no_node, Answer, Found}
use Rattle.cap_calls.specs.CallNames.{BadLimits, CallLimits, CallNode, CallReport, Kind, Cap, Null, Scalars, Struct}
use Rattle.cap_calls.specs.CallNames.{Structs, kind_node, offset_of}
use Rattle.cap_calls.proofs.Answers.{one_returned, one_whole_reported}
use Rattle.cap_spec.specs.declared.Kind.TheVariants.{Pointers}
use Rattle.cap_spec.proofs.Lemmas.{one_coming, one_lead, one_found}

-- One node is at a path.
-- what a pointer word leads to
data Seen (m : List (List ℕ)) (s w : ℕ) (k : Kind) (t b : ℕ) : Type 0 where
  null : (x : ℕ) → Leads m s w x to_null → k ≡ Null → Seen m s w k t b
  cap : (x i : ℕ) → Leads m s w x (to_cap i) → k ≡ Cap i → Seen m s w k t b
  object : (x q tag : ℕ) → FindsKind m s w k x t b q tag → Seen m s w k t b

seen : (m : List (List ℕ)) (s w : ℕ) (k : Kind) (t b n : ℕ) → HasObject m (word s w) k t b n → Seen m s w k t b
seen m s w Null t b n (x, h) = null x h refl
seen m s w (Cap i) t b n (x, h) = cap x i h refl
seen m s w (Struct d p) t b n (x, q, tag, h, e) = object x q tag h
seen m s w (Scalars c y) t b n (x, q, tag, h, e) = object x q tag h
seen m s w (Pointers y) t b n (x, q, tag, h, e) = object x q tag h
seen m s w (Structs y d p) t b n (x, q, tag, h, e) = object x q tag h

-- a node by its kind and its place
abbrev node_at : List (List ℕ) → Kind → ℕ → ℕ → CallNode
node_at m k t b = kind_node k (offset_of m t b)

one_seen : (m : List (List ℕ)) (s w : ℕ) (k k' : Kind) (t b t' b' : ℕ) → Seen m s w k t b → Seen m s w k' t' b'
    → node_at m k t b ≡ node_at m k' t' b'
one_seen m s w k k' t b t' b' h e = search (rules, to_null, to_cap, one_lead, to_object, one_found)

-- an element is a struct
record IsElement (t' b' ds ps : ℕ) (k : Kind) (t b : ℕ) : Type 0 where
  kind : k ≡ Struct ds ps
  segment : t ≡ t'
  start : b ≡ b'

element_seen : (m : List (List ℕ)) (t' b' ds ps : ℕ) (k : Kind) (t b n : ℕ) → HasObject m (element t' b' ds ps) k t b n
    → IsElement t' b' ds ps k t b
element_seen m t' b' ds ps Null t b n h = absurd h
element_seen m t' b' ds ps (Cap i) t b n h = absurd h
element_seen m t' b' ds ps (Struct d p) t b n h =
    record { kind = ap₂ Struct h.data_words h.pointers; segment = h.segment; start = h.start }
element_seen m t' b' ds ps (Scalars c x) t b n h = absurd h
element_seen m t' b' ds ps (Pointers x) t b n h = absurd h
element_seen m t' b' ds ps (Structs x d p) t b n h = absurd h

one_lie : (m : List (List ℕ)) (a : Spot) (k k' : Kind) (t b n t' b' n' : ℕ) → HasObject m a k t b n
    → HasObject m a k' t' b' n' → node_at m k t b ≡ node_at m k' t' b'
one_lie m (word s w) k k' t b n t' b' n' h g = one_seen m s w k k' t b t' b' (seen m s w k t b n h) (seen m s w k' t' b' n' g)
one_lie m (element u v ds ps) k k' t b n t' b' n' h g = search (rules, element_seen)

-- The node at a path is one.
pub one_node : (m : List (List ℕ)) (path : List Step) (k k' : Kind) (t b n t' b' n' : ℕ) → PathFinds m path k t b n
    → PathFinds m path k' t' b' n' → kind_node k (offset_of m t b) ≡ kind_node k' (offset_of m t' b')
one_node m path k k' t b n t' b' n' (l, a, c, h) (l', a', c', g) =
    let same : a ≡ a' = (one_coming m path l l' a a' c c').1 in
    one_lie m a k k' t b n t' b' n' h (subst (λ (x : Spot). HasObject m x k' t' b' n') (sym same) g)

-- of a path in a message
pub one_gets : (path : List Step) (demands : Demands) (x y : CallNode) (m : List (List ℕ)) (w d : ℕ) (f g : Found)
    → Gets path x demands m w d f → Gets path y demands m w d g → (f ≡ g) × (x ≡ y)
one_gets path demands x y m w d f g (no_meeting r h e n) (no_meeting q k i o) = search (rules, one_path_fault)
one_gets path demands x y m w d f g (no_meeting r h e n) (no_node k none i o) = absurd (meets_no_path_fault demands m w d path r k h)
one_gets path demands x y m w d f g (no_meeting r h e n) (a_node k t b z meets at i o) = absurd (meets_no_path_fault demands m w d path r meets h)
one_gets path demands x y m w d f g (no_node h none e n) (no_meeting q k i o) = absurd (meets_no_path_fault demands m w d path q h k)
one_gets path demands x y m w d f g (no_node h none e n) (no_node k also i o) = (e ∙ sym i, n ∙ sym o)
one_gets path demands x y m w d f g (no_node h none e n) (a_node k t b z meets at i o) = absurd (none k t b z at)
one_gets path demands x y m w d f g (a_node k t b z meets at e n) (no_meeting q h i o) = absurd (meets_no_path_fault demands m w d path q meets h)
one_gets path demands x y m w d f g (a_node k t b z meets at e n) (no_node h none i o) = absurd (none k t b z at)
one_gets path demands x y m w d f g (a_node k t b z meets at e n) (a_node k' t' b' z' meets' at' i o) = search (rules, one_node m path k k' t b z t' b' z')

-- Bad limits are all that is found.
pub limits_alone : {K : Type 0} {P : List (List ℕ) → ℕ → ℕ → Found → Type 0} (whole : Bool) (l : CallLimits) (bs : List ℕ)
    (f : Found) → ¬ AreLimits l → ReportsWhole whole K P l bs f → (f ≡ none_found BadLimits) × K
limits_alone whole l bs f bad h = search rules

one_reported_path : (l : CallLimits) (bs text : List ℕ) (x y : CallNode) (f g : Found) → ReportsPathCall l bs text x f
    → ReportsPathCall l bs text y g → (f ≡ g) × (x ≡ y)
one_reported_path l bs text x y f g (bad_limits h e n) (bad_limits k i o) = (e ∙ sym i, n ∙ sym o)
one_reported_path l bs text x y f g (bad_limits h e n) (bad_path at are bad i o) = absurd (h are)
one_reported_path l bs text x y f g (bad_limits h e n) (a_path p are is t) = search (rules, limits_alone)
one_reported_path l bs text x y f g (bad_path at are bad e n) (bad_limits k i o) = absurd (k are)
one_reported_path l bs text x y f g (bad_path at are bad e n) (bad_path at' are' bad' i o) = search (rules, one_bad_place)
one_reported_path l bs text x y f g (bad_path at are bad e n) (a_path p steps is t) = absurd (path_not_bad text at (p, steps, is) bad)
one_reported_path l bs text x y f g (a_path p are is t) (bad_limits k i o) = search (rules, limits_alone)
one_reported_path l bs text x y f g (a_path p steps is t) (bad_path at are bad i o) = absurd (path_not_bad text at (p, steps, is) bad)
one_reported_path l bs text x y f g (a_path p are is t) (a_path q also too u) =
    let same = one_path_text p q are also (sym is ∙ too) in
    let v : ReportsMessage (y ≡ none_node) (Gets p y (demands_of l)) l bs g =
    subst (λ (z : List Step). ReportsMessage (y ≡ none_node) (Gets z y (demands_of l)) l bs g) (sym same) u in
    one_whole_reported {S = x ≡ y} (not (allows_trailing l)) l bs f g (λ a b. a ∙ sym b)
    (λ m a b r s. one_gets p (demands_of l) x y m l.charge l.depth a b r s) t v

pub one_get_reported : (l : CallLimits) (bs text : List ℕ) (a b : Answer) (x y : CallNode) (r q : CallReport)
    → ReportsGet l bs text a x r → ReportsGet l bs text b y q → (a ≡ b) × (x ≡ y) × (r ≡ q)
one_get_reported l bs text a b x y r q (f, t, h) (g, u, k) =
    search (rules, one_reported_path l bs text x y f g t u, one_returned f g a b r q (one_reported_path l bs text x y f g t u).0 h k)

-- The first of some nodes is the one that was put there.
put_first : (old other : CallNode) (nodes : List CallNode) (node : CallNode) → nodes ≡ slice_set (old ∷ []) 0 node
    → get_or nodes 0 other ≡ node
put_first old other nodes node e = ap (λ (l : List CallNode). get_or l 0 other) e

-- So what is found of the first of some nodes is found of it.
module _ (l : CallLimits) (bs : List ℕ) (path : List Step) (steps : PathSteps) (old other : CallNode)
    (nodes : List CallNode) (f : Found) (blank : old ≡ none_node) (left : AreStepsLeft steps path) where
  kept : nodes ≡ old ∷ [] → get_or nodes 0 other ≡ none_node
  kept k = ap (λ (z : List CallNode). get_or z 0 other) k ∙ blank

  pub first_reported : ReportsMessage (nodes ≡ old ∷ [])
      (λ m w d g. (p : List Step) → AreStepsLeft steps p → GetsFirst p (old ∷ []) nodes (demands_of l) m w d g) l bs f
      → ReportsMessage (get_or nodes 0 other ≡ none_node) (Gets path (get_or nodes 0 other) (demands_of l)) l bs f
  first_reported (trailing m x y t h more e k) = trailing m x y t h more e (kept k)
  first_reported (reports only (without c h e k)) = reports only (without c h e (kept k))
  first_reported (reports only (framed m x y g h p e)) =
      let q = p path left in
      reports only (framed m x y g h
      (subst (λ (z : CallNode). Gets path z (demands_of l) m l.charge l.depth g) (sym (put_first old other nodes q.0 q.2)) q.1) e)
