-- What is said of one pointer word that was followed within limits.
use Rattle.cap_spec.specs.declared.Reason.TheVariants.{DepthLimit, WordLimit}
use Rattle.cap_spec.proofs.ProofNames.{List, Option, arith, inl, inr, refl, ℕ, ◌+◌, ◌-◌, ◌<◌, ◌≡◌, rules, ◌≤◌}
use Rattle.cap_spec.proofs.ProofNames.{IsFirstReason, is_deep, is_past, IsComposite, HasWord, Costs, IsDeepAt}
use Rattle.cap_spec.proofs.ProofNames.{levels_below}
use Rattle.cap_ptr.specs.Shapes.{FindsTargetBy, IsFollowed, IsShape, charge_of}
use Rattle.cap_ptr.specs.declared.shapes.Followed.{Followed}
use Rattle.cap_walk.specs.Looking.{LooksObject, deepest_of}
use Rattle.cap_ptr.specs.declared.shapes.Shape.{Shape}
use Rattle.cap_ptr.specs.declared.shapes.Target.{Target}
use Rattle.cap_walk.specs.WalkNames.{levels_of, RunRises, object_places, OptionIn, option_spots}
use Rattle.cap_walk.specs.WalkNames.{PointerRun}
use Rattle.cap_walk.proofs.Steps.{cap_no_object, null_no_object}
use Rattle.cap_walk.proofs.Turning.{deep_once}
use Rattle.cap_ptr.specs.declared.shapes.Followed.TheVariants as followed

-- the levels of a shape
levels_shape : (q tag : ℕ) (x : Shape) → IsShape q tag x → levels_of x ≡ levels_below q tag
levels_shape q tag x h = search rules

-- a composite list has its tag
tagged_of : (m : List (List ℕ)) (s w q tag : ℕ) (x : Target) → FindsTargetBy m s w q tag x → IsComposite q → HasWord m x.segment x.start tag
tagged_of m s w q tag x f h = (f.object.tagged h).0

-- following a word costs what it is charged
pub followed_costs : (m : List (List ℕ)) (s w : ℕ) (f : Followed) → IsFollowed m s w f → Costs m s w (charge_of f)
followed_costs m s w (followed.Null k) h = inl h
followed_costs m s w (followed.Cap k i) h = inr (inl (i, h))
followed_costs m s w (followed.Target x) (q, tag, h) =
    inr (inr (x.pads, x.segment, x.start, q, tag, h.finds, tagged_of m s w q tag x h, h.object.charge))

-- what takes no level past the limit isn't too deep
pub followed_shallow : (m : List (List ℕ)) {depth s w : ℕ} (level : ℕ) (f : Followed) → IsFollowed m s w f → deepest_of level f ≤ depth → ¬ IsDeepAt m depth s w level
followed_shallow m {s} {w} level (followed.Null k) h e =
    λ (k', t, b, q, tag, finds, has_tag, deep). null_no_object m s w k k' t b q h finds
followed_shallow m {s} {w} level (followed.Cap k i) h e =
    λ (k', t, b, q, tag, finds, has_tag, deep). cap_no_object m s w k i k' t b q h finds
followed_shallow m {depth} {s} {w} level (followed.Target x) (q, tag, h) e =
    deep_once m depth s w level x.pads x.segment x.start q tag h.finds (tagged_of m s w q tag x h) (omega (arith, e, levels_shape q tag x.shape h.object.shape))

-- and what takes one is
pub followed_deep : {m : List (List ℕ)} {words depth consumed s w level : ℕ} (f : Followed) → IsFollowed m s w f → depth < deepest_of level f
    → IsFirstReason m words depth consumed s w level DepthLimit
followed_deep (followed.Null k) h e = absurd (omega arith)
followed_deep (followed.Cap k i) h e = absurd (omega arith)
followed_deep {m} {s} {w} (followed.Target x) (q, tag, h) e =
    is_deep refl (x.pads, x.segment, x.start, q, tag, h.finds, tagged_of m s w q tag x h, omega (arith, e, levels_shape q tag x.shape h.object.shape))

-- what costs more than the words that are left is past the word limit
pub followed_past : {m : List (List ℕ)} {words depth consumed s w level : ℕ} (f : Followed) → IsFollowed m s w f → deepest_of level f ≤ depth
    → words - consumed < charge_of f → consumed ≤ words → IsFirstReason m words depth consumed s w level WordLimit
followed_past {m} {s} {w} {level} f h shallow past capacity =
    is_past (charge_of f) refl (followed_shallow m level f h shallow) (followed_costs m s w f h) (omega arith)

-- an object within the limits
pub looks_object : {m : List (List ℕ)} {words depth consumed s w level : ℕ} (q tag : ℕ) {below : ℕ} (x : Target) (run : Option PointerRun) → FindsTargetBy m s w q tag x
    → below ≡ levels_of x.shape → level + levels_of x.shape ≤ depth → x.charge ≤ words - consumed → consumed ≤ words
    → option_spots run ≡ object_places q tag x.segment x.start level → OptionIn m run → RunRises level depth run
    → LooksObject m words depth consumed s w level x.charge (level + below) run record { segment = x.segment; start = x.start; words = x.words }
    x.pads x.segment x.start q tag
looks_object {m} {s} {w} q tag x run f e h k g a b c = search (rules, tagged_of, levels_shape)
