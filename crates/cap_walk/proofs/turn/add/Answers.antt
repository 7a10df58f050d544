use Rattle.std.proofs.Common.{Bool, Option, Some, false, is_some, max, not, refl, true, ℕ, ◌+◌, ◌≡◌, rules}
use Rattle.cap_walk.specs.WalkNames.{added, or_place, Report, Object, PointerRun}
use Rattle.cap_ptr.specs.declared.place.Place.{Place}
use Rattle.cap_walk.specs.declared.looking.Looked.TheVariants.{Cap}
use Rattle.cap_walk.proofs.turn.add.Goals as goal

first_place : (o : Option (ℕ × ℕ)) (s w : ℕ) (none : Bool) → is_some o ≡ not none → none ≡ true → Some (s, w) ≡ or_place o s w
first_place o s w none e f = search rules

later_place : (o : Option (ℕ × ℕ)) (s w : ℕ) (none : Bool) → is_some o ≡ not none → none ≡ false → o ≡ or_place o s w
later_place o s w none e f = search rules

cap_added : (r : Report) (s w cost : ℕ) (place : Option (ℕ × ℕ)) → place ≡ or_place r.first_cap s w
    → ◌≡◌ {A = Report} record { charge = r.charge + cost; depth = r.depth; pointers = r.pointers + 1; caps = r.caps + 1; first_cap = place }
    (added r s w (Cap cost))
cap_added r s w cost place e = rw e refl

object_added : (r : Report) (s w cost deepest depth : ℕ) (run : Option PointerRun) (place : Place) → depth ≡ max r.depth deepest
    → ◌≡◌ {A = Report} record { charge = r.charge + cost; depth = depth; pointers = r.pointers + 1; caps = r.caps; first_cap = r.first_cap }
    (added r s w (Object cost deepest run place))
object_added r s w cost deepest depth run place e = rw e refl

pub returns-then-is_none-clause-report : goal.returns-then-is_none-clause-report
returns-then-is_none-clause-report c = search (rules, cap_added, first_place)

pub returns-else-is_none-clause-report : goal.returns-else-is_none-clause-report
returns-else-is_none-clause-report c = search (rules, cap_added, later_place)

pub returns-then-report-deepest-clause-report : goal.returns-then-report-deepest-clause-report
returns-then-report-deepest-clause-report c = search (rules, object_added)
