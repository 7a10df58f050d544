-- The cost, the words and the pointers of what a word leads to, and the report after it (profile).
use Rattle.std.specs.Prelude.{None, Option, Some, max, ℕ, ◌+◌}
use Rattle.cap_ptr.specs.declared.place.Place.{Place}
use Rattle.cap_walk.specs.declared.report.Report.{Report}
use Rattle.cap_walk.specs.declared.looking.Looked.{Looked}
use Rattle.cap_walk.specs.declared.looking.Looked.TheVariants.{Cap, Null, Object}
use Rattle.cap_walk.specs.declared.pointer_run.PointerRun.{PointerRun}

-- the first of two places, where there is a first
abbrev pub or_place : Option (ℕ × ℕ) → ℕ → ℕ → Option (ℕ × ℕ)
or_place None s w = Some (s, w)
or_place (Some place) s w = Some place

-- the report with what was found at s:w
abbrev pub added : Report → ℕ → ℕ → Looked → Report
added r s w (Null cost) = record { charge = r.charge + cost; depth = r.depth; pointers = r.pointers + 1; caps = r.caps; first_cap = r.first_cap }
added r s w (Cap cost) =
    record { charge = r.charge + cost; depth = r.depth; pointers = r.pointers + 1; caps = r.caps + 1; first_cap = or_place r.first_cap s w }
added r s w (Object cost deep run place) =
    record { charge = r.charge + cost; depth = max r.depth deep; pointers = r.pointers + 1; caps = r.caps; first_cap = r.first_cap }

-- what following the word costs, in words
abbrev pub cost_of : Looked → ℕ
cost_of (Null cost) = cost
cost_of (Cap cost) = cost
cost_of (Object cost deep run place) = cost

-- the words of the object, none for null and a capability
abbrev pub object_place : Looked → Place
object_place (Null cost) = record { segment = 0; start = 0; words = 0 }
object_place (Cap cost) = record { segment = 0; start = 0; words = 0 }
object_place (Object cost deep run place) = place

-- the run of the pointer words below
abbrev pub run_below : Looked → Option PointerRun
run_below (Null cost) = None
run_below (Cap cost) = None
run_below (Object cost deep run place) = run
