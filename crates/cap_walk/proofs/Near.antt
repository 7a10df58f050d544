-- What a walk needs to know of an object that its pointer word alone describes.
use Rattle.cap_spec.proofs.ProofNames.{List, Option, arith, false, length, ne_eqb, pos, refl, ℕ, ℤ, ◌+◌, ◌-◌, ◌<◌}
use Rattle.cap_spec.proofs.ProofNames.{◌==◌, ◌∙◌, ◌≡◌, ◌≤◌, Finds, Leads, Says, to_object, segment_of, code}
use Rattle.cap_spec.proofs.ProofNames.{levels_below, rules}
use Rattle.cap_spec.proofs.Trees.Charges.{extent_pointers, extent_struct}
use Rattle.cap_ptr.specs.Reaching.{ResolvesTo}
use Rattle.cap_ptr.specs.Rows.{FindsRow, HasPointers}
use Rattle.cap_ptr.proofs.NearObjects.{pointers-no_extra, pointers-plain}
use Rattle.cap_ptr.specs.declared.near.Row.{Row}
use Rattle.cap_walk.specs.WalkNames.{IsLooked, RunRises, OptionIn, option_spots, row_places, Object}
use Rattle.cap_walk.specs.PointerRuns.{LevelIs}
use Rattle.cap_walk.specs.WalkNames.{PointerRun}

-- a list of values has no pointers, and no levels below it
six_not : (q : ℕ) → code q < 6 → (code q == 6) ≡ false
six_not q few = ne_eqb (code q) 6 (λ h. omega (arith, h, few))

seven_not : (q : ℕ) → code q < 6 → (code q == 7) ≡ false
seven_not q few = ne_eqb (code q) 7 (λ h. omega (arith, h, few))

-- and it takes no level below its own
near_levels : (q n : ℕ) → HasPointers q n → levels_below q 0 ≡ 0
near_levels q n h = search (rules, seven_not)

near_rises : (level depth : ℕ) (run : Option PointerRun) → level ≤ depth → LevelIs (level + 1) run → RunRises level depth run
near_rises level depth run h e = search rules

-- its pointer words lie inside its segment
pub row_inside : (m : List (List ℕ)) (s w q : ℕ) (r : Row) → FindsRow m s w q r → r.pointers_start + r.pointer_count ≤ length (segment_of m s)
row_inside m s w q r f = omega (arith, f.pointers_last, f.words, f.finds.inside.inside)

-- A word that leads to an object over no pads says so itself.
says_own : (m : List (List ℕ)) (t at q : ℕ) (b : ℤ) → Leads m t at 0 (to_object t b q) → Says t at q (to_object t b q)
says_own m t at q b h = search rules

-- So the pointer word whose place it takes leads there too.
finds_over : (m : List (List ℕ)) (s w k t at b q : ℕ) → ResolvesTo m s w k t at q → Finds m t at 0 t b q → Finds m s w k t b q
finds_over m s w k t at b q lies f = record { leads = lies.leads (to_object t (pos b) q) (says_own m t at q (pos b) f.leads); inside = f.inside }

-- such an object within the limits
pub looks_row : (m : List (List ℕ)) (words depth consumed s w level k t at q : ℕ) (r : Row) (run : Option PointerRun) → FindsRow m t at q r
    → ResolvesTo m s w k t at q → level ≤ depth → k + r.words ≤ words - consumed → consumed ≤ words
    → option_spots run ≡ row_places (level + 1) t r.pointers_start r.pointer_count → OptionIn m run → LevelIs (level + 1) run
    → IsLooked m words depth consumed s w level (Object (k + r.words) level run record { segment = t; start = r.start; words = r.words })
looks_row m words depth consumed s w level k t at q r run f lies shallow charge within places inside here =
    let plain = pointers-plain q r.pointer_count f.pointers in (
      k,
      t,
      r.start,
      q,
      0,
      record {
        finds = finds_over m s w k t at r.start q lies f.finds;
        tagged = λ c. absurd (plain.1 c.0 c.1);
        charge = omega (arith, f.words, pointers-no_extra q r.pointer_count f.pointers);
        within = omega arith;
        deepest = omega (arith, near_levels q r.pointer_count f.pointers);
        shallow = shallow;
        places = places ∙ (search (rules, extent_struct, extent_pointers, six_not, seven_not));
        inside = inside;
        rises = near_rises level depth run shallow here;
        own = rw f.words refl;
      },
    )
