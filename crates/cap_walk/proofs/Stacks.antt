-- What one turn of a walk leaves of its runs.
use Rattle.cap_spec.proofs.Bytes.Lists.{reverse-more}
use Rattle.cap_spec.proofs.ProofNames.{List, None, Option, [], ap, arith, inl, length, length-append, map}
use Rattle.cap_spec.proofs.ProofNames.{option_to_list, refl, reverse, subst, suc, sym, ℕ, ◌++◌, ◌+◌, ◌<◌, ◌∙◌, ◌∷◌}
use Rattle.cap_spec.proofs.ProofNames.{◌≡◌, ◌≤◌, length-map, map-append, reverse-append, AllByRecursion, Finds, Leads}
use Rattle.cap_spec.proofs.ProofNames.{extra, near, to_cap, to_null, HasWord, Costs, Reaches, extent, levels_below}
use Rattle.cap_spec.proofs.ProofNames.{rules}
use Rattle.cap_walk.specs.WalkNames.{Step, depth_of, words_of, IsLooked, object_children, IsRest, OptionIn, RunIn}
use Rattle.cap_walk.specs.PointerRuns.{all_spots}
use Rattle.cap_walk.specs.WalkNames.{option_spots, pointer_word_of, spots, Ahead, added, IsWalking}
use Rattle.cap_walk.specs.WalkNames.{HasWalked, IsNext, work_left, Limits, Report, PointerRun}
use Rattle.cap_walk.specs.Walking.{IsLookedAt}
use Rattle.cap_walk.specs.Turning.{cost_of, run_below}
use Rattle.cap_walk.specs.Turns.{GoesOn, GoesOnBelow, IsAt}
use Rattle.cap_walk.specs.WalkSteps.{Continues, GoesOnWith}
use Rattle.cap_walk.specs.Walking.{AreNull, work_next}
use Rattle.cap_walk.specs.declared.looking.Looked.{Looked}
use Rattle.cap_walk.specs.declared.walking.Next.{Next}
use Rattle.cap_walk.proofs.Objects.{object-brings, object_places-children}
use Rattle.cap_walk.proofs.Turning.{next_ahead, turn_cap, turn_null, turn_object}
use Rattle.cap_walk.specs.declared.looking.Looked.TheVariants as looked

spots-more : (r : Option PointerRun) (runs : List PointerRun) → all_spots (option_to_list r ++ runs) ≡ option_spots r ++ all_spots runs
spots-more r runs = search rules

inside-more : (m : List (List ℕ)) (r : Option PointerRun) (runs : List PointerRun) → OptionIn m r → AllByRecursion (RunIn m) runs
    → AllByRecursion (RunIn m) (option_to_list r ++ runs)
inside-more m r runs h l = search rules

high-rest : (level : ℕ) (r : Option PointerRun) (runs : List PointerRun) → length runs + 1 ≤ level → length (option_to_list r ++ runs) ≤ level
high-rest level r runs h = search rules

-- The first word of the topmost run is the next to look at, and what was looked at stays.
pub next_seen : {m : List (List ℕ)} {words depth : ℕ} (runs : List PointerRun) {f : PointerRun} {r : Option PointerRun}
    {report : Report} {seen : List (List Step)} {aheads : List Ahead}
    → HasWalked m words depth (runs ++ f ∷ []) report seen aheads → IsRest f r
    → (n : IsNext m words depth f.segment f.at f.level (runs ++ option_to_list r) report) × (n.seen ≡ seen)
next_seen runs {f} {r} {aheads} w rest =
    let e : reverse (runs ++ f ∷ []) ≡ f ∷ reverse runs = reverse-append runs (f ∷ []) in
    let places : map pointer_word_of aheads ≡ spots f ++ all_spots (reverse runs) = rw e at w.places in
    let more = reverse-more runs r in
    let next = next_ahead (f.segment, f.at, f.level) (option_spots r ++ all_spots (reverse runs)) aheads
    (places ∙ ap (λ u. u ++ all_spots (reverse runs)) rest.words) in (
      search (rules, spots-more, inside-more, high-rest),
      refl,
    )

pub next_at : (m : List (List ℕ)) (limits : Limits) (runs : List PointerRun) (f : PointerRun) (r : Option PointerRun)
    (report : Report) (K : List (List Step) → Type 0)
    → IsWalking m limits (runs ++ f ∷ []) report K → IsRest f r → IsAt m limits f.segment f.at f.level (runs ++ option_to_list r) report K
next_at m limits runs f r report K w rest =
    let n = next_seen runs w.walks rest in
    record { next = n.0; known = subst K (sym n.1) w.known }

-- Looking at the next word keeps the walk, and that word is the last that was looked at.
pub walks_on : (m : List (List ℕ)) (words depth s w level : ℕ) (runs : List PointerRun) (report : Report) (l : Looked)
    (t : IsNext m words depth s w level runs report)
    → IsLooked m words depth report.charge s w level l → (later : List Ahead) × HasWalked m words depth (runs ++ option_to_list (run_below l))
    (added report s w l) (t.a.path ∷ t.seen) later
walks_on m words depth s w level runs report (looked.Null cost) t (h, within) =
    let own : Leads m t.a.segment t.a.word cost to_null = rw (t.segment, t.at) h in
    let more = reverse-more runs None in (
      t.ahead,
      search (rules, turn_null),
    )
walks_on m words depth s w level runs report (looked.Cap cost) t ((i, h), within) =
    let own : Leads m t.a.segment t.a.word cost (to_cap i) = rw (t.segment, t.at) h in
    let more = reverse-more runs None in (
      t.ahead,
      record {
        progress = rw (← t.segment, ← t.at) (search (rules, turn_cap, own, within));
        places = rw more t.places;
        inside = rw more t.inside;
        stacked = rw more t.stacked;
      },
    )
walks_on m words depth s w level runs report (looked.Object cost deep below place) t (k, u, b, q, tag, o) =
    let children : List Ahead = object_children t.a.path q tag u b t.a.level in
    let within : report.charge + (k + extent q + extra q tag) ≤ words = omega (arith, o.within, o.charge) in
    let shallow : t.a.level + levels_below q tag ≤ depth = omega (arith, o.shallow, o.deepest, t.leads_to) in
    let done = turn_object t.progress (rw (t.segment, t.at) o.finds) o.tagged within shallow in
    search (rules, map-append, object_places-children, reverse-more, spots-more, inside-more)

-- a word has no more words below it than it costs
few_below : (m : List (List ℕ)) (words depth s w level : ℕ) (runs : List PointerRun) (report : Report) (l : Looked) → IsNext m words depth s w level runs report
    → IsLooked m words depth report.charge s w level l → (length (option_spots (run_below l)) + report.charge ≤ (added report s w l).charge)
    × ((added report s w l).charge ≤ words)
few_below m words depth s w level runs report (looked.Null cost) t (h, within) = (omega arith, within)
few_below m words depth s w level runs report (looked.Cap cost) t (h, within) = (omega arith, within)
few_below m words depth s w level runs report (looked.Object cost deep below place) t (k, u, b, q, tag, o) =
    let own : Finds m t.a.segment t.a.word k u b q = rw (t.segment, t.at) o.finds in
    let brings = object-brings m t.a k u b q tag report.depth t.progress.trail.ahead_reached.0 own o.tagged in
    search (rules, object_places-children, length-map)

-- so the work that is left falls
pub work_falls : (m : List (List ℕ)) (words depth s w level : ℕ) (runs : List PointerRun) (report : Report) (l : Looked)
    → IsNext m words depth s w level runs report
    → IsLooked m words depth report.charge s w level l → work_left words (runs ++ option_to_list (run_below l)) (added report s w l) < suc
    (work_left words runs report)
work_falls m words depth s w level runs report l t h =
    let few = few_below m words depth s w level runs report l t h in
    search (rules, reverse-more, spots-more, length-append)

-- and a word that is taken from its run was some of it
pub work_rest : (words : ℕ) (runs : List PointerRun) (f : PointerRun) (r : Option PointerRun) (report : Report) → IsRest f r
    → work_next words (runs ++ option_to_list r) report ≡ work_left words (runs ++ f ∷ []) report
work_rest words runs f r report h = search (rules, reverse-append, reverse-more, spots-more)

pub work_smaller : (words : ℕ) (runs left : List PointerRun) (f : PointerRun) (r : Option PointerRun) (report after : Report) → IsRest f r
    → work_left words left after < work_next words (runs ++ option_to_list r) report
    → work_left words left after < work_left words (runs ++ f ∷ []) report
work_smaller words runs left f r report after rest h = omega (arith, h, work_rest words runs f r report rest)

-- A turn at the first word of the topmost run leaves less of the walk.
pub turned : (m : List (List ℕ)) (limits : Limits) (runs left more : List PointerRun) (f : PointerRun) (r : Option PointerRun) (report after : Report)
    (K : List (List Step) → Type 0)
    → IsRest f r → left ≡ more → GoesOn m limits left after K (work_next (words_of limits) (runs ++ option_to_list r) report)
    → GoesOn m limits more after K (work_left (words_of limits) (runs ++ f ∷ []) report)
turned m limits runs left more f r report after K k e h = search (rules, work_rest)

-- a word that was looked at has this cost
pub looked_costs : {m : List (List ℕ)} (words depth consumed : ℕ) {s w : ℕ} (level : ℕ) (l : Looked) → IsLooked m words depth consumed s w level l → Costs m s w (cost_of l)
looked_costs words depth consumed level (looked.Null cost) h = inl h.0
looked_costs words depth consumed level l h = search rules

-- The next word was looked at, and is the last so far. Below it is this run, and less is left of the walk.
pub record HasVisited (m : List (List ℕ)) (limits : Limits) (s w level : ℕ) (runs : List PointerRun) (before : Report)
    (n : IsNext m (words_of limits) (depth_of limits) s w level runs before) (below : Option PointerRun) (after : Report) : Type 0 where
  pub later : List Ahead
  pub walks : HasWalked m (words_of limits) (depth_of limits) (runs ++ option_to_list below) after (n.a.path ∷ n.seen) later
  pub less : work_left (words_of limits) (runs ++ option_to_list below) after < work_next (words_of limits) runs before

-- So where the next word was looked at, the walk goes on.
pub visited : {m : List (List ℕ)} {limits : Limits} {s w level : ℕ} (runs : List PointerRun) {report : Report} (l : Looked)
    (n : IsNext m (words_of limits) (depth_of limits) s w level runs report)
    → IsLooked m (words_of limits) (depth_of limits) report.charge s w level l
    → HasVisited m limits s w level runs report n (run_below l) (added report s w l)
visited {m} {limits} {s} {w} {level} runs {report} l n h =
    let on = walks_on m (words_of limits) (depth_of limits) s w level runs report l n h in
    search (rules, work_falls)

-- What a turn gets of a word that was looked at.
pub looked_at : {m : List (List ℕ)} {words depth s w level : ℕ} {runs below : List PointerRun} {report after : Report} {later : List Ahead}
    (n : IsNext m words depth s w level runs report) → HasWalked m words depth below after (n.a.path ∷ n.seen) later
    → {cost : ℕ} → Costs m s w cost → IsLookedAt m n.seen n.a s w after.pointers cost
looked_at {later} n r costs = search rules

-- What is known of the paths so far is known after null words too.
pub known_past : (m : List (List ℕ)) (K : List (List Step) → Type 0) (nulls seen : List (List Step))
    → ((seen : List (List Step)) (p : List Step) (level s w : ℕ) → Reaches m p level s w → HasWord m s w 0 → K seen → K (p ∷ seen))
    → AreNull m nulls → K seen → K (nulls ++ seen)
known_past m K [] seen pass h k = k
known_past m K (p ∷ nulls) seen pass ((level, s, w, r, has), h) k = pass (nulls ++ seen) p level s w r has (known_past m K nulls seen pass h k)

-- A step goes on with what the turn at the first word of the run leaves.
pub steps_on : {m : List (List ℕ)} {limits : Limits} {runs : List PointerRun} {f : PointerRun} {report after : Report}
    {K L : List (List Step) → Type 0} {below : Option PointerRun} {next : Next} {items : List PointerRun} {new : PointerRun}
    → IsWalking m limits (runs ++ f ∷ []) report K
    → ((rs : List PointerRun) → IsAt m limits f.segment f.at f.level rs report K → GoesOnBelow m limits rs below report after L)
    → Continues next runs f below items new → GoesOnWith m limits next runs f report items new after L
steps_on w turn c = search (rules, next_at, turned)

-- A null word was looked at, with nothing below it.
pub null_visited : (m : List (List ℕ)) (limits : Limits) (s w level : ℕ) (runs : List PointerRun) (report : Report)
    (n : IsNext m (words_of limits) (depth_of limits) s w level runs report) → HasWord m s w 0
    → HasVisited m limits s w level runs report n None (added report s w (looked.Null 0))
null_visited m limits s w level runs report n null =
    visited runs (looked.Null 0) n (near 0 null (omega arith) refl refl, omega (arith, n.progress.within))
