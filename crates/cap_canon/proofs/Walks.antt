-- A walk over an accepted message, from turn to turn.
use Rattle.cap_spec.proofs.Canonical.Sizes.{trimmed_size_charged}
use Rattle.cap_spec.proofs.Canonical.TreeMeasures.{measured}
use Rattle.cap_spec.proofs.Canonical.TrimmedMeasures.{trimmed}
use Rattle.cap_spec.proofs.Lemmas.{lie_inside, length-content, Fits, HasWord-inside, lead_word, formed, one_tree}
use Rattle.cap_spec.proofs.ProofNames.{common_steps, List, Option, [], arith, length, option_to_list, refl, subst, sym}
use Rattle.cap_spec.proofs.ProofNames.{ℕ, ◌++◌, ◌+◌, ◌-◌, ◌<◌, ◌∷◌, ◌≡◌, ◌≤◌, layout, trim, Denotes, IsMessage}
use Rattle.cap_spec.proofs.ProofNames.{segment_of, Tree, rules}
use Rattle.cap_canon.specs.AtRuns.{AtRun, AtTurn}
use Rattle.cap_canon.specs.CopyTurns.{IsTurn}
use Rattle.cap_canon.specs.CanonNames.{IsCopyRest, first_place, place, copy_root_run, Due, Laid}
use Rattle.cap_canon.specs.CanonNames.{below, own_size, IsObject, HasTree, IsCopying, NextLeadsTo, Object}
use Rattle.cap_canon.specs.CanonNames.{CopyRun, PointerPlace}
use Rattle.cap_canon.specs.StillToLay.{IsOwed}
use Rattle.cap_canon.proofs.LaidSteps.{object_laid}
use Rattle.cap_canon.proofs.Lengths.{size_below}
use Rattle.cap_canon.proofs.Owing.{Takes, next_of, top_short}
use Rattle.cap_canon.proofs.Runs.{root_rest}
use Rattle.cap_canon.proofs.Whole.{layout_laid}

-- what is owed fits the fields of words
pub owed_fits : (m : List (List ℕ)) (depth n s w : ℕ) (u : Tree) → IsOwed m depth n s w u → Fits u
owed_fits m depth n s w u o = search (rules, measured, trimmed)

-- and so does the root
pub root_fits : (m : List (List ℕ)) (t : Tree) (c d : ℕ) → Denotes m 0 0 t c d → Fits (trim t)
root_fits m t c d h = owed_fits m d 0 0 0 (trim t) (t, c, d, h, refl, omega arith)

-- there is a root word
pub root_inside : (m : List (List ℕ)) (t : Tree) (c d : ℕ) → Denotes m 0 0 t c d → 1 ≤ length (segment_of m 0)
root_inside m t c d h = grind (arith, common_steps, formed, lead_word, HasWord-inside)

-- at the root
first_turn : (m : List (List ℕ)) (state : List (List ℕ) → Tree → ℕ → List Due → Type 0) (depth : ℕ) → IsMessage m → (k : HasTree m depth)
    → state m (trim k.tree) 1 (record { slot = 0; tree = trim k.tree } ∷ []) → AtTurn m state depth [] (place 0 0 0) 1
first_turn m state depth is k so_far =
    let laid = layout_laid (layout (trim k.tree)) (trim k.tree) (root_fits m k.tree k.charge depth k.denotes) in
    search (rules, trimmed_size_charged, laid)

-- the object there
this_met : (m : List (List ℕ)) (state : List (List ℕ) → Tree → ℕ → List Due → Type 0) (depth : ℕ)
    (runs : List CopyRun) (p : PointerPlace) (end : ℕ)
    (object : Object) → (k : AtTurn m state depth runs p end)
    → ((t : Tree) (c d : ℕ) → Denotes m p.segment p.word t c d → IsObject m d p.segment p.word (trim t) object)
    → NextLeadsTo m depth p runs end k.tree k.due object
this_met m state depth runs p end object k f =
    let o = k.next.owed in
    record { next = k.next; d = o.2; is = subst (λ u. IsObject m o.2 p.segment p.word u object) (sym o.4) (f o.0 o.1 o.2 o.3); levels = o.5 }

this_turn : (m : List (List ℕ)) (state : List (List ℕ) → Tree → ℕ → List Due → Type 0)
    (depth : ℕ) (runs : List CopyRun) (p : PointerPlace) (end : ℕ)
    (object : Object) → (k : AtTurn m state depth runs p end) → NextLeadsTo m depth p runs end k.tree k.due object
    → IsTurn m (trim k.root) object p end k.tree k.due
this_turn m state depth runs p end object k met =
    let fits = owed_fits m depth (length runs) p.segment p.word k.tree k.next.owed in
    let parts = (object_laid (layout (trim k.root)) end p.slot k.tree k.due fits).0 k.laid in
    search (rules, lie_inside, length-content, size_below)

-- what is due after it
turn_laid : (m : List (List ℕ)) (state : List (List ℕ) → Tree → ℕ → List Due → Type 0) (depth : ℕ) (runs : List CopyRun)
    (p : PointerPlace) (end now : ℕ)
    → (k : AtTurn m state depth runs p end) → now ≡ end + own_size k.tree → Laid (layout (trim k.root)) now (below end k.tree ++ k.due)
turn_laid m state depth runs p end now k e =
    let fits = owed_fits m depth (length runs) p.segment p.word k.tree k.next.owed in
    subst (λ n. Laid (layout (trim k.root)) n (below end k.tree ++ k.due)) (sym e)
    ((object_laid (layout (trim k.root)) end p.slot k.tree k.due fits).0 k.laid).2

-- the next word
next_turn : (m : List (List ℕ)) (before state : List (List ℕ) → Tree → ℕ → List Due → Type 0) (depth : ℕ) (runs rest : List CopyRun)
    (p q : PointerPlace) (end now : ℕ)
    → (k : AtTurn m before depth runs p end) → now ≡ end + own_size k.tree → Takes m depth q rest now (below end k.tree ++ k.due)
    → state m (trim k.root) (end + own_size k.tree) (below end k.tree ++ k.due) → AtTurn m state depth rest q now
next_turn m before state depth runs rest p q end now k e taken so_far =
    search (rules, turn_laid m before depth runs p end now k e)

-- no word is left
pub last_turn : {m : List (List ℕ)} (before state : List (List ℕ) → Tree → ℕ → List Due → Type 0) {depth : ℕ} {runs : List CopyRun}
    {p : PointerPlace} {end now : ℕ}
    → (k : AtTurn m before depth runs p end) → now ≡ end + own_size k.tree → IsCopying m depth [] now (below end k.tree ++ k.due)
    → state m (trim k.root) (end + own_size k.tree) (below end k.tree ++ k.due) → (t : Tree) (c d : ℕ) → Denotes m 0 0 t c d
    → (now ≡ length (layout (trim t))) × state m (trim t) now []
last_turn {m} before state {depth} {runs} {p} {end} {now} k e w so_far t c d h =
    let same = one_tree m 0 0 k.root t k.charge depth c d k.denotes h in
    search (rules, same, turn_laid m before depth runs p end now k e)

-- at the root
pub first_run : (m : List (List ℕ)) (state : List (List ℕ) → Tree → ℕ → List Due → Type 0) (depth : ℕ) → IsMessage m → (k : HasTree m depth)
    → state m (trim k.tree) 1 (record { slot = 0; tree = trim k.tree } ∷ []) → AtRun m state depth [] copy_root_run 1
first_run m state depth is k so_far = search (rules, root_rest, first_turn)

-- The turn there, if this is left of the run after its first word.
pub record TurnHere (m : List (List ℕ)) (state : List (List ℕ) → Tree → ℕ → List Due → Type 0) (depth : ℕ) (runs : List CopyRun)
    (p : PointerPlace) (end : ℕ) (object : Object) : Type 0 where
  pub at : AtTurn m state depth runs p end
  pub met : NextLeadsTo m depth p runs end at.tree at.due object
  pub turn : IsTurn m (trim at.root) object p end at.tree at.due

pub turn_here : {m : List (List ℕ)} {state : List (List ℕ) → Tree → ℕ → List Due → Type 0} {depth : ℕ} {runs : List CopyRun}
    {run : CopyRun} {end : ℕ} (object : Object) → AtRun m state depth runs run end → (rest : Option CopyRun) → IsCopyRest run rest
    → ((t : Tree) (c d : ℕ) → Denotes m run.segment run.at t c d → IsObject m d run.segment run.at (trim t) object)
    → TurnHere m state depth (runs ++ option_to_list rest) (first_place run) end object
turn_here {m} {state} {depth} {runs} {run} {end} object k rest is_rest f =
    let p = first_place run in
    let all = runs ++ option_to_list rest in
    let at = k.turn rest is_rest in
    let met = this_met m state depth all p end object at f in
    record { at = at; met = met; turn = this_turn m state depth all p end object at met }

-- The runs after a turn, of which the current one comes last.
pub next_run : (m : List (List ℕ)) (before state : List (List ℕ) → Tree → ℕ → List Due → Type 0) (depth : ℕ) (runs after : List CopyRun)
    (p : PointerPlace) (end now : ℕ) (new : CopyRun)
    → (k : AtTurn m before depth runs p end) → now ≡ end + own_size k.tree → IsCopying m depth (after ++ new ∷ []) now (below end k.tree ++ k.due)
    → state m (trim k.root) (end + own_size k.tree) (below end k.tree ++ k.due) → AtRun m state depth after new now
next_run m before state depth runs after p end now new k e w so_far =
    let t = top_short m depth now after new (below end k.tree ++ k.due) w in record {
      full = t.0;
      short = t.1;
      turn = λ r is_rest. next_turn m before state depth runs (after ++ option_to_list r) p (first_place new) end now k e
          (next_of m depth now after new r (below end k.tree ++ k.due) w is_rest) so_far;
    }

-- what is left of a walk falls at each turn
pub work_falls : (old rest next end full own : ℕ) → rest + 1 ≡ old → next ≤ rest + own → end + own ≤ full → next + (full - (end + own)) < old + (full - end)
work_falls old rest next end full own e f g = omega (arith, e, f, g)
