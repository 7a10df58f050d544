-- Null words in a row, which a walk goes past.
use Rattle.cap_spec.proofs.ProofNames.{List, Some, [], ap, append-nil, arith, length, length-append, refl, subst, suc, sym}
use Rattle.cap_spec.proofs.ProofNames.{zero, ℕ, ◌++◌, ◌+◌, ◌-◌, ◌<◌, ◌∷◌, ◌≡◌, ◌≤◌, length-map, reverse-append, near}
use Rattle.cap_spec.proofs.ProofNames.{HasWord, rules}
use Rattle.cap_walk.specs.WalkNames.{Step, IsLooked, IsRest, RunIn, row_places, Ahead, added, HasWalked}
use Rattle.cap_walk.specs.Passing.{PassesNulls}
use Rattle.cap_walk.specs.WalkNames.{work_left, Report, PointerRun}
use Rattle.cap_walk.specs.declared.looking.Looked.TheVariants.{Null}
use Rattle.cap_walk.proofs.Runs.{rest_of_row}
use Rattle.cap_walk.proofs.Stacks.{next_seen, walks_on, work_smaller}

-- after the first n of several words in a row
abbrev pub onward : PointerRun → ℕ → PointerRun
onward f n = record { segment = f.segment; at = f.at + n; left = f.left - n; more = f.more; data_words = f.data_words; pointers = f.pointers; level = f.level }

-- with n pointer words more
abbrev pub counted : Report → ℕ → Report
counted r n = record { charge = r.charge; depth = r.depth; pointers = r.pointers + n; caps = r.caps; first_cap = r.first_cap }

pub onward_more : (f : PointerRun) (n : ℕ) → onward (onward f n) 1 ≡ onward f (n + 1)
onward_more f n =
    let at : f.at + n + 1 ≡ f.at + (n + 1) = omega arith in
    let left : f.left - n - 1 ≡ f.left - (n + 1) = omega arith in rw (at, left) refl

pub counted_more : (r : Report) (n : ℕ) → counted (counted r n) 1 ≡ counted r (n + 1)
counted_more r n = let pointers : r.pointers + n + 1 ≡ r.pointers + (n + 1) = omega arith in rw pointers refl

-- no word is passed at first
pub passes_none : (m : List (List ℕ)) (words depth : ℕ) (runs : List PointerRun) (seen : List (List Step)) (f : PointerRun) (r : Report) (ahead : List Ahead)
    → HasWalked m words depth (runs ++ f ∷ []) r seen ahead → PassesNulls m words depth runs seen f r f r
passes_none m words depth runs seen f r ahead w = record { nulls = []; later = ahead; are_null = tt; walks = w; less = omega arith }

-- one null word is one turn
pub passes_on : (m : List (List ℕ)) (words depth : ℕ) (runs : List PointerRun) (seen : List (List Step)) (old f : PointerRun) (before r : Report) → 1 < f.left
    → HasWord m f.segment f.at 0
    → PassesNulls m words depth runs seen old before f r → PassesNulls m words depth runs seen old before (onward f 1) (counted r 1)
passes_on m words depth runs seen old f before r left null passed =
    let rest : IsRest f (Some (onward f 1)) = rest_of_row f.segment f.at f.more f.data_words f.pointers f.level left in
    let (next, same_seen) = next_seen runs passed.walks rest in
    let looked : IsLooked m words depth r.charge f.segment f.at f.level (Null 0) = (near 0 null (omega arith) refl refl, omega (arith, next.progress.within)) in
    let (later, turned) = walks_on m words depth f.segment f.at f.level (runs ++ onward f 1 ∷ []) r (Null 0) next looked in
    let same : r.charge + 0 ≡ r.charge = omega arith in
    let e : added r f.segment f.at (Null 0) ≡ counted r 1 = rw same refl in
    let stack : (runs ++ onward f 1 ∷ []) ++ [] ≡ runs ++ onward f 1 ∷ [] = append-nil (runs ++ onward f 1 ∷ []) in
    let walks : HasWalked m words depth (runs ++ onward f 1 ∷ []) (counted r 1) (next.a.path ∷ next.seen) later =
    subst (λ u. HasWalked m words depth (runs ++ onward f 1 ∷ []) u (next.a.path ∷ next.seen) later) e
    (subst (λ u. HasWalked m words depth u (added r f.segment f.at (Null 0)) (next.a.path ∷ next.seen) later) stack turned) in
    let smaller : work_left words (runs ++ onward f 1 ∷ []) (counted r 1) < work_left words (runs ++ f ∷ []) r =
    work_smaller words runs (runs ++ onward f 1 ∷ []) f (Some (onward f 1)) r (counted r 1) rest (omega arith) in record {
      nulls = next.a.path ∷ passed.nulls;
      later = later;
      are_null = ((next.a.level, next.a.segment, next.a.word, next.progress.trail.ahead_reached.0, rw (next.segment, next.at) null), passed.are_null);
      walks = subst (λ u. HasWalked m words depth (runs ++ onward f 1 ∷ []) (counted r 1) (next.a.path ∷ u) later) same_seen walks;
      less = omega (arith, passed.less, smaller);
    }

-- nothing is passed yet
onward_none : (f : PointerRun) → onward f 0 ≡ f
onward_none f =
    let at : f.at + 0 ≡ f.at = omega arith in
    let left : f.left - 0 ≡ f.left = omega arith in rw (at, left) refl

counted_none : (r : Report) → counted r 0 ≡ r
counted_none r = let pointers : r.pointers + 0 ≡ r.pointers = omega arith in rw pointers refl

-- several null words in a row are one turn each
pub passes_each : (m : List (List ℕ)) (words depth : ℕ) (runs : List PointerRun) (seen : List (List Step)) (f : PointerRun) (r : Report) (ahead : List Ahead) (n : ℕ)
    → n < f.left → ((k : ℕ) → k < n → HasWord m f.segment (f.at + k) 0)
    → HasWalked m words depth (runs ++ f ∷ []) r seen ahead → PassesNulls m words depth runs seen f r (onward f n) (counted r n)
passes_each m words depth runs seen f r ahead zero lt null w =
    subst (λ g. PassesNulls m words depth runs seen f r g (counted r 0)) (sym (onward_none f))
    (subst (λ u. PassesNulls m words depth runs seen f r f u) (sym (counted_none r)) (passes_none m words depth runs seen f r ahead w))
passes_each m words depth runs seen f r ahead (suc n) lt null w =
    let e : n + 1 ≡ suc n = omega arith in
    let before = passes_each m words depth runs seen f r ahead n (omega (arith, lt)) (λ k less. null k (omega (arith, less))) w in
    let left : 1 < f.left - n = omega (arith, lt) in
    subst (λ i. PassesNulls m words depth runs seen f r (onward f i) (counted r i)) e
    (rw (← onward_more f n, ← counted_more r n) (passes_on m words depth runs seen f (onward f n) r (counted r n) left (null n (omega arith)) before))

-- the topmost run of a walk lies inside its segment
pub topmost_in : (m : List (List ℕ)) (words depth : ℕ) (runs : List PointerRun) (f : PointerRun) (r : Report) (seen : List (List Step)) (ahead : List Ahead)
    → HasWalked m words depth (runs ++ f ∷ []) r seen ahead → RunIn m f
topmost_in m words depth runs f r seen ahead w = search (rules, reverse-append)

row_length : (level t b n : ℕ) → length (row_places level t b n) ≡ n
row_length level t b zero = refl
row_length level t b (suc n) = ap suc (row_length level t (b + 1) n)

-- and the pointer words before its last are fewer than the words that were charged
pub topmost_few : (m : List (List ℕ)) (words depth : ℕ) (runs : List PointerRun) (f : PointerRun) (r : Report) (seen : List (List Step)) (ahead : List Ahead)
    → HasWalked m words depth (runs ++ f ∷ []) r seen ahead
    → r.pointers + f.left ≤ r.charge + 1
topmost_few m words depth runs f r seen ahead w = search (rules, reverse-append, length-append, length-map, row_length)
