-- The steps on the way down to a word, and the words that come after it.
use Rattle.cap_spec.proofs.ProofNames.{List, [], ap, append-nil, append_assoc, arith, get_or, length, length-append, refl, subst, suc}
use Rattle.cap_spec.proofs.ProofNames.{sym, zero, ℕ, ◌++◌, ◌+◌, ◌-◌, ◌<◌, ◌∙◌, ◌∷◌, ◌≡◌, ◌≤◌, Spot, segment_of, word}
use Rattle.std.proofs.Math.Nat.{mul-le-mul_right}
use Rattle.std.proofs.Common.{◌*◌}
use Rattle.cap_walk.specs.Trails.{Ahead}
use Rattle.cap_trace.specs.Branches.{AreSteps, IsCounted, StepsFrom, element_row, form_spot, last_spot, spot_of_last, words_in}
use Rattle.cap_trace.specs.TraceNames.{Step, AreBranches, IsBranch, IsRow, path_of, place_of, rest_from, rest_of, skipped, step_of}
use Rattle.cap_trace.specs.TraceNames.{Branch, Form, Pointers, Struct, Structs, word_ahead}

-- the path over one more step
pub path_with : (fs : List Branch) (f : Branch) → path_of (fs ++ f ∷ []) ≡ path_of fs ++ step_of f ∷ []
path_with [] f = refl
path_with (g ∷ fs) f = ap (λ (u : List Step). step_of g ∷ u) (path_with fs f)

-- The words after the first branches come before theirs.
pub rest_append : (base : List Step) (level : ℕ) (fs gs : List Branch)
    → rest_from base level (fs ++ gs) ≡ rest_from (base ++ path_of fs) (length fs + level) gs ++ rest_from base level fs
rest_append base level [] gs =
    let none : 0 + level ≡ level = omega arith in
    rw (append-nil base, none) (sym (append-nil (rest_from base level gs)))
rest_append base level (f ∷ fs) gs =
    let more : suc (length fs) + level ≡ length fs + (level + 1) = omega arith in
    let path : (base ++ step_of f ∷ []) ++ path_of fs ≡ base ++ step_of f ∷ path_of fs =
    append_assoc base (step_of f ∷ []) (path_of fs) in
    ap (λ (u : List Ahead). u ++ rest_of base level f) (rest_append (base ++ step_of f ∷ []) (level + 1) fs gs)
    ∙ append_assoc (rest_from ((base ++ step_of f ∷ []) ++ path_of fs) (length fs + (level + 1)) gs)
    (rest_from (base ++ step_of f ∷ []) (level + 1) fs) (rest_of base level f)
    ∙ rw (more, path) refl

-- the branches of a stack in two parts
pub branches_split : (m : List (List ℕ)) (depth level : ℕ) (fs gs : List Branch) → AreBranches m depth level (fs ++ gs)
    → AreBranches m depth level fs × AreBranches m depth (length fs + level) gs
branches_split m depth level [] gs h = (tt, subst (λ (u : ℕ). AreBranches m depth u gs) (omega arith) h)
branches_split m depth level (f ∷ fs) gs h =
    let r = branches_split m depth (level + 1) fs gs h.1 in
    ((h.0, r.0), subst (λ (u : ℕ). AreBranches m depth u gs) (omega arith) r.1)

pub branches_join : (m : List (List ℕ)) (depth level : ℕ) (fs gs : List Branch) → AreBranches m depth level fs
    → AreBranches m depth (length fs + level) gs → AreBranches m depth level (fs ++ gs)
branches_join m depth level [] gs h k = subst (λ (u : ℕ). AreBranches m depth u gs) (omega arith) k
branches_join m depth level (f ∷ fs) gs h k =
    (h.0, branches_join m depth (level + 1) fs gs h.1 (subst (λ (u : ℕ). AreBranches m depth u gs) (omega arith) k))

-- each of them is one
pub branch_at : (m : List (List ℕ)) (depth level : ℕ) (fs : List Branch) (i : ℕ) (d : Branch) → AreBranches m depth level fs
    → i < length fs → IsBranch m depth (i + level) (get_or fs i d)
branch_at m depth level [] i d h less = absurd (omega (arith, less))
branch_at m depth level (f ∷ fs) zero d h less = subst (λ (u : ℕ). IsBranch m depth u f) (omega arith) h.0
branch_at m depth level (f ∷ fs) (suc i) d h less =
    subst (λ (u : ℕ). IsBranch m depth u (get_or fs i d)) (omega arith)
    (branch_at m depth (level + 1) fs i d h.1 (omega (arith, less)))

-- So are their steps.
pub steps_split : (m : List (List ℕ)) (a : Spot) (fs gs : List Branch) → AreSteps m a (fs ++ gs)
    → AreSteps m a fs × AreSteps m (last_spot a fs) gs
steps_split m a [] gs h = (tt, h)
steps_split m a (f ∷ fs) gs h = let r = steps_split m (spot_of_last f) fs gs h.1 in ((h.0, r.0), r.1)

pub steps_join : (m : List (List ℕ)) (a : Spot) (fs gs : List Branch) → AreSteps m a fs → AreSteps m (last_spot a fs) gs
    → AreSteps m a (fs ++ gs)
steps_join m a [] gs h k = k
steps_join m a (f ∷ fs) gs h k = (h.0, steps_join m (spot_of_last f) fs gs h.1 k)

pub last_more : (a : Spot) (fs gs : List Branch) → last_spot a (fs ++ gs) ≡ last_spot (last_spot a fs) gs
last_more a [] gs = refl
last_more a (f ∷ fs) gs = last_more (spot_of_last f) fs gs

-- There are at most as many as levels.
few_from : (m : List (List ℕ)) (depth level : ℕ) (fs : List Branch) → AreBranches m depth level fs → level ≤ depth + 1
    → length fs + level ≤ depth + 1
few_from m depth level [] h low = omega (arith, low)
few_from m depth level (f ∷ fs) h low = omega (arith, few_from m depth (level + 1) fs h.1 (omega (arith, h.0.shallow)))

pub few_branches : (m : List (List ℕ)) (depth : ℕ) (fs : List Branch) → AreBranches m depth 1 fs → length fs ≤ depth
few_branches m depth fs h = omega (arith, few_from m depth 1 fs h (omega arith))

-- a branch of these numbers
abbrev pub branch : Form → ℕ → ℕ → ℕ → ℕ → ℕ → ℕ → Branch
branch form s b n t d p =
    record { form = form; segment = s; start = b; count = n; taken = t; data_words = d; pointers = p }

-- The words of a row are the next one and then the others.
row_words : (form : Form) (s b n t d p : ℕ) → IsRow form → t < n → (base : List Step) (level : ℕ)
    → rest_of base level (branch form s b n t d p)
    ≡ record {
      path = base ++ step_of (branch form s b n (t + 1) d p) ∷ [];
      segment = s;
      word = b + t;
      level = level + 1;
    } ∷ rest_of base level (branch form s b n (t + 1) d p)
row_words Struct s b n t d p row some base level =
    let more : n - t ≡ suc (n - (t + 1)) = omega (arith, some) in
    let here : t + 1 - 1 ≡ t = omega arith in
    let next : b + (t + 1) ≡ b + t + 1 = omega arith in rw (more, here, next) refl
row_words Pointers s b n t d p row some base level =
    let more : n - t ≡ suc (n - (t + 1)) = omega (arith, some) in
    let here : t + 1 - 1 ≡ t = omega arith in
    let next : b + (t + 1) ≡ b + t + 1 = omega arith in rw (more, here, next) refl
row_words Structs s b n t d p row some base level = absurd row

-- So it is of those of the last branch.
pub word_taken : (fs : List Branch) (f : Branch) → IsRow f.form → f.taken < f.count
    → rest_from [] 1 (fs ++ f ∷ [])
    ≡ word_ahead (fs ++ skipped f 1 ∷ []) (place_of (skipped f 1)) ∷ rest_from [] 1 (fs ++ skipped f 1 ∷ [])
word_taken fs f row some =
    let at : f.start + (f.taken + 1 - 1) ≡ f.start + f.taken = omega arith in
    let long : length (fs ++ skipped f 1 ∷ []) ≡ length fs + 1 = length-append fs (skipped f 1 ∷ []) in
    rest_append [] 1 fs (f ∷ [])
    ∙ ap (λ (u : List Ahead). u ++ rest_from [] 1 fs)
    (row_words f.form f.segment f.start f.count f.taken f.data_words f.pointers row some (path_of fs) (length fs + 1))
    ∙ rw (at, rest_append [] 1 fs (skipped f 1 ∷ []), path_with fs (skipped f 1), long) refl

-- The words of elements are those of the next one and then of the others.
element_words : (s b n t d p : ℕ) → t < n → (base : List Step) (level : ℕ)
    → rest_of base level (branch Structs s b n t d p)
    ≡ rest_from base level (branch Structs s b n (t + 1) d p ∷ element_row (branch Structs s b n t d p) ∷ [])
element_words s b n t d p some base level =
    let more : n - t ≡ suc (n - (t + 1)) = omega (arith, some) in
    let here : t + 1 - 1 ≡ t = omega arith in
    let next : b + (t + 1) * (d + p) ≡ b + t * (d + p) + d + p = omega arith in
    let start : b + t * (d + p) + d + 0 ≡ b + t * (d + p) + d = omega arith in
    let all : p - 0 ≡ p = omega arith in rw (more, here, next, start, all) refl

pub element_taken : (fs : List Branch) (f : Branch) → f.form ≡ Structs → f.taken < f.count
    → rest_from [] 1 (fs ++ f ∷ []) ≡ rest_from [] 1 ((fs ++ skipped f 1 ∷ []) ++ element_row f ∷ [])
element_taken fs f is some =
    rest_append [] 1 fs (f ∷ [])
    ∙ ap (λ (u : List Ahead). u ++ rest_from [] 1 fs) (rw is
    (element_words f.segment f.start f.count f.taken f.data_words f.pointers some (path_of fs) (length fs + 1)))
    ∙ sym (rest_append [] 1 fs (skipped f 1 ∷ element_row f ∷ []))
    ∙ ap (λ (u : List Branch). rest_from [] 1 u) (sym (append_assoc fs (skipped f 1 ∷ []) (element_row f ∷ [])))

-- No words are those of a branch with nothing left.
no_words : (form : Form) (s b n t d p : ℕ) → n ≤ t → (base : List Step) (level : ℕ)
    → ◌≡◌ {A = List Ahead} (rest_of base level (branch form s b n t d p)) []
no_words Struct s b n t d p none base level = let e : n - t ≡ 0 = omega (arith, none) in rw e refl
no_words Pointers s b n t d p none base level = let e : n - t ≡ 0 = omega (arith, none) in rw e refl
no_words Structs s b n t d p none base level = let e : n - t ≡ 0 = omega (arith, none) in rw e refl

pub nothing_left : (fs : List Branch) (f : Branch) → f.count ≤ f.taken → rest_from [] 1 (fs ++ f ∷ []) ≡ rest_from [] 1 fs
nothing_left fs f none =
    rest_append [] 1 fs (f ∷ [])
    ∙ ap (λ (u : List Ahead). u ++ rest_from [] 1 fs)
    (no_words f.form f.segment f.start f.count f.taken f.data_words f.pointers none (path_of fs) (length fs + 1))

-- It stays one after more are taken.
counted_after : (form : Form) (f : Branch) → f.taken < f.count → IsCounted form f → IsCounted form (skipped f 1)
counted_after Struct f some h = (omega (arith, some), h.1)
counted_after Pointers f some h = omega (arith, some)
counted_after Structs f some h = (omega (arith, some), h.1, h.2)

words_in_after : (form : Form) (f : Branch) → words_in form (skipped f 1) ≡ words_in form f
words_in_after Struct f = refl
words_in_after Pointers f = refl
words_in_after Structs f = refl

pub branch_after : (m : List (List ℕ)) (depth level : ℕ) (f : Branch) → f.taken < f.count → IsBranch m depth level f
    → IsBranch m depth level (skipped f 1)
branch_after m depth level f some h = record {
  exists = h.exists;
  inside = rw (words_in_after f.form f) h.inside;
  counted = counted_after f.form f some h.counted;
  shallow = h.shallow;
}

-- The words of a row lie inside their segment.
pub row_fits : (m : List (List ℕ)) (depth level : ℕ) (f : Branch) → IsRow f.form → IsBranch m depth level f
    → f.start + f.count ≤ length (segment_of m f.segment)
row_fits m depth level f row h = by_form f.form row h.inside
  where
    by_form : (form : Form) → IsRow form → f.start + words_in form f ≤ length (segment_of m f.segment)
        → f.start + f.count ≤ length (segment_of m f.segment)
    by_form Struct row h = h
    by_form Pointers row h = h
    by_form Structs row h = absurd row

-- A form other than a list of structs is a row.
pub is_row : (form : Form) → (form ≡ Structs → ⊥) → IsRow form
is_row Struct other = tt
is_row Pointers other = tt
is_row Structs other = absurd (other refl)

-- So do those of the next element, and its pointers are a branch.
one_of_many : (t n x : ℕ) → t < n → t * x + x ≤ n * x
one_of_many t n x less = let k : (t + 1) * x ≤ n * x = mul-le-mul_right x (omega (arith, less)) in omega (arith, k)

pub element_branch : (m : List (List ℕ)) (depth level : ℕ) (f : Branch) → f.form ≡ Structs → f.taken < f.count
    → IsBranch m depth level f
    → IsBranch m depth (level + 1) (element_row f) × (0 < f.pointers)
element_branch m depth level f is some h =
    let inside : f.start + f.count * (f.data_words + f.pointers) ≤ length (segment_of m f.segment) = rw is at h.inside in
    let counted : IsCounted Structs f = rw is at h.counted in
    let deep : level + 1 ≤ depth = rw is at h.shallow in (
      record {
        exists = h.exists;
        inside = omega (arith, inside, one_of_many f.taken f.count (f.data_words + f.pointers) some);
        counted = (omega arith, counted.2);
        shallow = omega (arith, deep);
      },
      counted.1,
    )

-- Where a row of pointers is taken from, is a word.
pub row_spot : (form : Form) (f : Branch) → IsRow form → form_spot form f (f.taken - 1) ≡ word (place_of f).segment (place_of f).at
row_spot Struct f row = refl
row_spot Pointers f row = refl
row_spot Structs f row = absurd row

-- Where they are doesn't depend on how many were taken.
same_spots : (form : Form) (f : Branch) (i : ℕ) → form_spot form (skipped f 1) i ≡ form_spot form f i
same_spots Struct f i = refl
same_spots Pointers f i = refl
same_spots Structs f i = refl

pub skipped_steps : (m : List (List ℕ)) (a : Spot) (f : Branch) → StepsFrom m a f → StepsFrom m a (skipped f 1)
skipped_steps m a f h = (h.0, λ i less. rw (same_spots f.form f i) (h.1 i less))

-- A step leads from an element to each of its pointers.
pub element_steps : (m : List (List ℕ)) (f : Branch) → f.form ≡ Structs → 0 < f.pointers
    → StepsFrom m (spot_of_last (skipped f 1)) (element_row f)
element_steps m f is some =
    let here : f.taken + 1 - 1 ≡ f.taken = omega arith in rw (is, here) (some, λ i less. (less, refl))
