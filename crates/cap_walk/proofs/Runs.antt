-- The pointer words of a run, word by word.
use Rattle.cap_spec.proofs.ProofNames.{List, None, Option, Some, ap, arith, map, refl, suc, zero, ℕ, rules, ◌+◌, ◌-◌}
use Rattle.cap_spec.proofs.ProofNames.{◌<◌, ◌∷◌, ◌≡◌, map-append}
use Rattle.cap_walk.specs.WalkNames.{Step, IsRest, element_places, pointer_word_of, row_places, element_rows, row}
use Rattle.cap_walk.specs.WalkNames.{PointerRun}

-- after the first of several words in a row
pub rest_of_row : (s b : ℕ) {n : ℕ} (more ds ps level : ℕ) → 1 < n → IsRest
    record { segment = s; at = b; left = n; more = more; data_words = ds; pointers = ps; level = level }
    (Some record { segment = s; at = b + 1; left = n - 1; more = more; data_words = ds; pointers = ps; level = level })
rest_of_row s b {n = zero} more ds ps level h = absurd (omega arith)
rest_of_row s b {n = suc n} more ds ps level h = search rules

-- after the last of them, the next element's
pub rest_of_elements : (s b : ℕ) {n more : ℕ} (ds ps level : ℕ) → n ≡ 1 → 0 < more
    → IsRest record { segment = s; at = b; left = n; more = more; data_words = ds; pointers = ps; level = level }
    (Some record {
      segment = s;
      at = b + 1 + ds;
      left = ps;
      more = more - 1;
      data_words = ds;
      pointers = ps;
      level =
          level;
    })
rest_of_elements s b {more = zero} ds ps level e h = absurd (omega arith)
rest_of_elements s b {n} {more = suc more} ds ps level e h = search rules

-- after the last of them all, nothing
pub rest_of_last : (s b : ℕ) {n more : ℕ} (ds ps level : ℕ) → n ≡ 1 → more ≡ 0
    → IsRest record { segment = s; at = b; left = n; more = more; data_words = ds; pointers = ps; level = level } None
rest_of_last s b ds ps level e h = record { words = rw (e, h) refl; inside = λ m i. tt; level = tt }

-- There is always such a rest.
has_rest_of : (s b n more ds ps level : ℕ) → 0 < n → (rest : Option PointerRun) × IsRest
    record { segment = s; at = b; left = n; more = more; data_words = ds; pointers = ps; level = level } rest
has_rest_of s b (suc zero) (suc more) ds ps level h = (_, rest_of_elements s b ds ps level refl (omega arith))
has_rest_of s b (suc (suc n)) more ds ps level h = (_, rest_of_row s b more ds ps level (omega arith))
has_rest_of s b n more ds ps level h = search rules

pub has_rest : (f : PointerRun) → 0 < f.left → (rest : Option PointerRun) × IsRest f rest
has_rest f some = has_rest_of f.segment f.at f.left f.more f.data_words f.pointers f.level some

-- where a row of words is
pub places-row : (base : List Step) (level : ℕ) (step : ℕ → Step) (t b i n : ℕ) → map pointer_word_of (row base level step t b i n) ≡ row_places level t b n
places-row base level step t b i zero = refl
places-row base level step t b i (suc n) = ap (λ u. (t, b, level) ∷ u) (places-row base level step t (b + 1) (i + 1) n)

-- where the rows of elements are
pub places-elements : (base : List Step) (level t b ds ps i n : ℕ)
    → map pointer_word_of (element_rows base level t b ds ps i n) ≡ element_places level t b ds ps n
places-elements base level t b ds ps i zero = refl
places-elements base level t b ds ps i (suc n) = search (rules, map-append, places-row, places-elements base level t (b + ds + ps) ds ps (i + 1) n)
