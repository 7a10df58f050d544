-- The pointer words of a run, word by word.
use Rattle.cap_spec.proofs.ProofNames.{common_steps}
use Rattle.std.proofs.Common.{List, None, Option, Some, append-nil, append_assoc, arith, length, length-append}
use Rattle.std.proofs.Common.{option_to_list, refl, suc, zero, ℕ, ◌++◌, ◌+◌, ◌-◌, ◌<◌, ◌≡◌, rules}
use Rattle.cap_canon.specs.CopyRuns.{IsShort}
use Rattle.cap_canon.specs.CanonNames.{AreShort, IsFull, IsCopyRest, all_places, option_places, place, places_of, copy_root_run}
use Rattle.cap_canon.specs.CanonNames.{copy_row_places, CopyRun, PointerPlace}

-- after the first of several words in a row
pub rest_of_row : (s b a : ℕ) {n : ℕ} (more skip gap p : ℕ) → 1 < n → IsFull record {
  segment = s;
  at = b;
  slot = a;
  left = n;
  more = more;
  skip = skip;
  gap =
      gap;
  pointers = p;
}
    → IsCopyRest record { segment = s; at = b; slot = a; left = n; more = more; skip = skip; gap = gap; pointers = p }
    (Some record { segment = s; at = b + 1; slot = a + 1; left = n - 1; more = more; skip = skip; gap = gap; pointers = p })
rest_of_row s b a more skip gap p h full = search rules

-- after the last of them, the next element's
pub rest_of_elements : (s b a : ℕ) {n more : ℕ} (skip gap p : ℕ) → n ≡ 1 → 0 < more
    → IsFull record { segment = s; at = b; slot = a; left = n; more = more; skip = skip; gap = gap; pointers = p }
    → IsCopyRest record { segment = s; at = b; slot = a; left = n; more = more; skip = skip; gap = gap; pointers = p }
    (Some record { segment = s; at = b + 1 + skip; slot = a + 1 + gap; left = p; more = more - 1; skip = skip; gap = gap; pointers = p })
rest_of_elements s b a skip gap p e h full = search rules

-- after the last of all
pub rest_of_last : (s b a : ℕ) {n more : ℕ} (skip gap p : ℕ) → n ≡ 1 → more ≡ 0
    → IsCopyRest record { segment = s; at = b; slot = a; left = n; more = more; skip = skip; gap = gap; pointers = p } None
rest_of_last s b a skip gap p e f = record { words = rw (e, f) refl; full = tt }

-- what is left of a run after its first word
has_rest_of : (s b a n more skip gap p : ℕ)
    → IsFull record { segment = s; at = b; slot = a; left = n; more = more; skip = skip; gap = gap; pointers = p }
    → (rest : Option CopyRun) × IsCopyRest record { segment = s; at = b; slot = a; left = n; more = more; skip = skip; gap = gap; pointers = p } rest
has_rest_of s b a zero more skip gap p full = absurd (omega (arith, full.some))
has_rest_of s b a (suc zero) zero skip gap p full = (None, rest_of_last s b a skip gap p refl refl)
has_rest_of s b a (suc zero) (suc more) skip gap p full = (_, rest_of_elements s b a skip gap p refl (omega arith) full)
has_rest_of s b a (suc (suc n)) more skip gap p full = (_, rest_of_row s b a more skip gap p (omega arith) full)

pub has_rest : (f : CopyRun) → IsFull f → (rest : Option CopyRun) × IsCopyRest f rest
has_rest f full = has_rest_of f.segment f.at f.slot f.left f.more f.skip f.gap f.pointers full

-- nothing is left after the root word
pub root_rest : (rest : Option CopyRun) → IsCopyRest copy_root_run rest → rest ≡ None
root_rest None h = refl
root_rest (Some f) h =
    let r = has_rest f h.full in search rules

-- the second word of a row is one of 32 bits
pub second_short : (s b a n : ℕ) (others : List PointerPlace) → 1 < n → AreShort (copy_row_places s b a n ++ others) → IsShort (place s (b + 1) (a + 1))
second_short s b a (suc (suc n)) others h k = k.1.0
second_short s b a n others h k = search rules

-- and so is the first of the next element
first_short : (s b a p : ℕ) (others : List PointerPlace) → 0 < p → AreShort (copy_row_places s b a p ++ others) → IsShort (place s b a)
first_short s b a e others h k = search rules

pub next_short : (s b a n more skip gap p : ℕ) → n ≡ 1 → 0 < more → 0 < p
    → AreShort (places_of record { segment = s; at = b; slot = a; left = n; more = more; skip = skip; gap = gap; pointers = p })
    → IsShort (place s (b + 1 + skip) (a + 1 + gap))
next_short s b a n c skip gap p e h g k = search (rules, first_short)

-- the words of runs, one of which is the last
pub all_places-append : (xs ys : List CopyRun) → all_places (xs ++ ys) ≡ all_places xs ++ all_places ys
all_places-append x1 ys = grind (arith, common_steps, append_assoc)

-- with one more, where there is one
pub option_all_places : (r : Option CopyRun) → all_places (option_to_list r) ≡ option_places r
option_all_places h = search (rules, append-nil)

pub count_more : (runs : List CopyRun) (r : Option CopyRun)
    → length (all_places (runs ++ option_to_list r)) ≡ length (all_places runs) + length (option_places r)
count_more runs r = search (rules, all_places-append, length-append, option_all_places)
