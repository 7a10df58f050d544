-- Objects that need all their words, or less, where their pointers needn't be followed.
use Rattle.cap_spec.specs.Denoting.{places}
use Rattle.cap_spec.proofs.Frames.Messages.{one_word}
use Rattle.cap_spec.proofs.ProofNames.{List, ap, arith, false, length, max, refl, subst, suc, sym, true, zero, ℕ, ◌*◌}
use Rattle.cap_spec.proofs.ProofNames.{◌+◌, ◌-◌, ◌<◌, ◌≡◌, ◌≢◌, ◌≤◌, mul-le, children_needed, children_of, data_needed}
use Rattle.cap_spec.proofs.ProofNames.{is_null, AreElements, DenoteEach, Denotes, words_from, Leads, to_null, HasWord}
use Rattle.cap_spec.proofs.ProofNames.{segment_of, kind, Tree, Trees, more, struct, rules}
use Rattle.cap_canon.specs.NullsInOrder.{zero_null}
use Rattle.cap_canon.specs.Trimming.{most_data}
use Rattle.cap_canon.proofs.Children.{child_below, child_here, row_needed}
use Rattle.cap_canon.proofs.Elements.{children_within, element_parts}
use Rattle.cap_canon.proofs.Needed.{most_within, needed_below, needed_here, range_needed}

-- a word that isn't zero or far leads to something
no_null_lead : (m : List (List ℕ)) (s w x k : ℕ) → HasWord m s w x → x ≢ 0 → kind x ≢ 2 → Leads m s w k to_null → ⊥
no_null_lead m s w x k has some here h = search (rules, one_word)

pub isnt_null_word : (m : List (List ℕ)) (s w x : ℕ) (t : Tree) (c d : ℕ) → HasWord m s w x → x ≢ 0 → kind x ≢ 2
    → Denotes m s w t c d → is_null t ≡ false
isnt_null_word m s w x k c d has some here h = search (rules, no_null_lead)

-- a row whose last word isn't null
pub row_whole : (m : List (List ℕ)) (t b p : ℕ) (ts : Trees) (c d : ℕ) → 0 < p
    → ((u : Tree) (c' d' : ℕ) → Denotes m t (b + (p - 1)) u c' d' → is_null u ≡ false) → DenoteEach m (places t b p) ts c d
    → p ≡ max 0 (children_needed ts)
row_whole m t b p ts c d some last h =
    child_here m t b p p 0 false ts c d some (omega arith) h (λ u c' d' k. sym (last u c' d' k)) refl (row_needed m t b p ts c d h)

pub row_empty : (m : List (List ℕ)) (t b : ℕ) {p : ℕ} (ts : Trees) (c d : ℕ) → p ≡ 0 → DenoteEach m (places t b p) ts c d
    → p ≡ max 0 (children_needed ts)
row_empty m t b {p} ts c d e h = omega (arith, e, row_needed m t b p ts c d h)

-- elements without pointers
pub elements_empty : (m : List (List ℕ)) (t b ds : ℕ) {ps : ℕ} (n : ℕ) (es : Trees) (c d : ℕ) → ps ≡ 0 → AreElements m t b ds ps n es c d
    → ps ≡ children_of es
elements_empty m t b ds {ps} n es c d e h = omega (arith, e, children_within m t b ds ps n es c d h)

-- and those of which one has a last pointer that isn't null
pub elements_whole : (m : List (List ℕ)) (t b ds ps n i : ℕ) (es : Trees) (c d : ℕ) → 0 < ps → i < n
    → ((u : Tree) (c' d' : ℕ) → Denotes m t (b + i * (ds + ps) + ds + (ps - 1)) u c' d' → is_null u ≡ false)
    → AreElements m t b ds ps n es c d → ps ≡ children_of es
elements_whole m t b ds ps n zero (more (struct ws ts) es) c d some lt last h =
    let k = element_parts m t b ds ps n ws ts es c d h in
    let e : b + 0 * (ds + ps) + ds + (ps - 1) ≡ b + ds + (ps - 1) = omega arith in search (rules, row_whole, children_within)
elements_whole m t b ds ps n (suc i) (more (struct ws ts) es) c d some lt last h =
    let k = element_parts m t b ds ps n ws ts es c d h in
    let f : suc i * (ds + ps) ≡ ds + ps + i * (ds + ps) = omega arith in
    let e : b + suc i * (ds + ps) + ds + (ps - 1) ≡ b + ds + ps + i * (ds + ps) + ds + (ps - 1) = omega (arith, f) in
    let rest = elements_whole m t (b + ds + ps) ds ps k.others i es k.c2 k.d2 some (omega (arith, lt, k.many))
    (λ u c' d' g. last u c' d' (subst (λ x. Denotes m t x u c' d') (sym e) g)) k.rest in
    search (rules, row_needed)
elements_whole m t b ds ps n i es c d some lt last h = search rules

-- a last data word that isn't zero is needed,
pub data_last : (m : List (List ℕ)) (t b d x : ℕ) → 0 < d → b + d ≤ length (segment_of m t) → HasWord m t (b + (d - 1)) x → x ≢ 0
    → d ≡ data_needed (words_from m t b d)
data_last m t b d x some inside h nz = omega (arith, needed_here m t b d d 0 x some (omega arith) h nz (range_needed m t b d inside))

-- and a zero one isn't
pub data_short : (m : List (List ℕ)) (t b d x : ℕ) → 0 < d → b + d ≤ length (segment_of m t) → HasWord m t (b + (d - 1)) x → x ≡ 0
    → data_needed (words_from m t b d) ≤ d - 1
data_short m t b d x some inside h z = needed_below m t b d d 0 x some (omega arith) h z (range_needed m t b d inside)

-- nor is a last pointer word that is zero
zero_is_null : (m : List (List ℕ)) (t w : ℕ) (u : Tree) (c d : ℕ) → HasWord m t w 0 → Denotes m t w u c d → true ≡ is_null u
zero_is_null m t w u c d last h = sym (ap is_null (zero_null m t w u c d h last))

pub row_short : (m : List (List ℕ)) (t b p : ℕ) (ts : Trees) (c d : ℕ) → 0 < p → HasWord m t (b + (p - 1)) 0 → DenoteEach m (places t b p) ts c d
    → children_needed ts ≤ p - 1
row_short m t b p ts c d some last h =
    child_below m t b p p 0 true ts c d some (omega arith) h (λ u c' d' k. zero_is_null m t (b + (p - 1)) u c' d' last k) refl (row_needed m t b p ts c d h)

-- the data words of elements, one of whose last ones isn't zero
pub most_all : (m : List (List ℕ)) (t b ds ps n i x : ℕ) → 0 < ds → i < n → b + n * (ds + ps) ≤ length (segment_of m t)
    → HasWord m t (b + (ds - 1) + i * (ds + ps)) x → x ≢ 0 → ds ≡ most_data m t b ds ps n
most_all m t b ds ps zero i x some lt inside h nz = absurd (omega (arith, lt))
most_all m t b ds ps (suc n) zero x some lt inside h nz =
    let f : suc n * (ds + ps) ≡ ds + ps + n * (ds + ps) = omega arith in
    let e : b + (ds - 1) + 0 * (ds + ps) ≡ b + (ds - 1) = omega arith in search (rules, data_last, most_within)
most_all m t b ds ps (suc n) (suc i) x some lt inside h nz =
    let f : suc n * (ds + ps) ≡ ds + ps + n * (ds + ps) = omega arith in
    let g : suc i * (ds + ps) ≡ ds + ps + i * (ds + ps) = omega arith in
    let e : b + (ds - 1) + suc i * (ds + ps) ≡ b + (ds + ps) + (ds - 1) + i * (ds + ps) = omega (arith, g) in
    search (rules, range_needed, most_all m t (b + (ds + ps)) ds ps n i x some (omega (arith, lt)) (omega (arith, inside, f)) (subst (λ a. HasWord m t a x) e h) nz)

-- and those of elements whose last ones are all zero
pub most_short : (m : List (List ℕ)) (t b ds ps n : ℕ) → 0 < ds → b + n * (ds + ps) ≤ length (segment_of m t)
    → ((k : ℕ) → k < n → HasWord m t (b + (ds - 1) + k * (ds + ps)) 0) → most_data m t b ds ps n ≤ ds - 1
most_short m t b ds ps zero some inside zeros = omega arith
most_short m t b ds ps (suc n) some inside zeros =
    let f : suc n * (ds + ps) ≡ ds + ps + n * (ds + ps) = omega arith in
    let e : b + (ds - 1) + 0 * (ds + ps) ≡ b + (ds - 1) = omega arith in
    let own = data_short m t b ds 0 some (omega (arith, inside, f)) (subst (λ a. HasWord m t a 0) e (zeros 0 (omega arith))) refl in
    let rest = most_short m t (b + (ds + ps)) ds ps n some (omega (arith, inside, f)) (λ k lt.
    let g : suc k * (ds + ps) ≡ ds + ps + k * (ds + ps) = omega arith in
    let e' : b + (ds - 1) + suc k * (ds + ps) ≡ b + (ds + ps) + (ds - 1) + k * (ds + ps) = omega (arith, g) in
    subst (λ a. HasWord m t a 0) e' (zeros (suc k) (omega (arith, lt)))) in
    search rules

-- the pointers of elements whose last ones are all zero
pub elements_short : (m : List (List ℕ)) (t b ds ps n : ℕ) (es : Trees) (c d : ℕ) → 0 < ps
    → ((k : ℕ) → k < n → HasWord m t (b + (ds + (ps - 1)) + k * (ds + ps)) 0) → AreElements m t b ds ps n es c d → children_of es ≤ ps - 1
elements_short m t b ds ps n (more (struct ws ts) es) c d some zeros h =
    let k = element_parts m t b ds ps n ws ts es c d h in
    let e : b + (ds + (ps - 1)) + 0 * (ds + ps) ≡ b + ds + (ps - 1) = omega arith in
    let own = row_short m t (b + ds) ps ts k.c1 k.d1 some (subst (λ a. HasWord m t a 0) e (zeros 0 (omega (arith, k.many)))) k.children in
    let rest = elements_short m t (b + ds + ps) ds ps k.others es k.c2 k.d2 some (λ i lt.
    let g : suc i * (ds + ps) ≡ ds + ps + i * (ds + ps) = omega arith in
    let e' : b + (ds + (ps - 1)) + suc i * (ds + ps) ≡ b + ds + ps + (ds + (ps - 1)) + i * (ds + ps) = omega (arith, g) in
    subst (λ a. HasWord m t a 0) e' (zeros (suc i) (omega (arith, lt, k.many)))) k.rest in
    search rules
elements_short m t b ds ps n es c d some zeros h = search rules

-- a word of an element is inside the list
pub element_inside : (b o each k n l : ℕ) → k < n → o < each → b + n * each ≤ l → b + o + k * each < l
element_inside b o each k n l lt small inside = search (rules, mul-le)
