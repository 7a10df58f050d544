-- The words that the course of packed bytes gives, their positions and how it ends are those of the published functions.
use Rattle.std.proofs.Common.{one-add}
use Rattle.cap_spec.proofs.Packed.PackedEnds.{ends_nil}
use Rattle.cap_spec.proofs.Packed.Unpacking.{cut_nil, given_nil, spread_append}
use Rattle.cap_spec.proofs.ProofNames.{Bool, List, [], ap, arith, cond, drop, eqb, false, le-ltb, length, length-drop}
use Rattle.cap_spec.proofs.ProofNames.{length-take, lit<, lt-ltb, ltb, ne_eqb, refl, replicate, slice_index, suc, sym}
use Rattle.cap_spec.proofs.ProofNames.{take, take-append-drop, true, zero, ℕ, ⊎_elim, ◌*◌, ◌++◌, ◌+◌, ◌<◌, ◌∙◌, ◌∷◌, ◌≡◌}
use Rattle.cap_spec.proofs.ProofNames.{◌≢◌, ◌≤◌, cases_eq, cases_lt, cond-false, cond-true, little_number, ends_in}
use Rattle.cap_spec.proofs.ProofNames.{front_ends, packed_ends, word_ends, capped, plain_words, given_in, given_of}
use Rattle.cap_spec.proofs.ProofNames.{group_length, group_words, is_cut_in, marks, packed_is_cut, spread, unpacked}
use Rattle.cap_spec.proofs.ProofNames.{common_steps, rules}
use Rattle.cap_pack.specs.Course.{Course, course, course_is_cut, course_places, course_words, gives, stops, zeros_then}
use Rattle.cap_pack.specs.Course.{first_word, head_rest, plain_of, zeros_of}
use Rattle.cap_pack.proofs.Courses.{course_head, course_head_stops, course_none, course_plain, course_plain_stops}

-- a course gives these words, ends so, and is at these positions
pub record Reports (c : Course) (ws : List ℕ) (u : Bool) (ps : List ℕ) : Type 0 where
  pub words : course_words c ≡ ws
  pub cut : course_is_cut c ≡ u
  pub ends : course_places c ≡ ps

reports_along : {c d : Course} {ws vs : List ℕ} {u v : Bool} {ps qs : List ℕ} → c ≡ d → ws ≡ vs → u ≡ v → ps ≡ qs → Reports d vs v qs → Reports c ws u ps
reports_along e f g h t = grind (arith, common_steps)

reports_one : {c : Course} {ws : List ℕ} {u : Bool} {ps : List ℕ} (x at : ℕ) → Reports c ws u ps → Reports (gives x at c) (x ∷ ws) u (at ∷ ps)
reports_one x at t = record { words = ap (λ l. x ∷ l) t.words; cut = t.cut; ends = ap (λ l. at ∷ l) t.ends }

reports_zeros : {c : Course} {ws : List ℕ} {u : Bool} {ps : List ℕ} (n at : ℕ) → Reports c ws u ps →
    Reports (zeros_then n at c) (replicate n 0 ++ ws) u (replicate n at ++ ps)
reports_zeros zero at t = t
reports_zeros (suc n) at t = reports_one 0 at (reports_zeros n at t)

reports_true : {c : Course} {x : List ℕ} {u : Bool} {p : List ℕ} (y : List ℕ) (v : Bool) (q : List ℕ) {b : Bool} → b ≡ true → Reports c x u p →
    Reports c (cond b x y) (cond b u v) (cond b p q)
reports_true {x = x} {u = u} {p = p} y v q {b} e t = search (rules, cond-true)

reports_false : {c : Course} {y : List ℕ} {v : Bool} {q : List ℕ} (x : List ℕ) (u : Bool) (p : List ℕ) {b : Bool} → b ≡ false → Reports c y v q →
    Reports c (cond b x y) (cond b u v) (cond b p q)
reports_false {y = y} {v = v} {q = q} x u p {b} e t = search (rules, cond-false)

-- a position that has stopped stays where it is
capped_more : (at m : ℕ) → capped (capped at + m) ≡ capped (at + m)
capped_more at m = omega arith

-- the input ends inside a group
reports_stop : (at m : ℕ) → Reports (stops (capped (capped at + m))) [] true (capped (at + m) ∷ [])
reports_stop at m = record { words = refl; cut = refl; ends = ap (λ p. p ∷ []) (capped_more at m) }

-- a word as it is, after this many bytes
plain_after : (n at : ℕ) (bs ys : List ℕ) → length bs ≡ 8 →
    course (suc n) (capped at) (bs ++ ys) ≡ gives (little_number 8 bs) (capped (at + length bs)) (course n (capped (at + length bs)) ys)
plain_after n at bs ys l = course_plain n (capped at) bs ys l ∙ ap (λ p. gives (little_number 8 bs) p (course n p ys)) (capped_more at (length bs))

-- a group after its head
head_after : (at tag : ℕ) (bs ys : List ℕ) → length bs ≡ head_rest tag →
    course 0 (capped at) (tag ∷ bs ++ ys) ≡ gives (first_word tag bs) (capped (at + length (tag ∷ bs)))
    (zeros_then (zeros_of tag bs) (capped (at + length (tag ∷ bs))) (course (plain_of tag bs) (capped (at + length (tag ∷ bs))) ys))
head_after at tag bs ys l = search (rules, course_head, capped_more)

-- what this many words as they are give, and then groups
following : ℕ → ℕ → List ℕ → List ℕ
following k zero bytes = given_in k bytes
following k (suc n) (a ∷ b ∷ c ∷ d ∷ e ∷ f ∷ g ∷ h ∷ rest) = little_number 8 (a ∷ b ∷ c ∷ d ∷ e ∷ f ∷ g ∷ h ∷ []) ∷ following k n rest
following k (suc n) bytes = []

after_is_cut : ℕ → ℕ → List ℕ → Bool
after_is_cut k zero bytes = is_cut_in k bytes
after_is_cut k (suc n) (a ∷ b ∷ c ∷ d ∷ e ∷ f ∷ g ∷ h ∷ rest) = after_is_cut k n rest
after_is_cut k (suc n) bytes = true

after_ends : ℕ → ℕ → ℕ → List ℕ → List ℕ
after_ends k zero at bytes = ends_in k at bytes
after_ends k (suc n) at (a ∷ b ∷ c ∷ d ∷ e ∷ f ∷ g ∷ h ∷ rest) = capped (at + 8) ∷ after_ends k n (at + 8) rest
after_ends k (suc n) at bytes = capped (at + length bytes) ∷ []

eight_more : (n : ℕ) → 8 * suc n ≡ suc (suc (suc (suc (suc (suc (suc (suc (8 * n))))))))
eight_more n = omega arith

-- the bytes end inside those words
after_short : (k n at : ℕ) (bytes : List ℕ) → length bytes < 8 * n →
    (following k n bytes ≡ plain_words bytes) × (after_is_cut k n bytes ≡ true)
    × (after_ends k n at bytes ≡ take (length (plain_words bytes)) (word_ends at n) ++ capped (at + length bytes) ∷ [])
unfolding following after_is_cut after_ends
after_short k (suc n) at (a ∷ b ∷ c ∷ d ∷ e ∷ f ∷ g ∷ h ∷ rest) p = search (rules, after_short k n (at + 8) rest (omega arith))
after_short k n at bytes p = search rules

-- they are all there
after_long : (k n at : ℕ) (bytes : List ℕ) → 8 * n ≤ length bytes →
    (following k n bytes ≡ plain_words (take (8 * n) bytes) ++ given_in k (drop (8 * n) bytes)) × (after_is_cut k n bytes ≡ is_cut_in k (drop (8 * n) bytes))
    × (after_ends k n at bytes ≡ word_ends at n ++ ends_in k (at + 8 * n) (drop (8 * n) bytes))
unfolding following after_is_cut after_ends
after_long k (suc n) at (a ∷ b ∷ c ∷ d ∷ e ∷ f ∷ g ∷ h ∷ rest) p = search (rules, eight_more n, after_long k n (at + 8) rest (omega arith))
after_long k n at bytes p = search rules

-- What is shown of all short bytes holds after words as they are, too.
Reported : ℕ → Type 0
Reported k = (at : ℕ) (bytes : List ℕ) → length bytes ≤ k → Reports (course 0 (capped at) bytes) (given_in k bytes) (is_cut_in k bytes) (ends_in k at bytes)

plain_reported : (k : ℕ) → Reported k → (n at : ℕ) (bytes : List ℕ) → length bytes ≤ k →
    Reports (course n (capped at) bytes) (following k n bytes) (after_is_cut k n bytes) (after_ends k n at bytes)
unfolding following after_is_cut after_ends Reported
plain_reported k t (suc n) at (a ∷ b ∷ c ∷ d ∷ e ∷ f ∷ g ∷ h ∷ rest) p =
    reports_along (plain_after n at (a ∷ b ∷ c ∷ d ∷ e ∷ f ∷ g ∷ h ∷ []) rest refl) refl refl refl (reports_one _ _ (plain_reported k t n (at + 8) rest (omega arith)))
plain_reported k t n at bytes p = search (rules, reports_along, course_plain_stops, reports_stop)

-- the three kinds of groups
zeros_reported : (k : ℕ) → Reported k → (at : ℕ) (bytes : List ℕ) → length bytes ≤ k →
    Reports (course 0 (capped at) (0 ∷ bytes)) (given_in (suc k) (0 ∷ bytes)) (is_cut_in (suc k) (0 ∷ bytes)) (ends_in (suc k) at (0 ∷ bytes))
unfolding Reported head_rest first_word zeros_of plain_of
zeros_reported k t at [] p = reports_along (course_head_stops (capped at) 0 [] (lit< tt)) refl refl refl (reports_stop at 1)
zeros_reported k t at (n ∷ rest) p =
    let many : 1 + n ≡ suc n = omega arith in
    reports_false _ _ _ (le-ltb (suc (suc (length rest))) 2 (omega arith))
    (reports_along (head_after at 0 (n ∷ []) rest refl) (ap (λ m. replicate m 0 ++ given_in k rest) many) refl
    (ap (λ m. replicate m (capped (at + 2)) ++ ends_in k (at + 2) rest) many)
    (reports_one 0 (capped (at + 2)) (reports_zeros n (capped (at + 2)) (t (at + 2) rest (omega arith)))))

plain_run_reported : (k : ℕ) → Reported k → (at : ℕ) (bytes : List ℕ) → length bytes ≤ k →
    Reports (course 0 (capped at) (255 ∷ bytes)) (given_in (suc k) (255 ∷ bytes)) (is_cut_in (suc k) (255 ∷ bytes)) (ends_in (suc k) at (255 ∷ bytes))
unfolding Reported head_rest first_word zeros_of plain_of
plain_run_reported k t at (a ∷ b ∷ c ∷ d ∷ e ∷ f ∷ g ∷ h ∷ n ∷ rest) p =
    let bytes : List ℕ = a ∷ b ∷ c ∷ d ∷ e ∷ f ∷ g ∷ h ∷ n ∷ rest in
    let one : ℕ = little_number 8 (a ∷ b ∷ c ∷ d ∷ e ∷ f ∷ g ∷ h ∷ []) in
    let after : Reports (course n (capped (at + 10)) rest) (following k n rest) (after_is_cut k n rest) (after_ends k n (at + 10) rest) =
    plain_reported k t n (at + 10) rest (omega arith) in
    let step = head_after at 255 (a ∷ b ∷ c ∷ d ∷ e ∷ f ∷ g ∷ h ∷ n ∷ []) rest refl in
    let head : 10 + 8 * n ≡ suc (suc (suc (suc (suc (suc (suc (suc (suc (suc (8 * n)))))))))) = omega arith in
    ⊎_elim
    (λ q. let s = after_short k n (at + 10) rest q in
    let given : given_of (255 ∷ bytes) ≡ one ∷ plain_words rest = cond-false _ _ _ (le-ltb (length bytes) 9 (omega arith)) in
    let last : at + length (255 ∷ bytes) ≡ (at + 10) + length rest = omega arith in
    search rules)
    (λ q. search (rules, after_long, reports_false, le-ltb, reports_along, reports_one))
    (cases_lt (length rest) (8 * n))
plain_run_reported k t at bytes p = reports_along (course_head_stops (capped at) 255 bytes (omega arith)) refl refl refl (reports_stop at (length (255 ∷ bytes)))

reports_marked : {ws : List ℕ} {u : Bool} {ps : List ℕ} (w z o x at : ℕ) (bytes : List ℕ) → w ≡ x → z ≡ 0 → o ≡ 0 → Reports (course 0 at bytes) ws u ps →
    Reports (gives w at (zeros_then z at (course o at bytes))) (x ∷ ws) u (at ∷ ps)
reports_marked w z o x at bytes e f g t = reports_along (search rules) refl refl refl (reports_one x at t)

-- a head of this many further bytes that is a word by itself
marked_in : (k : ℕ) → Reported k → (at tag m x : ℕ) (bytes : List ℕ) → length bytes ≤ k → m ≡ head_rest tag →
    (m ≤ length bytes → first_word tag (take m bytes) ≡ x) → zeros_of tag (take m bytes) ≡ 0 → plain_of tag (take m bytes) ≡ 0 →
    Reports (course 0 (capped at) (tag ∷ bytes)) (cond (ltb (suc (length bytes)) (suc m)) [] (x ∷ given_in k (drop m bytes)))
    (cond (ltb (suc (length bytes)) (suc m)) true (is_cut_in k (drop m bytes)))
    (cond (ltb (suc (length bytes)) (suc m)) (capped (at + suc (length bytes)) ∷ []) (capped (at + suc m) ∷ ends_in k (at + suc m) (drop m bytes)))
unfolding Reported
marked_in k t at tag m x bytes p r e z o = ⊎_elim
    (λ q. reports_true _ _ _ (lt-ltb (suc (length bytes)) (suc m) (omega arith))
    (reports_along (course_head_stops (capped at) tag bytes (omega arith)) refl refl refl (reports_stop at (suc (length bytes)))))
    (λ q. let size : length (take m bytes) ≡ head_rest tag = omega (arith, length-take m bytes) in
    let whole : length (take m bytes) ≡ m = omega (arith, size, r) in
    let step = head_after at tag (take m bytes) (drop m bytes) size in
    let short : length (drop m bytes) ≤ k = omega (arith, length-drop m bytes) in
    let place : capped (at + suc (length (take m bytes))) ≡ capped (at + suc m) = ap (λ n. capped (at + suc n)) whole in
    reports_false _ _ _ (le-ltb (suc (length bytes)) (suc m) (omega arith))
    (reports_along (search (rules, take-append-drop)) refl refl refl
    (reports_marked _ _ _ x (capped (at + suc m)) (drop m bytes) (e q) z o (t (at + suc m) (drop m bytes) short))))
    (cases_lt (length bytes) m)

-- a tag spreads only the bytes that it marks
spread-take : (tag m : ℕ) (bytes : List ℕ) → m ≡ marks 8 tag → m ≤ length bytes → spread 8 tag (take m bytes) ≡ spread 8 tag bytes
spread-take tag m bytes e q =
    let size : length (take m bytes) ≡ m = omega (arith, length-take m bytes, q) in
    sym (spread_append 8 tag (take m bytes) (drop m bytes) (size ∙ e)) ∙ ap (spread 8 tag) (take-append-drop m bytes)

pick : {A : Type 0} (x y : Bool) (a b c : A) → x ≡ false → y ≡ false → cond x a (cond y b c) ≡ c
pick x y a b c p q = cond-false x _ _ p ∙ cond-false y _ _ q

marked_reported : (k : ℕ) → Reported k → (at tag : ℕ) (bytes : List ℕ) → tag ≢ 0 → tag ≢ 255 → length bytes ≤ k →
    Reports (course 0 (capped at) (tag ∷ bytes)) (given_in (suc k) (tag ∷ bytes)) (is_cut_in (suc k) (tag ∷ bytes)) (ends_in (suc k) at (tag ∷ bytes))
unfolding head_rest first_word zeros_of plain_of
marked_reported k t at tag bytes z o p =
    let m : ℕ = marks 8 tag in
    let not_zero : eqb tag 0 ≡ false = ne_eqb tag 0 z in
    let not_full : eqb tag 255 ≡ false = ne_eqb tag 255 o in
    let long : group_length (tag ∷ bytes) ≡ suc m = pick (eqb tag 0) (eqb tag 255) 2 (10 + 8 * slice_index bytes 8) (1 + m) not_zero not_full ∙ one-add m in
    let encoded : group_words (tag ∷ bytes) ≡ spread 8 tag bytes ∷ [] = pick (eqb tag 0) (eqb tag 255) _ _ _ not_zero not_full in
    let before : given_of (tag ∷ bytes) ≡ [] = cond-false (eqb tag 255) _ _ not_full in
    let placed : front_ends at (tag ∷ bytes) ≡ capped (at + suc m) ∷ [] = search rules in
    let whole : List ℕ → List ℕ = λ ws. cond (ltb (suc (length bytes)) (suc m)) [] (ws ++ given_in k (drop m bytes)) in
    reports_along refl
    ((search rules))
    (ap (λ n. cond (ltb (suc (length bytes)) n) true (is_cut_in k (drop n (tag ∷ bytes)))) long)
    ((search rules))
    (marked_in k t at tag m (spread 8 tag bytes) bytes p (sym (pick (eqb tag 0) (eqb tag 255) 1 9 m not_zero not_full))
    (λ q. pick (eqb tag 0) (eqb tag 255) _ _ _ not_zero not_full ∙ spread-take tag m bytes refl q)
    (cond-false (eqb tag 0) _ _ not_zero) (cond-false (eqb tag 255) _ _ not_full))

reported : (k : ℕ) → Reported k
unfolding Reported
reported zero at [] p = reports_along (course_none (capped at)) refl refl refl (record { words = refl; cut = refl; ends = refl })
reported (suc k) at (tag ∷ bytes) p = ⊎_elim
    (λ z. rw z (zeros_reported k (reported k) at bytes (omega arith)))
    (λ z. ⊎_elim (λ o. rw o (plain_run_reported k (reported k) at bytes (omega arith))) (λ o. marked_reported k (reported k) at tag bytes z o (omega arith)) (cases_eq tag 255))
    (cases_eq tag 0)
reported k at bytes p = search (rules, reports_along, course_none, given_nil, cut_nil, ends_nil)

pub course_reports : (at : ℕ) (bytes : List ℕ) → (course_words (course 0 (capped at) bytes) ≡ unpacked bytes)
    × (course_is_cut (course 0 (capped at) bytes) ≡ packed_is_cut bytes) × (course_places (course 0 (capped at) bytes) ≡ packed_ends at bytes)
unfolding Reported
course_reports at bytes = let t = reported (length bytes) at bytes (omega arith) in (t.words, t.cut, t.ends)
