-- How the course of packed bytes goes on after the bytes in front.
use Rattle.std.proofs.Common.{ltb-false}
use Rattle.cap_spec.proofs.ProofNames.{Bool, List, [], ap, arith, cond, drop, false, le-ltb, length, length-append}
use Rattle.cap_spec.proofs.ProofNames.{length-drop, lit<, lt-ltb, refl, suc, true, zero, ℕ, ◌++◌, ◌+◌, ◌<◌, ◌∙◌, ◌∷◌}
use Rattle.cap_spec.proofs.ProofNames.{◌≡◌, ◌≤◌, drop-append_seam, cond-false, cond-true, little_number, capped}
use Rattle.cap_spec.proofs.ProofNames.{common_steps, rules}
use Rattle.cap_pack.specs.Course.{ends, first_word, gives, head_rest, plain_of, stops, zeros_of, zeros_then, course}
use Rattle.cap_pack.specs.Course.{course_in}
use Rattle.cap_pack.proofs.Heads.{first_word-append, plain_of-append, zeros_of-append}

-- two choices are the same where they are so in the branch that is taken
branches_same : {A : Type 0} {b : Bool} (x : A) {y z : A} → (b ≡ false → y ≡ z) → cond b x y ≡ cond b x z
branches_same {b = true} x h = refl
branches_same {b = false} x h = h refl

-- what is left after some of the bytes is shorter
left_shorter : (k f : ℕ) (bytes : List ℕ) → 0 < k → k ≤ length bytes → length bytes < suc f → length (drop k bytes) < f
left_shorter k f bytes a b p = omega (arith, length-drop k bytes)

-- any number of steps above the length of the bytes is enough
pub enough : (f g n at : ℕ) (bytes : List ℕ) → length bytes < f → length bytes < g → course_in f n at bytes ≡ course_in g n at bytes
unfolding course_in
enough (suc f) (suc g) zero at (tag ∷ bytes) p q =
    let l = length-drop (head_rest tag) bytes in
    search (rules, enough f g (plain_of tag bytes) (capped (at + (suc (head_rest tag)))) (drop (head_rest tag) bytes) (omega arith) (omega arith))
enough (suc f) (suc g) (suc n) at bytes p q = branches_same _ (λ t.
    ap (gives (little_number 8 bytes) (capped (at + 8)))
    (enough f g n (capped (at + 8)) (drop 8 bytes) (left_shorter 8 f bytes (lit< tt) (ltb-false (length bytes) 8 t) p)
    (left_shorter 8 g bytes (lit< tt) (ltb-false (length bytes) 8 t) q)))
enough f g n at bytes p q = search rules

-- a word as it is, and what comes after it
pub course_plain : (n at : ℕ) (bs ys : List ℕ) → length bs ≡ 8 →
    course (suc n) at (bs ++ ys) ≡ gives (little_number 8 bs) (capped (at + length bs)) (course n (capped (at + length bs)) ys)
unfolding course course_in
course_plain n at (a ∷ b ∷ c ∷ d ∷ e ∷ f ∷ g ∷ h ∷ []) ys l =
    cond-false _ _ _ (le-ltb (suc (suc (suc (suc (suc (suc (suc (suc (length ys))))))))) 8 (omega arith))
    ∙ ap (gives (little_number 8 (a ∷ b ∷ c ∷ d ∷ e ∷ f ∷ g ∷ h ∷ [])) (capped (at + 8)))
    (enough (suc (suc (suc (suc (suc (suc (suc (suc (length ys))))))))) (suc (length ys)) n (capped (at + 8)) ys (omega arith) (omega arith))
course_plain n at _ ys l = absurd (omega (arith, l))

-- the input ends inside one
pub course_plain_stops : (n at : ℕ) (bs : List ℕ) → length bs < 8 → course (suc n) at bs ≡ stops (capped (at + length bs))
unfolding course course_in
course_plain_stops n at bs l = cond-true _ _ _ (lt-ltb (length bs) 8 l)

-- a group after its head
pub course_head : (at tag : ℕ) (bs ys : List ℕ) → length bs ≡ head_rest tag →
    course 0 at (tag ∷ bs ++ ys) ≡ gives (first_word tag bs) (capped (at + length (tag ∷ bs)))
    (zeros_then (zeros_of tag bs) (capped (at + length (tag ∷ bs))) (course (plain_of tag bs) (capped (at + length (tag ∷ bs))) ys))
unfolding course course_in
course_head at tag bs ys l =
    grind (
      arith,
      common_steps,
      length-append,
      drop-append_seam,
      enough,
      cond-false,
      le-ltb,
      first_word-append,
      zeros_of-append,
      plain_of-append,
    )

-- the input ends inside a head
pub course_head_stops : (at tag : ℕ) (bs : List ℕ) → length bs < head_rest tag → course 0 at (tag ∷ bs) ≡ stops (capped (at + length (tag ∷ bs)))
unfolding course course_in
course_head_stops at tag bs l = cond-true _ _ _ (lt-ltb (length bs) (head_rest tag) l)

-- no group is left
pub course_none : (at : ℕ) → course 0 at [] ≡ ends at
unfolding course course_in
course_none at = refl
