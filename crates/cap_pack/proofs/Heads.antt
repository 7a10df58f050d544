-- The head of a group by its bytes alone, whatever comes after them.
use Rattle.std.proofs.Math.ListN.{get_or-append}
use lib.Count.{ones_step, ones}
use Rattle.cap_spec.proofs.Packed.Unpacking.{spread_append}
use Rattle.cap_spec.proofs.ProofNames.{Bool, List, [], ap, arith, cond, eq-eqb, eqb, eqb-true, false, get_or, length}
use Rattle.cap_spec.proofs.ProofNames.{length-take, length-take-le, ne_eqb, refl, subst, suc, sym, take, take-append-drop}
use Rattle.cap_spec.proofs.ProofNames.{true, zero, ℕ, ⊎_elim, ◌++◌, ◌/◌, ◌<◌, ◌^◌, ◌∙◌, ◌∷◌, ◌≡◌, ◌≢◌, ◌≤◌}
use Rattle.cap_spec.proofs.ProofNames.{pow-succ', cases_lt, cond-false, cond-true, little_number, marks, spread, rules}
use Rattle.cap_pack.specs.Course.{first_word, head_rest, plain_of, zeros_of}

-- two choices are the same where both their branches are
pub both_same : {A : Type 0} (b : Bool) {x y v w : A} → (b ≡ true → x ≡ v) → (b ≡ false → y ≡ w) → cond b x y ≡ cond b v w
both_same x h k = search rules

-- a tag has no bits for more bytes than these
pub spread_front : (n tag : ℕ) (bs ys : List ℕ) → n ≤ length bs → spread n tag (bs ++ ys) ≡ spread n tag bs
spread_front (suc n) tag (b ∷ bs) ys l = search (rules, both_same, spread_front n (tag / 2) (b ∷ bs) ys (omega arith), spread_front n (tag / 2) bs ys (omega arith))
spread_front n tag bs ys l = search rules

-- the first eight bytes are enough for a word
pub spread_eight : (tag : ℕ) (bytes : List ℕ) → 8 ≤ length bytes → spread 8 tag (take 8 bytes) ≡ spread 8 tag bytes
spread_eight tag bytes l = search (rules, length-take, take-append-drop, spread_front)

-- a tag that isn't zero marks a byte
pub marks_some : (n tag : ℕ) → 0 < tag → tag < 2 ^ n → 0 < marks n tag
marks_some zero tag p q = absurd (omega arith)
marks_some (suc n) tag p q = ⊎_elim
    (λ h. let half : tag / 2 < 2 ^ n = omega (arith, pow-succ' 2 n) in let rest : 0 < marks n (tag / 2) = marks_some n (tag / 2) h half in omega arith)
    (λ h. let low : tag ≡ 1 = omega arith in omega arith) (cases_lt 0 (tag / 2))

-- the number of the first eight bytes
pub little-append : (bs ys : List ℕ) → 8 ≤ length bs → little_number 8 (bs ++ ys) ≡ little_number 8 bs
little-append (a ∷ b ∷ c ∷ d ∷ e ∷ f ∷ g ∷ h ∷ bs) ys l = refl
little-append _ ys l = absurd (omega (arith, l))

first_same : (zero_run plain_run : Bool) (tag : ℕ) (bs ys : List ℕ) → length bs ≡ cond zero_run 1 (cond plain_run 9 (marks 8 tag)) →
    cond zero_run 0 (cond plain_run (little_number 8 (bs ++ ys)) (spread 8 tag (bs ++ ys)))
    ≡ cond zero_run 0 (cond plain_run (little_number 8 bs) (spread 8 tag bs))
first_same false false tag bs ys e = spread_append 8 tag bs ys e
first_same x q tag bs ys e = search (rules, little-append)

-- what a head says uses its own bytes
pub first_word-append : (tag : ℕ) (bs ys : List ℕ) → length bs ≡ head_rest tag → first_word tag (bs ++ ys) ≡ first_word tag bs
unfolding head_rest first_word
first_word-append tag bs ys e = first_same (eqb tag 0) (eqb tag 255) tag bs ys e

zeros_same : (zero_run plain_run : Bool) (tag : ℕ) (bs ys : List ℕ) → length bs ≡ cond zero_run 1 (cond plain_run 9 (marks 8 tag)) →
    cond zero_run (get_or (bs ++ ys) 0 0) 0 ≡ cond zero_run (get_or bs 0 0) 0
zeros_same true q tag bs ys e = get_or-append bs ys 0 0 (omega arith)
zeros_same false q tag bs ys e = refl

pub zeros_of-append : (tag : ℕ) (bs ys : List ℕ) → length bs ≡ head_rest tag → zeros_of tag (bs ++ ys) ≡ zeros_of tag bs
unfolding head_rest zeros_of
zeros_of-append tag bs ys e = zeros_same (eqb tag 0) (eqb tag 255) tag bs ys e

plain_same : (zero_run plain_run : Bool) (tag : ℕ) (bs ys : List ℕ) → (zero_run ≡ true → plain_run ≡ false) →
    length bs ≡ cond zero_run 1 (cond plain_run 9 (marks 8 tag)) →
    cond plain_run (get_or (bs ++ ys) 8 0) 0 ≡ cond plain_run (get_or bs 8 0) 0
plain_same false true tag bs ys o e = get_or-append bs ys 0 8 (omega arith)
plain_same q x tag bs ys o e = search rules

pub plain_of-append : (tag : ℕ) (bs ys : List ℕ) → length bs ≡ head_rest tag → plain_of tag (bs ++ ys) ≡ plain_of tag bs
unfolding head_rest plain_of
plain_of-append tag bs ys e = plain_same (eqb tag 0) (eqb tag 255) tag bs ys (λ t. let z = eqb-true tag 0 t in ap (λ x. eqb x 255) z) e

-- What uses the first bytes is the same of two lists that begin with the same.
pub by_front : (f : List ℕ → ℕ) (n : ℕ) (bs ys : List ℕ) → ((xs more : List ℕ) → length xs ≡ n → f (xs ++ more) ≡ f xs)
    → n ≤ length ys → take n bs ≡ take n ys → f bs ≡ f ys
by_front f n bs ys own fits same = search (rules, length-take-le n ys fits, take-append-drop n bs, take-append-drop n ys)

-- how many bytes the tags of runs name, and any other
pub head_rest-zeros : (tag : ℕ) → tag ≡ 0 → head_rest tag ≡ 1
unfolding head_rest
head_rest-zeros tag e = cond-true (eqb tag 0) _ _ (eq-eqb tag 0 e)

pub head_rest-plain : (tag : ℕ) → tag ≡ 255 → head_rest tag ≡ 9
unfolding head_rest
head_rest-plain tag e = ap head_rest e

pub head_rest-marked : (tag : ℕ) → tag ≢ 0 → tag ≢ 255 → head_rest tag ≡ marks 8 tag
unfolding head_rest
head_rest-marked tag z f = cond-false (eqb tag 0) _ _ (ne_eqb tag 0 z) ∙ cond-false (eqb tag 255) _ _ (ne_eqb tag 255 f)

-- the bits that a tag has set
marks-ones : (n tag : ℕ) → tag < 2 ^ n → marks n tag ≡ ones tag
unfolding ones
marks-ones zero tag p = let e : 0 ≡ tag = omega arith in ap ones e
marks-ones (suc n) tag p = search (rules, pow-succ' 2 n, ones_step tag, marks-ones n (tag / 2) (omega (arith, pow-succ' 2 n)))

pub head_rest-ones : (tag : ℕ) → tag < 256 → tag ≢ 0 → tag ≢ 255 → ones tag ≡ head_rest tag
head_rest-ones tag p z f = sym (head_rest-marked tag z f ∙ marks-ones 8 tag p)

pub ones_some : (tag : ℕ) → tag < 256 → tag ≢ 0 → 0 < ones tag
ones_some tag p z = let e = marks-ones 8 tag p in let s = marks_some 8 tag (omega arith) p in subst (λ n. 0 < n) e s

pub first_word-zeros : (tag : ℕ) (bs : List ℕ) → tag ≡ 0 → 0 ≡ first_word tag bs
unfolding first_word
first_word-zeros tag bs e = ap (λ n. first_word n bs) (sym e)

pub first_word-plain : (tag : ℕ) (bs : List ℕ) → tag ≡ 255 → little_number 8 bs ≡ first_word tag bs
unfolding first_word
first_word-plain tag bs e = ap (λ n. first_word n bs) (sym e)

pub first_word-marked : (tag : ℕ) (bs : List ℕ) → tag ≢ 0 → tag ≢ 255 → spread 8 tag bs ≡ first_word tag bs
unfolding first_word
first_word-marked tag bs z f = sym (cond-false (eqb tag 0) _ _ (ne_eqb tag 0 z) ∙ cond-false (eqb tag 255) _ _ (ne_eqb tag 255 f))

pub zeros_of-zeros : (tag : ℕ) (bs : List ℕ) → tag ≡ 0 → get_or bs 0 0 ≡ zeros_of tag bs
unfolding zeros_of
zeros_of-zeros tag bs e = ap (λ n. zeros_of n bs) (sym e)

pub zeros_of-others : (tag : ℕ) (bs : List ℕ) → tag ≢ 0 → 0 ≡ zeros_of tag bs
unfolding zeros_of
zeros_of-others tag bs z = sym (cond-false (eqb tag 0) _ _ (ne_eqb tag 0 z))

pub plain_of-plain : (tag : ℕ) (bs : List ℕ) → tag ≡ 255 → get_or bs 8 0 ≡ plain_of tag bs
unfolding plain_of
plain_of-plain tag bs e = ap (λ n. plain_of n bs) (sym e)

pub plain_of-others : (tag : ℕ) (bs : List ℕ) → tag ≢ 255 → 0 ≡ plain_of tag bs
unfolding plain_of
plain_of-others tag bs f = sym (cond-false (eqb tag 255) _ _ (ne_eqb tag 255 f))

-- the front of a buffer of nine bytes
pub front_of_nine : (n : ℕ) → n ≤ 9 → length {A = ℕ} (take n (0 ∷ 0 ∷ 0 ∷ 0 ∷ 0 ∷ 0 ∷ 0 ∷ 0 ∷ 0 ∷ [])) ≡ n
front_of_nine n p = let nine : List ℕ = 0 ∷ 0 ∷ 0 ∷ 0 ∷ 0 ∷ 0 ∷ 0 ∷ 0 ∷ 0 ∷ [] in omega (arith, length-take n nine)
