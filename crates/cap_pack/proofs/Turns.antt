-- What the unpacker's course makes of one read.
use Rattle.cap_spec.proofs.ProofNames.{Consumes, List, Option, [], ap, arith, drop, get_or, length, length-take-le, suc, sym}
use Rattle.cap_spec.proofs.ProofNames.{take, take-append-drop, ℕ, ◌++◌, ◌+◌, ◌<◌, ◌∙◌}
use Rattle.cap_spec.proofs.ProofNames.{◌∷◌, ◌≡◌, Consumes-trans, little_number, capped, rules}
use Rattle.cap_words.specs.Counting.{Took}
use Rattle.cap_pack.specs.Course.{course, first_word, gives, head_rest, plain_of, stops, zeros_of, zeros_then}
use Rattle.cap_pack.proofs.Heads.{first_word-append, plain_of-append, zeros_of-append}
use Rattle.cap_pack.proofs.Courses.{course_head, course_head_stops, course_plain, course_plain_stops}

-- eight bytes are the next word as it is
pub word_taken : {a b : Option (List ℕ)} {from to w : ℕ} {bs : List ℕ} → length bs ≡ 8 → w ≡ little_number 8 bs → Took a b from to bs →
    (n : ℕ) (ys : List ℕ) → course (suc n) from (bs ++ ys) ≡ gives w to (course n to ys)
word_taken {from = from} {to = to} {bs = bs} l e t = λ n ys. rw (e, t.place) (course_plain n from bs ys l)

-- fewer are none
pub word_cut : {a b : Option (List ℕ)} {from to : ℕ} {bs : List ℕ} → length bs < 8 → Took a b from to bs → (n : ℕ) → course (suc n) from bs ≡ stops to
word_cut {from = from} {to = to} {bs = bs} l t = λ n. rw (t.place) (course_plain_stops n from bs l)

-- one read after the other
took_trans : {a b c : Option (List ℕ)} {from mid to : ℕ} {bs cs : List ℕ} → Took a b from mid bs → Took b c mid to cs →
    capped (capped (from + length bs) + length cs) ≡ capped (from + length (bs ++ cs)) → Took a c from to (bs ++ cs)
took_trans {a = a} {b = b} {c = c} {bs = bs} {cs = cs} s t e = search (rules, Consumes-trans)

-- a tag and then the bytes after it
pub head_taken : {a b c : Option (List ℕ)} {from mid to n : ℕ} {bs : List ℕ} (buf : List ℕ) → length buf ≡ 1 → n ≡ 1 →
    Took a b from mid (take n buf) → Took b c mid to bs → Took a c from to (get_or buf 0 0 ∷ bs)
head_taken {a = a} {b = b} {from = from} {mid = mid} {bs = bs} (tag ∷ []) l e s t = search (rules, took_trans)
head_taken [] l e s t = absurd (omega (arith, l))
head_taken (tag ∷ more ∷ rest) l e s t = absurd (omega (arith, l))

-- a whole head is the first word of its group, and says what comes then
pub group_taken : {a b : Option (List ℕ)} {from to w z p tag : ℕ} {bs : List ℕ} → length bs ≡ head_rest tag → w ≡ first_word tag bs →
    z ≡ zeros_of tag bs → p ≡ plain_of tag bs → Took a b from to (tag ∷ bs) →
    (ys : List ℕ) → course 0 from ((tag ∷ bs) ++ ys) ≡ gives w to (zeros_then z to (course p to ys))
group_taken {from = from} {tag = tag} {bs = bs} l e f g t = λ ys. rw (e, f, g, t.place) (course_head from tag bs ys l)

-- less than a head is nothing
pub group_cut : {a b : Option (List ℕ)} {from to tag : ℕ} {bs : List ℕ} → length bs < head_rest tag → Took a b from to (tag ∷ bs) →
    course 0 from (tag ∷ bs) ≡ stops to
group_cut {from = from} {tag = tag} {bs = bs} l t = rw (t.place) (course_head_stops from tag bs l)

-- a whole head in front of buffered bytes
pub buffered_taken : {a b : Option (List ℕ)} {from to n w z p : ℕ} (held : List ℕ) → n ≡ head_rest (get_or held 0 0) → n < length held →
    w ≡ first_word (get_or held 0 0) (drop 1 held) → z ≡ zeros_of (get_or held 0 0) (drop 1 held) → p ≡ plain_of (get_or held 0 0) (drop 1 held) →
    Consumes a b (take (1 + n) held) → to ≡ capped (from + (1 + n)) →
    (bs : List ℕ) × Took a b from to bs × ((ys : List ℕ) → course 0 from (bs ++ ys) ≡ gives w to (zeros_then z to (course p to ys)))
buffered_taken [] size within e f g lost place = absurd (omega arith)
buffered_taken {a = a} {b = b} {from = from} {to = to} {n = n} (tag ∷ more) size within e f g lost place =
    let bs = take n more in
    let split : bs ++ drop n more ≡ more = take-append-drop n more in
    let long : length bs ≡ n = length-take-le n more (omega arith) in
    let many : length bs ≡ head_rest tag = long ∙ size in
    let head : take (1 + n) (tag ∷ more) ≡ tag ∷ bs = ap (λ k. take k (tag ∷ more)) {x = 1 + n} {y = suc n} (omega arith) in
    let took : Took a b from to (tag ∷ bs) = record { lost = rw head at lost; place = place ∙ ap (λ k. capped (from + k)) (omega (arith, long)) } in (
      tag ∷ bs,
      took,
      group_taken many (e ∙ (ap (first_word tag) (sym split) ∙ first_word-append tag bs _ many))
          (f ∙ (ap (zeros_of tag) (sym split) ∙ zeros_of-append tag bs _ many)) (g ∙ (ap (plain_of tag) (sym split) ∙ plain_of-append tag bs _ many)) took,
    )
