-- What is at the start of a buffer after the writes that encode a group.
use Rattle.std.proofs.lemmas.List.{places}
use Rattle.cap_spec.proofs.ProofNames.{List, [], ap, append_assoc, arith, length, length-append, length-set}
use Rattle.cap_spec.proofs.ProofNames.{length-take-le, refl, rules, set, take, take-take, take_at, ℕ, ◌++◌, ◌+◌, ◌<◌}
use Rattle.cap_spec.proofs.ProofNames.{◌∙◌, ◌∷◌, ◌≡◌, ◌≤◌, take-set_at, take-put_mid, put_mid}

-- after a write of the first element
pub take-first : (xs : List ℕ) (x : ℕ) → 0 < length xs → take 1 (set xs 0 x) ≡ x ∷ []
take-first [] x h = absurd (omega (arith, h))
take-first (y ∷ xs) x h = refl

-- after one write more after the front
pub take-pushed : (xs : List ℕ) (n m x : ℕ) → m ≡ n + 1 → n < length xs → take m (set xs n x) ≡ take n xs ++ x ∷ []
take-pushed xs n m x e h = take-set_at xs n m x e h

-- after writes of a word as it is and of those after it
pub take-plain : (text first head bytes more : List ℕ) (len k m count end : ℕ) → len + 10 ≤ length text → length head ≡ 8 → k ≡ 8 →
    end ≡ len + 10 + length bytes → head ≡ first → more ≡ bytes →
    take end (put_mid (len + 10) m (set (put_mid (len + 1) k (set text len 255) head) (len + 9) count) more) ≡ take len text ++ 255 ∷ (first ++ count ∷ bytes)
take-plain text first head bytes more len k m count end h l e n f b = search (rules, length-set, places, take-put_mid, take-pushed, append_assoc)

-- after writes of a tag and of the bytes that it marks, with some after them
pub take-marked : (text marked bytes zeros : List ℕ) (len k tag ones end : ℕ) → ones ≡ length marked → len < length text → bytes ≡ marked ++ zeros →
    end ≡ len + 1 + ones →
    take end (put_mid (len + 1) k (set text len tag) bytes) ≡ take len text ++ tag ∷ marked
take-marked text marked bytes zeros len k tag ones end o h b e =
    let tagged = set text len tag in
    let long : length tagged ≡ length text = length-set text len tag in
    let front = take len text ++ tag ∷ marked in
    let count = length-append (take len text) (tag ∷ marked) in
    let many : length front ≡ end = omega (arith, count, length-take-le len text (omega (arith, h)), o, e) in
    let all : length bytes ≡ length marked + length zeros = ap length b ∙ length-append marked zeros in
    let written : take (len + 1 + length bytes) (put_mid (len + 1) k tagged bytes) ≡ front ++ zeros =
    search (rules, take-put_mid, take-pushed, append_assoc) in
    search (rules, take-take end (len + 1 + length bytes) (put_mid (len + 1) k tagged bytes) (omega (arith, all, o, e)), take_at front zeros end many)
