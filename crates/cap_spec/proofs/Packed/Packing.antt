-- How the packed text that is written splits into its groups.
use Rattle.cap_spec.proofs.ProofNames.{Bool, List, [], ap, arith, cond, drop, false, filter, length, length-drop}
use Rattle.cap_spec.proofs.ProofNames.{length-take, ne_eqb, not, refl, replicate, suc, take, take_while, true, zero, ℕ}
use Rattle.cap_spec.proofs.ProofNames.{◌++◌, ◌+◌, ◌-◌, ◌<◌, ◌==◌, ◌∙◌, ◌∷◌, ◌≡◌, ◌≢◌, ◌≤◌, length-replicate, prefix_len}
use Rattle.cap_spec.proofs.ProofNames.{full_run, group_size, group_text, pack_in, pack_text, tag_of, zero_bytes}
use Rattle.cap_spec.proofs.ProofNames.{zero_run, plain_text, word_bytes, common_steps, rules}
use Rattle.std.proofs.lemmas.List.Sums.{take_while-cons}

-- with capacity for all the groups, more capacity makes no difference
pub pack_in-enough : (n m : ℕ) (ws : List ℕ) → length ws ≤ n → length ws ≤ m → pack_in n ws ≡ pack_in m ws
pack_in-enough zero (suc m) (w ∷ ws) p q = absurd (omega (arith, p))
pack_in-enough (suc n) zero (w ∷ ws) p q = absurd (omega (arith, q))
pack_in-enough (suc n) (suc m) (w ∷ ws) p q =
    let k = group_size (w ∷ ws) - 1 in
    search (
      rules,
      length-drop,
      pack_in-enough n m (drop k ws) (omega (arith, p, length-drop k ws)) (omega (arith, q, length-drop k ws)),
    )
pack_in-enough n m ws p q = refl

-- the text of the group in front, and then that of the other words
pub pack_text-front : (w : ℕ) (ws : List ℕ) →
    pack_text (w ∷ ws) ≡ group_text w (group_size (w ∷ ws) - 1) (take (group_size (w ∷ ws) - 1) ws) ++ pack_text
    (drop (group_size (w ∷ ws) - 1) ws)
pack_text-front w ws = search (rules, pack_in-enough, length-drop)

-- where the group in front takes just these words, its text and then that of the rest
pub pack_text-group : (w : ℕ) (more rest : List ℕ) → group_size (w ∷ (more ++ rest)) ≡ 1 + length more →
    pack_text (w ∷ (more ++ rest)) ≡ group_text w (length more) more ++ pack_text rest
pack_text-group w more rest e = grind (arith, common_steps, pack_text-front)

front-pass : (p : ℕ → Bool) (x : ℕ) (xs : List ℕ) → p x ≡ true
    → length (take_while p (x ∷ xs)) ≡ 1 + length (take_while p xs)
front-pass p x xs e = omega (arith, ap length (take_while-cons p x xs ∙ ap (λ b. cond b (x ∷ take_while p xs) []) e))

front-stop : (p : ℕ → Bool) (x : ℕ) (xs : List ℕ) → p x ≡ false → length (take_while p (x ∷ xs)) ≡ 0
front-stop p x xs e = ap length (take_while-cons p x xs ∙ ap (λ b. cond b (x ∷ take_while p xs) []) e)

-- the front that passes is no longer than the list
pub front-le : (p : ℕ → Bool) (xs : List ℕ) → length (take_while p xs) ≤ length xs
front-le p xs = omega (arith, length-take (prefix_len p xs) xs)

front-more : (p : ℕ → Bool) (x : ℕ) (xs ys : List ℕ) →
    (length (take_while p xs) ≡ length xs → length (take_while p (xs ++ ys)) ≡ length xs + length (take_while p ys)) →
    (b : Bool) → p x ≡ b → length (take_while p (x ∷ xs)) ≡ 1 + length xs
    → length (take_while p (x ∷ (xs ++ ys))) ≡ 1 + length xs + length (take_while p ys)
front-more p x xs ys more x5 e h = search (rules, front-pass)

-- where all of a list passes, the front that passes goes on after it
pub front-append : (p : ℕ → Bool) (xs ys : List ℕ) → length (take_while p xs) ≡ length xs →
    length (take_while p (xs ++ ys)) ≡ length xs + length (take_while p ys)
front-append p [] ys h = omega arith
front-append p (x ∷ xs) ys h = search (rules, front-more, front-append p xs ys)

-- a run of zero words, and what goes on after it
pub zero_run-append : (n : ℕ) (rest : List ℕ) → zero_run (replicate n 0 ++ rest) ≡ n + zero_run rest
zero_run-append zero rest = omega arith
zero_run-append (suc n) rest = search (rules, zero_run-append n rest)

-- another word than zero ends a run of zero words
pub zero_run-ends : (w : ℕ) (ws : List ℕ) → w ≢ 0 → zero_run (w ∷ ws) ≡ 0
zero_run-ends w ws h = front-stop (λ x. x == 0) w ws (ne_eqb w 0 h)

-- a word with a byte that isn't zero isn't zero
pub nonzero_word : (w : ℕ) → zero_bytes w < 8 → w ≢ 0
nonzero_word w h e = absurd (omega (arith, ap zero_bytes e))

-- how many words a group of zero words takes
pub group_size-zeros : (n : ℕ) (rest : List ℕ) → n ≤ 255 → (n < 255 → zero_run rest ≡ 0)
    → group_size (0 ∷ (replicate n 0 ++ rest)) ≡ 1 + n
group_size-zeros n rest h closes = search (rules, zero_run-append)

-- how many words a group of words as they are takes
pub group_size-plain : (x : ℕ) (more rest : List ℕ) → zero_bytes x ≡ 0 → full_run more ≡ length more
    → length more ≤ 255 →
    (length more < 255 → full_run rest ≡ 0) → group_size (x ∷ (more ++ rest)) ≡ 1 + length more
group_size-plain x more rest z e h closes = search (rules, front-append)

-- any other word is a group by itself
pub group_size-marked : (x : ℕ) (rest : List ℕ) → x ≢ 0 → zero_bytes x ≢ 0 → group_size (x ∷ rest) ≡ 1
group_size-marked x rest h z = rw (ne_eqb x 0 h, ne_eqb (zero_bytes x) 0 z) refl

-- the text of a run of zero words that the next word ends
pub pack_text-zeros : (n : ℕ) (rest : List ℕ) → n ≤ 255 → (n < 255 → zero_run rest ≡ 0) →
    pack_text (0 ∷ (replicate n 0 ++ rest)) ≡ 0 ∷ n ∷ pack_text rest
pack_text-zeros n rest h closes =
    let long = length-replicate n 0 in
    pack_text-group 0 (replicate n 0) rest (omega (arith, group_size-zeros n rest h closes, long))
    ∙ ap (λ k. 0 ∷ k ∷ pack_text rest) long

-- the text of a run of words as they are that the next word ends
pub pack_text-plain : (x : ℕ) (more rest : List ℕ) → zero_bytes x ≡ 0 → full_run more ≡ length more
    → length more ≤ 255 →
    (length more < 255 → full_run rest ≡ 0) →
    pack_text (x ∷ (more ++ rest)) ≡ 255 ∷ (word_bytes x ++ length more ∷ plain_text more) ++ pack_text rest
pack_text-plain x more rest z e h closes =
    pack_text-group x more rest (group_size-plain x more rest z e h closes)
    ∙ ap (λ t. t ++ pack_text rest) (plain_group x more z)
  where
    plain_group : (x : ℕ) (more : List ℕ) → zero_bytes x ≡ 0
        → group_text x (length more) more ≡ 255 ∷ (word_bytes x ++ length more ∷ plain_text more)
    plain_group x more z = rw (ne_eqb x 0 (nonzero_word x (omega (arith, z))), z) refl

-- the text of any other word
pub pack_text-marked : (x : ℕ) (rest : List ℕ) → x ≢ 0 → zero_bytes x ≢ 0 →
    pack_text (x ∷ rest) ≡ tag_of (word_bytes x) ∷ filter (λ b. not (b == 0)) (word_bytes x) ++ pack_text rest
pack_text-marked x rest h z = search rules

-- a group of words as they are has at most 255 after the first, each with at most one zero byte
pub plain_full : (x : ℕ) (more : List ℕ) → zero_bytes x ≡ 0 → group_size (x ∷ more) ≡ 1 + length more
    → (full_run more ≡ length more) × (length more ≤ 255)
plain_full x more z e = grind (arith, common_steps)
