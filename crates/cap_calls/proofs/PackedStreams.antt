-- Words out of a packed stream, one step after the other.
use Rattle.cap_spec.proofs.Lemmas.{all_take, plain_short, words_exact}
use Rattle.cap_spec.proofs.Packed.Groups.{group_off}
use Rattle.cap_spec.proofs.Packed.Unpacking.{length_marked, spread_append, unpacked_front, unpacked_short}
use Rattle.cap_spec.proofs.ProofNames.{List, [], ap, append-nil, append_assoc, arith, drop, inl, inr, le-ltb, length}
use Rattle.cap_spec.proofs.ProofNames.{length-append, length-drop, length-take, length-take-le, lt-ltb, refl}
use Rattle.cap_spec.proofs.ProofNames.{replicate, slice_index, subst, suc, sym, take, take-add, take-append-drop, take_all}
use Rattle.cap_spec.proofs.ProofNames.{zero, ℕ, ◌*◌, ◌++◌, ◌+◌, ◌-◌, ◌<◌, ◌∙◌, ◌∷◌, ◌≡◌, ◌≢◌, ◌≤◌, ◌⊎◌, rules}
use Rattle.cap_spec.proofs.ProofNames.{drop-append-add, take-append-add, cases_eq, cases_lt}
use Rattle.cap_spec.proofs.ProofNames.{drop_all, replicate-append-replicate, AllByRecursion, little_number, plain_words}
use Rattle.cap_spec.proofs.ProofNames.{marked, marks, spread, unpacked, zeros}
use Rattle.cap_words.proofs.Filling.{plain_join}
use Rattle.cap_pack.specs.Course.{first_word, head_rest, plain_of, zeros_of}
use Rattle.cap_pack.proofs.Heads.{first_word-marked, first_word-plain, first_word-zeros, head_rest-marked}
use Rattle.cap_pack.proofs.Heads.{head_rest-plain, head_rest-zeros, little-append, plain_of-others, plain_of-plain}
use Rattle.cap_pack.proofs.Heads.{zeros_of-others, zeros_of-zeros}
use Rattle.cap_pack.proofs.PuttingEach.{word_first}
use Rattle.cap_calls.specs.PackedStreams.{GivesWords, head_length, words_to_come}

-- part of a head gives no word
marked_part : (tag : ℕ) (b : List ℕ) → tag ≢ 0 → tag ≢ 255 → tag < 256 → length (tag ∷ b) < 1 + marks 8 tag
    → unpacked (tag ∷ b) ≡ []
marked_part tag b z f small h = search (rules, length_marked, unpacked_short)

pub head_part : (bytes : List ℕ) → AllByRecursion (λ b. b < 256) bytes → length bytes < head_length bytes → unpacked bytes ≡ []
head_part bytes k h = search (rules, unpacked_short, lt-ltb, marked_part)

-- fewer bytes than those of the head give no word
pub head_least : (bytes : List ℕ) (n : ℕ) → AllByRecursion (λ b. b < 256) bytes → n < head_length bytes
    → length (words_to_come 0 0 (take n bytes)) < 1
head_least bytes zero all l = omega arith
head_least [] (suc n) all l = omega arith
head_least (tag ∷ b) (suc n) all l =
    let few : length (tag ∷ take n b) ≤ suc n = omega (arith, length-take n b) in
    let front : AllByRecursion (λ (x : ℕ). x < 256) (tag ∷ take n b) = (all.0, all_take (λ x. x < 256) n b all.1) in
    let none : unpacked (tag ∷ take n b) ≡ [] = head_part (tag ∷ take n b) front (omega (arith, few, l)) in
    omega (arith, ap length none)

-- a run of literal words before more bytes
plain_front : (a b c d e f g h n : ℕ) (rest : List ℕ) →
    unpacked (255 ∷ a ∷ b ∷ c ∷ d ∷ e ∷ f ∷ g ∷ h ∷ n ∷ rest)
    ≡ plain_words (a ∷ b ∷ c ∷ d ∷ e ∷ f ∷ g ∷ h ∷ []) ++ words_to_come 0 n rest
plain_front a b c d e f g h n rest =
    let bytes : List ℕ = a ∷ b ∷ c ∷ d ∷ e ∷ f ∷ g ∷ h ∷ n ∷ rest in
    let one : List ℕ = plain_words (a ∷ b ∷ c ∷ d ∷ e ∷ f ∷ g ∷ h ∷ []) in
    let head : 10 + 8 * n ≡ suc (suc (suc (suc (suc (suc (suc (suc (suc (suc (8 * n)))))))))) = omega arith in
    elim (cases_lt (length rest) (8 * n)) [
      | inl less ↦ search (rules, le-ltb, take_all, drop_all, append-nil, unpacked_short)
      | inr more ↦
          unpacked_front (255 ∷ bytes) (omega arith) (omega (arith, more))
          ∙ ap (λ (k : ℕ). (one ++ plain_words (take (8 * n) rest)) ++ unpacked (drop k (255 ∷ bytes))) head
    ]

-- the heads of the three kinds of groups
pub leads_zeros_head : (bytes : List ℕ) (n : ℕ) → AllByRecursion (λ b. b < 256) bytes → 2 ≤ length bytes → slice_index bytes 0 ≡ 0
    → n ≡ slice_index bytes 1 → GivesWords 0 0 bytes (0 ∷ []) 2 n 0
leads_zeros_head [] n all l z e = absurd (omega (arith, l))
leads_zeros_head (tag ∷ []) n all l z e = absurd (omega (arith, l))
leads_zeros_head (tag ∷ k ∷ rest) n all l z e =
    let t : tag ≡ 0 = z in
    let same : n ≡ k = e in
    let long : head_length (tag ∷ k ∷ rest) ≡ 2 = ap (λ (x : ℕ). head_length (x ∷ k ∷ rest)) t in
    record {
      within = omega (arith, l);
      gives = λ more.
          let many : 1 + k ≡ suc n = omega (arith, same) in
          ap (λ (x : ℕ). unpacked (x ∷ k ∷ more)) t
          ∙ (group_off (0 ∷ k ∷ []) (replicate (1 + k) 0) more (zeros k all.1.0 refl refl)
          ∙ ap (λ (j : ℕ). replicate j 0 ++ unpacked more) many);
      least = λ j h. head_least (tag ∷ k ∷ rest) j all (omega (arith, h, long));
    }

pub leads_plain_head : (bytes : List ℕ) (n w : ℕ) → AllByRecursion (λ b. b < 256) bytes → 10 ≤ length bytes → slice_index bytes 0 ≡ 255
    → n ≡ slice_index bytes 9 → plain_words (take 8 (drop 1 bytes)) ≡ w ∷ [] → GivesWords 0 0 bytes (w ∷ []) 10 0 n
leads_plain_head (tag ∷ a ∷ b ∷ c ∷ d ∷ e ∷ f ∷ g ∷ h ∷ k ∷ rest) n w all l z s p =
    search (rules, plain_front, head_least)
leads_plain_head _ n w all l z s p = absurd (omega (arith, l))

pub leads_marked_head : (bytes : List ℕ) (tag n w : ℕ) → AllByRecursion (λ b. b < 256) bytes → 1 + n ≤ length bytes
    → slice_index bytes 0 ≡ tag → tag ≢ 0 → tag ≢ 255 → n ≡ marks 8 tag → w ≡ spread 8 tag (take n (drop 1 bytes))
    → GivesWords 0 0 bytes (w ∷ []) (1 + n) 0 0
leads_marked_head [] tag n w all l t z f m p = absurd (omega (arith, l))
leads_marked_head (x ∷ rest) tag n w all l t z f m p =
    let same : x ≡ tag = t in
    let present = take n rest in
    let count : length present ≡ marks 8 tag = length-take-le n rest (omega (arith, l)) ∙ m in
    let small : tag < 256 = subst (λ (k : ℕ). k < 256) same all.0 in
    let long : head_length (x ∷ rest) ≡ 1 + n = search rules in
    let next : 1 + n ≡ suc n = omega arith in
    record {
      within = l;
      gives = λ more.
          ap (λ (k : ℕ). unpacked (take k (x ∷ rest) ++ more)) next
          ∙ (ap (λ (k : ℕ). unpacked (k ∷ (present ++ more))) same
          ∙ (group_off (tag ∷ present) (spread 8 tag present ∷ []) more
          (marked tag present (omega (arith, z)) (omega (arith, f, small)) (all_take (λ x. x < 256) n rest all.1) count refl refl)
          ∙ ap (λ (k : ℕ). k ∷ unpacked more) (sym p)));
      least = λ j h. head_least (x ∷ rest) j all (omega (arith, h, long));
    }

-- no words
pub leads_none : (z p : ℕ) (bytes : List ℕ) → GivesWords z p bytes [] 0 z p
leads_none z p bytes = record { within = omega arith; gives = λ more. refl; least = λ n l. absurd (omega (arith, l)) }

-- zero words of a run
pub leads_zeros : (z n m p : ℕ) (bytes : List ℕ) → z ≡ n + m → GivesWords z p bytes (replicate n 0) 0 m p
leads_zeros z n m p bytes e = record {
  within = omega arith;
  gives = λ more.
      let later = plain_words (take (8 * p) more) ++ unpacked (drop (8 * p) more) in
      ap (λ (k : ℕ). replicate k 0 ++ later) e
      ∙ (ap (λ (x : List ℕ). x ++ later) (sym (replicate-append-replicate n m 0))
      ∙ append_assoc (replicate n 0) (replicate m 0) later);
  least = λ k l. absurd (omega (arith, l));
}

-- literal words of a run
pub leads_literal : (p n m : ℕ) (bytes : List ℕ) → p ≡ n + m → 8 * n ≤ length bytes
    → GivesWords 0 p bytes (plain_words (take (8 * n) bytes)) (8 * n) 0 m
leads_literal p n m bytes e h =
    let front = take (8 * n) bytes in
    let long : length front ≡ 8 * n = length-take-le (8 * n) bytes h in
    let parts : 8 * p ≡ length front + 8 * m = omega (arith, e, long) in
    search (rules, take-append-add, drop-append-add, plain_join, append_assoc, length-take, take_all, drop_all, append-nil, words_exact)

same_leads : (bytes : List ℕ) (w t z p w' t' z' p' : ℕ) → w ≡ w' → t ≡ t' → z ≡ z' → p ≡ p'
    → GivesWords 0 0 bytes (w' ∷ []) t' z' p' → GivesWords 0 0 bytes (w ∷ []) t z p
same_leads bytes w t z p w' t' z' p' a b c d leads = rw (a, b, c, d) leads

-- the head of the first group, by what it says
pub leads_head : (bytes : List ℕ) (w t z p : ℕ) → AllByRecursion (λ b. b < 256) bytes → head_rest (slice_index bytes 0) < length bytes
    → w ≡ first_word (slice_index bytes 0) (drop 1 bytes) → t ≡ 1 + head_rest (slice_index bytes 0)
    → z ≡ zeros_of (slice_index bytes 0) (drop 1 bytes) → p ≡ plain_of (slice_index bytes 0) (drop 1 bytes)
    → GivesWords 0 0 bytes (w ∷ []) t z p
leads_head [] w t z p all l e long f g = absurd (omega (arith, l))
leads_head (tag ∷ rest) w t z p all l e long f g = elim (cases_eq tag 0) [
  | inl none ↦
      let one = head_rest-zeros tag none in
      same_leads (tag ∷ rest) w t z p 0 2 z 0 (e ∙ sym (first_word-zeros tag rest none)) (omega (arith, long, one)) refl
      (g ∙ sym (plain_of-others tag rest (omega (arith, none))))
      (leads_zeros_head (tag ∷ rest) z all (omega (arith, l, one)) none (f ∙ sym (zeros_of-zeros tag rest none)))
  | inr some ↦ elim (cases_eq tag 255) [
    | inl full ↦
        let nine = head_rest-plain tag full in
        let front = take 8 rest in
        let eight : 8 ≤ length front = omega (arith, length-take 8 rest, l, nine) in
        let no_more : drop 8 front ≡ [] = drop_all 8 front (omega (arith, length-take 8 rest)) in
        let same : little_number 8 front ≡ w =
        sym (little-append front (drop 8 rest) eight) ∙ (ap (little_number 8) (take-append-drop 8 rest) ∙ (first_word-plain tag rest full ∙ sym e)) in
        let first : plain_words front ≡ w ∷ [] =
        word_first front eight ∙ (ap (λ (x : ℕ). x ∷ plain_words (drop 8 front)) same ∙ ap (λ (x : List ℕ). w ∷ plain_words x) no_more) in
        same_leads (tag ∷ rest) w t z p w 10 0 p refl (omega (arith, long, nine)) (f ∙ sym (zeros_of-others tag rest some)) refl
        (leads_plain_head (tag ∷ rest) p w all (omega (arith, l, nine)) full (g ∙ sym (plain_of-plain tag rest full)) first)
    | inr part ↦
        let n = marks 8 tag in
        let many = head_rest-marked tag some part in
        let own : length (take n rest) ≡ n = length-take-le n rest (omega (arith, l, many)) in
        let word : w ≡ spread 8 tag (take n rest) =
        e ∙ (sym (first_word-marked tag rest some part) ∙ (ap (spread 8 tag) (sym (take-append-drop n rest)) ∙ spread_append 8 tag (take n rest) (drop n rest) own)) in
        same_leads (tag ∷ rest) w t z p w (1 + n) 0 0 refl (omega (arith, long, many)) (f ∙ sym (zeros_of-others tag rest some))
        (g ∙ sym (plain_of-others tag rest part))
        (leads_marked_head (tag ∷ rest) tag n w all (omega (arith, l, many)) refl some part refl word)
  ]
]

-- a head begins one run at most
pub one_run : (tag : ℕ) (bytes : List ℕ) → (zeros_of tag bytes ≡ 0) ⊎ (plain_of tag bytes ≡ 0)
one_run tag bytes = search (rules, plain_of-others, zeros_of-others)

-- how long a head is
pub head_is : (bytes : List ℕ) → 0 < length bytes → head_length bytes ≡ 1 + head_rest (slice_index bytes 0)
head_is bytes l = search (rules, head_rest-zeros, head_rest-plain, head_rest-marked)

-- without a whole head there is no word
pub no_head : (bytes : List ℕ) → AllByRecursion (λ b. b < 256) bytes → length bytes ≤ head_rest (slice_index bytes 0) → unpacked bytes ≡ []
no_head [] all l = refl
no_head (tag ∷ b) all l = head_part (tag ∷ b) all (omega (arith, l, head_is (tag ∷ b) (omega arith)))

-- some words, and then others
pub leads_both : (z p y q x r t u : ℕ) (bytes rest ws vs : List ℕ) → GivesWords z p bytes ws t y q → rest ≡ drop t bytes
    → GivesWords y q rest vs u x r → GivesWords z p bytes (ws ++ vs) (t + u) x r
leads_both z p y q x r t u bytes rest ws vs f e g =
    let split : (k : ℕ) → take (t + k) bytes ≡ take t bytes ++ take k rest =
    λ k. take-add t k bytes ∙ ap (λ (l : List ℕ). take t bytes ++ take k l) (sym e) in
    record {
      within = omega (arith, f.within, g.within, ap length e, length-drop t bytes);
      gives = search (rules, append_assoc);
      least = λ n l. elim (cases_lt n t) [
        | inl less ↦ (let few = f.least n less in omega (arith, few, length-append ws vs))
        | inr more ↦
            let k = n - t in
            let at : n ≡ t + k = omega (arith, more) in
            search (rules, length-append)
      ];
    }

-- fewer bytes than a literal word has
pub literal_part : (p : ℕ) (bytes : List ℕ) → 0 < p → length bytes < 8 → words_to_come 0 p bytes ≡ []
literal_part p bytes some few = search (rules, take_all, drop_all, plain_short)

-- words that come are more than none
pub some_come : (z p y q t : ℕ) (bytes ws : List ℕ) → 0 < length ws → GivesWords z p bytes ws t y q → words_to_come z p bytes ≢ []
some_come z p y q t bytes ws some f e =
    let come = ap (words_to_come z p) (sym (take-append-drop t bytes)) ∙ f.gives (drop t bytes) in
    omega (arith, some, ap length come, ap length e, length-append ws (words_to_come y q (drop t bytes)))
