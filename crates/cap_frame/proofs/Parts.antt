-- The bytes of some words of a segment, where the segments are one after the other.
use Rattle.std.proofs.lemmas.List.Elements.{All-from_recursion}
use Rattle.cap_spec.proofs.Bytes.Plain.{plain_split}
use Rattle.cap_spec.proofs.Lemmas.{all_drop, all_take, words_exact}
use Rattle.cap_spec.proofs.ProofNames.{All, Fits, List, [], ap, arith, drop, drop-drop, get_or, inl, inr, length, length-drop}
use Rattle.cap_spec.proofs.ProofNames.{length-take-le, slice_range, sum, sym, take, take-append-drop, take-take, take_all}
use Rattle.cap_spec.proofs.ProofNames.{w8, ℕ, ◌*◌, ◌++◌, ◌+◌, ◌-◌, ◌<◌, ◌∙◌, ◌≡◌, ◌≤◌, drop-append_seam, take-append_seam}
use Rattle.cap_spec.proofs.ProofNames.{cases_lt, drop-take, drop_all, AllByRecursion, plain_text, plain_words, IsWord}
use Rattle.cap_spec.proofs.ProofNames.{rules}
use Rattle.cap_words.proofs.Buffered.{bytes_small}
use Rattle.cap_words.proofs.Filling.{plain_join}
use Rattle.cap_words.proofs.WholeWords.{words_text}
use Rattle.cap_frame.specs.Bytes.{cut, starts_of}
use Rattle.cap_frame.proofs.Cuts.{cut_at, cut_length, cut_words, front_sum, start_is, words_inside}

-- this many words, and those after them
parts_of : (k : ℕ) (bs : List ℕ) → 8 * k ≤ length bs
    → (plain_words bs ≡ plain_words (take (8 * k) bs) ++ plain_words (drop (8 * k) bs)) × (length (plain_words (take (8 * k) bs)) ≡ k)
parts_of k bs h = search (rules, length-take-le (8 * k) bs h, take-append-drop (8 * k) bs, plain_join (take (8 * k) bs) (drop (8 * k) bs) (omega (arith, (length-take-le (8 * k) bs h))), words_exact (take (8 * k) bs))

-- the first bytes encode the first words
pub take_words : (k : ℕ) (bs : List ℕ) → take k (plain_words bs) ≡ plain_words (take (8 * k) bs)
take_words k bs = elim (cases_lt (length bs) (8 * k)) [
  | inl few ↦ take_all k (plain_words bs) (omega (arith, words_inside bs, few)) ∙ sym (ap plain_words (take_all (8 * k) bs (omega (arith, few))))
  | inr enough ↦
      let p = parts_of k bs enough in
      ap (take k) p.0 ∙ (ap (λ n. take n (plain_words (take (8 * k) bs) ++ plain_words (drop (8 * k) bs))) (sym p.1)
      ∙ take-append_seam (plain_words (take (8 * k) bs)) (plain_words (drop (8 * k) bs)))
]

-- and the other bytes the other words
pub drop_words : (k : ℕ) (bs : List ℕ) → drop k (plain_words bs) ≡ plain_words (drop (8 * k) bs)
drop_words k bs = elim (cases_lt (length bs) (8 * k)) [
  | inl few ↦ drop_all k (plain_words bs) (omega (arith, words_inside bs, few)) ∙ sym (ap plain_words (drop_all (8 * k) bs (omega (arith, few))))
  | inr enough ↦
      let p = parts_of k bs enough in
      ap (drop k) p.0 ∙ (ap (λ n. drop n (plain_words (take (8 * k) bs) ++ plain_words (drop (8 * k) bs))) (sym p.1)
      ∙ drop-append_seam (plain_words (take (8 * k) bs)) (plain_words (drop (8 * k) bs)))
]

-- some bytes from a word on are the text of their words
pub part_text : (bs : List ℕ) (at words : ℕ) → ((i : ℕ) → Fits w8 (get_or bs i 0)) → 8 * (at + words) ≤ length bs
    → take (8 * words) (drop (8 * at) bs) ≡ plain_text (plain_words (take (8 * words) (drop (8 * at) bs)))
part_text bs at words fits inside = search (
  rules,
  length-drop (8 * at) bs,
  length-take-le (8 * words) (drop (8 * at) bs) (omega (arith, (length-drop (8 * at) bs), inside)),
  words_text,
  all_take (λ b. b < 256) (8 * words) (drop (8 * at) bs) (all_drop (λ b. b < 256) (8 * at) bs (bytes_small bs fits)),
  all_drop (λ b. b < 256) (8 * at) bs (bytes_small bs fits),
  bytes_small bs fits,
)

-- and the words of some bytes are words
pub part_are_words : (bs : List ℕ) (n at : ℕ) → ((i : ℕ) → Fits w8 (get_or bs i 0)) → All IsWord (plain_words (take n (drop at bs)))
part_are_words bs n at fits =
    let part = take n (drop at bs) in
    let small : AllByRecursion (λ b. b < 256) part = all_take (λ b. b < 256) n (drop at bs) (all_drop (λ b. b < 256) at bs (bytes_small bs fits)) in
    All-from_recursion IsWord (plain_words part) (plain_split part small).are_words

-- some words of a segment are encoded where their start and that of the segment give
pub part_words : (ns bs : List ℕ) (s start words : ℕ) → s < length ns → 8 * sum ns ≤ length bs → start + words ≤ length (get_or (cut ns bs) s [])
    → slice_range (get_or (cut ns bs) s []) start (start + words)
    ≡ plain_words (take (8 * words) (drop (8 * (sum (take s ns) + start)) bs))
part_words ns bs s start words l h inside =
    let n = get_or ns s 0 in
    let at = 8 * sum (take s ns) in
    let own = take (8 * n) (drop at bs) in
    let e : length (get_or (cut ns bs) s []) ≡ n = cut_words ns bs s l h in
    let c : get_or (cut ns bs) s [] ≡ plain_words own = cut_at ns bs s l in
    let few : (start + words) - start ≡ words = omega arith in
    let r = 8 * n - 8 * start in
    let q : 8 * n ≡ 8 * start + r = omega (arith, inside, e) in
    let x : drop (8 * start) own ≡ take r (drop (8 * start) (drop at bs)) = ap (λ k. drop (8 * start) (take k (drop at bs))) q
    ∙ drop-take (8 * start) r (drop at bs) in
    let m : 8 * words ≤ r = omega (arith, inside, e) in
    let z : at + 8 * start ≡ 8 * (sum (take s ns) + start) = omega arith in
    let y : drop (8 * start) (drop at bs) ≡ drop (8 * (sum (take s ns) + start)) bs = drop-drop (8 * start) at bs ∙ ap (λ k. drop k bs) z in
    ap (λ xs. slice_range xs start (start + words)) c
    ∙ (ap (λ k. take k (drop start (plain_words own))) few
    ∙ (ap (take words) (drop_words start own)
    ∙ (take_words words (drop (8 * start) own)
    ∙ ap plain_words (ap (take (8 * words)) x ∙ (take-take (8 * words) r (drop (8 * start) (drop at bs)) m ∙ ap (take (8 * words)) y)))))

-- where words of segment s are, by the table of starts, and what they are
pub record PartFacts (ns starts bs : List ℕ) (s start words : ℕ) : Type 0 where
  pub sums : get_or starts s 0 + start + words ≤ sum ns
  pub encoded : plain_words (take (8 * words) (drop (8 * (get_or starts s 0 + start)) bs)) ≡ slice_range (get_or (cut ns bs) s []) start (start + words)

pub part_facts : (ns starts bs : List ℕ) (s start words : ℕ) → starts ≡ starts_of 0 ns → 8 * sum ns ≤ length bs → s < length (cut ns bs)
    → start + words ≤ length (get_or (cut ns bs) s []) → PartFacts ns starts bs s start words
part_facts ns starts bs s start words are inside exists within = search (rules, cut_length, start_is, cut_words, front_sum, part_words)
