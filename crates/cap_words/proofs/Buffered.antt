-- Whole words that are taken from the buffered bytes.
use Rattle.cap_spec.proofs.Bytes.Plain.{length_plain, plain_back, plain_cut_back, plain_split}
use Rattle.cap_spec.proofs.ProofNames.{Fits, List, None, Option, Some, [], ap, append-nil, arith, drop, get_or, length}
use Rattle.cap_spec.proofs.ProofNames.{length-append, length-take-le, option_map, suc, sym, take, unwrap_or, w8, ℕ, ◌*◌}
use Rattle.cap_spec.proofs.ProofNames.{◌++◌, ◌+◌, ◌<◌, ◌^◌, ◌∙◌, ◌∷◌, ◌≡◌, ◌≤◌, nil_from_length, Consumes, AllByRecursion}
use Rattle.cap_spec.proofs.ProofNames.{capped, plain_ends, plain_is_cut, plain_text, plain_words, IsWord, rules}
use Rattle.cap_words.specs.WordNames.{bytes_left, TakesAll, Phase, Open}

pub bytes_small : (xs : List ℕ) → ((k : ℕ) → Fits w8 (get_or xs k 0)) → AllByRecursion (λ b. b < 256) xs
bytes_small [] f = tt
bytes_small (x ∷ xs) f = ((f 0).fits, bytes_small xs (λ k. f (suc k)))

-- the places after words, and the last of them
ends_back : (at now : ℕ) (ws rest : List ℕ) → at < 2 ^ 64 → now ≡ capped (at + 8 * length ws) →
    now ∷ plain_ends now rest ≡ drop (length ws) (at ∷ plain_ends at (plain_text ws ++ rest))
ends_back at now (w ∷ ws) rest low e = ends_back (capped (at + 8)) now ws rest (omega arith) (omega arith)
ends_back at now ws rest low e = search rules

pub taken : (a b : Option (List ℕ)) (bs : List ℕ) (k at now : ℕ) → AllByRecursion (λ b. b < 256) bs → length bs ≡ 8 * k → at < 2 ^ 64 →
    now ≡ capped (at + 8 * k) → Consumes a b bs
    → (bs ≡ plain_text (plain_words bs))
    × TakesAll (option_map plain_words a) (option_map plain_words b) (plain_is_cut (unwrap_or a [])) (plain_is_cut (unwrap_or b [])) at now
    (plain_ends at (unwrap_or a [])) (plain_ends now (unwrap_or b [])) (plain_words bs)
taken a b bs k at now small long low e p =
    let s = plain_split bs small in
    let ws = plain_words bs in
    let rest = drop (8 * length (plain_words bs)) bs in
    let whole : length bs ≡ length (plain_text ws) + length rest = ap length s.whole ∙ length-append (plain_text ws) rest in
    let eight : length (plain_text ws) ≡ 8 * length ws = length_plain ws in
    let few : length rest < 8 = s.partial in
    let none : rest ≡ [] = nil_from_length rest (omega (arith, whole, eight, few, long)) in
    let all : bs ≡ plain_text ws = s.whole ∙ ap (λ l. plain_text ws ++ l) none ∙ append-nil (plain_text ws) in
    let same : length bs ≡ length (plain_text ws) = ap length all in
    let many : length ws ≡ k = omega (arith, same, eight, long) in
    (all, go a b p s.are_words all many)
  where
    go : (a b : Option (List ℕ)) → Consumes a b bs → AllByRecursion IsWord (plain_words bs) → bs ≡ plain_text (plain_words bs) → length (plain_words bs) ≡ k
        → TakesAll (option_map plain_words a) (option_map plain_words b) (plain_is_cut (unwrap_or a [])) (plain_is_cut (unwrap_or b [])) at now
        (plain_ends at (unwrap_or a [])) (plain_ends now (unwrap_or b [])) (plain_words bs)
    go None b p w all many = record { consumed = tt; goes_on = tt }
    go (Some x) None p w all many = absurd p
    go (Some x) (Some y) p w all many =
        let text : x ≡ plain_text (plain_words bs) ++ y = p ∙ ap (λ l. l ++ y) all in
        record {
          consumed = ap plain_words text ∙ plain_back (plain_words bs) y w;
          goes_on = (
            sym (ap plain_is_cut text ∙ plain_cut_back (plain_words bs) y),
            ends_back at now (plain_words bs) y low (omega arith) ∙ ap (λ t. drop (length (plain_words bs)) (at ∷ plain_ends at t)) (sym text),
          );
        }

-- by a source that is open
pub ready_words : (phase : Phase) (a b : Option (List ℕ)) (held out : List ℕ) (n k at now : ℕ) → phase ≡ Open →
    AllByRecursion (λ b. b < 256) (take n held) → n ≤ length held → n ≡ 8 * k → at < 2 ^ 64 → now ≡ capped (at + n)
    → take n out ≡ take n held → Consumes a b (take n held)
    → (take n out ≡ plain_text (plain_words (take n out)))
    × TakesAll (option_map plain_words (bytes_left phase a)) (option_map plain_words (bytes_left phase b))
    (plain_is_cut (unwrap_or (bytes_left phase a) [])) (plain_is_cut (unwrap_or (bytes_left phase b) [])) at now
    (plain_ends at (unwrap_or (bytes_left phase a) [])) (plain_ends now (unwrap_or (bytes_left phase b) [])) (plain_words (take n out))
ready_words phase a b held out n k at now is_open small within eight low value copied p =
    let long : length (take n held) ≡ 8 * k = omega (arith, length-take-le n held within) in
    rw (is_open, copied) (taken a b (take n held) k at now small long low (omega arith) p)
