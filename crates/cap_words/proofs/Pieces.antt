-- Pieces of many words, by values: what was filled in, and where the input ends inside a piece.
use Rattle.cap_spec.proofs.Bytes.Plain.{length_plain, plain_back, plain_short, plain_split}
use Rattle.cap_spec.proofs.ProofNames.{Bool, List, OnSome, Option, [], ap, append-nil, arith, drop, false}
use Rattle.cap_spec.proofs.ProofNames.{length, option_map, subst, take, take_all, true, unwrap_or, ℕ, ◌%◌, ◌*◌}
use Rattle.cap_spec.proofs.ProofNames.{◌++◌, ◌+◌, ◌<◌, ◌^◌, ◌∙◌, ◌∷◌, ◌≡◌, ◌≤◌, Consumes-nil, take-append-le, Consumes}
use Rattle.cap_spec.proofs.ProofNames.{IsAtEnd, AllByRecursion, capped, plain_ends, plain_is_cut, plain_text, plain_words}
use Rattle.cap_spec.proofs.ProofNames.{rules}
use Rattle.cap_words.specs.WordNames.{bytes_left, TakesAll, Phase, Open}
use Rattle.cap_words.specs.TakingMany.{EndsWithin}
use Rattle.cap_words.proofs.Buffered.{taken}

-- how plain text ends, by its length
pub record PlainEnd (at : ℕ) (bytes : List ℕ) : Type 0 where
  pub many : 8 * length (plain_words bytes) ≤ length bytes
  pub whole : length bytes % 8 ≡ 0 → plain_is_cut bytes ≡ false
  pub cut : 0 < length bytes % 8 → plain_is_cut bytes ≡ true
  pub last : drop (length (plain_words bytes)) (plain_ends at bytes) ≡ capped (at + length bytes) ∷ []

pub plain_end : (at : ℕ) (bytes : List ℕ) → at < 2 ^ 64 → PlainEnd at bytes
plain_end at (a ∷ b ∷ c ∷ d ∷ e ∷ f ∷ g ∷ h ∷ rest) low =
    let t = plain_end (capped (at + 8)) rest (omega arith) in
    record {
      many = omega (arith, t.many);
      whole = λ e. t.whole (omega arith);
      cut = λ some. t.cut (omega arith);
      last = t.last ∙ ap (λ n. n ∷ []) (omega arith);
    }
plain_end at bytes low = search rules

-- the input ended after these bytes, by a source that is open
pub ends_within : {phase : Phase} (a b : Option (List ℕ)) (bytes : List ℕ) (count : ℕ) {at next : ℕ} {inside : Bool} → phase ≡ Open → at < 2 ^ 64 →
    length bytes < 8 * count → next ≡ capped (at + length bytes)
    → plain_is_cut bytes ≡ inside → Consumes a b bytes → IsAtEnd b
    → EndsWithin count (option_map plain_words (bytes_left phase a)) (plain_is_cut (unwrap_or (bytes_left phase a) [])) inside
    (plain_ends at (unwrap_or (bytes_left phase a) [])) next
ends_within a b bytes count {at} {next} {inside} is_open low few value cut p end = search (rules, append-nil, plain_end)

-- what holds is said of a known value
pub on_some : {A : Type 0} (o : Option A) (P : Type 0) → P → OnSome o P
on_some o P h = search rules

-- nothing was asked for
pub none_filled : {words : Option (List ℕ)} {cut : Bool} {at : ℕ} {places : List ℕ} (out : List ℕ) {count : ℕ} → length out < 8 → count ≡ 0
    → (length (plain_words out) ≡ count) × (take (8 * length (plain_words out)) out ≡ plain_text (plain_words out))
    × TakesAll words words cut cut at at places places (plain_words out)
none_filled {words} out few none = search (rules, plain_short, Consumes-nil, on_some)

-- the front of bytes are bytes
pub front_all : (xs ys : List ℕ) → AllByRecursion (λ b. b < 256) (xs ++ ys) → AllByRecursion (λ b. b < 256) xs
front_all [] ys a = tt
front_all (x ∷ xs) ys a = (a.0, front_all xs ys a.1)

-- a piece was filled, by a source that is open
pub piece_filled : (phase : Phase) (a b : Option (List ℕ)) (given rest : List ℕ) (n k at now : ℕ) → phase ≡ Open →
    AllByRecursion (λ b. b < 256) (given ++ rest) → length given ≡ 8 * k → n ≡ length given → length rest < 8
    → at < 2 ^ 64 → now ≡ capped (at + n) → Consumes a b (take n given)
    → (length (plain_words (given ++ rest)) ≡ k) × (take (8 * length (plain_words (given ++ rest))) (given ++ rest) ≡ plain_text (plain_words (given ++ rest)))
    × TakesAll (option_map plain_words (bytes_left phase a)) (option_map plain_words (bytes_left phase b))
    (plain_is_cut (unwrap_or (bytes_left phase a) [])) (plain_is_cut (unwrap_or (bytes_left phase b) [])) at now
    (plain_ends at (unwrap_or (bytes_left phase a) [])) (plain_ends now (unwrap_or (bytes_left phase b) [])) (plain_words (given ++ rest))
piece_filled phase a b given rest n k at now is_open small long whole few low value p =
    let bytes = front_all given rest small in
    let all : take n given ≡ given = take_all n given (omega arith) in
    let t = taken a b given k at now bytes long low (omega arith) (subst (Consumes a b) all p) in
    let ws = plain_words given in
    let eight : length given ≡ 8 * length ws = ap length t.0 ∙ length_plain ws in
    let same : plain_words (given ++ rest) ≡ ws =
    ap (λ l. plain_words (l ++ rest)) t.0 ∙ plain_back ws rest (plain_split given bytes).are_words ∙ ap (λ l. ws ++ l) (plain_short rest few) ∙ append-nil ws in
    let front : take (8 * length ws) (given ++ rest) ≡ plain_text ws =
    take-append-le (8 * length ws) given rest (omega arith) ∙ take_all (8 * length ws) given (omega arith) ∙ t.0 in
    rw (is_open, same) (omega (arith, eight, long), front, t.1)
