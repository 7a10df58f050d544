-- Texts of which JSON escapes nothing.
use Rattle.std.proofs.Common.{Bool, List, [], ap, ap₂, arith, cond, false, lt-ltb, refl, suc, true, zero, ℕ, ◌%◌, ◌++◌, ◌+◌, ◌/◌, ◌<◌, ◌==◌, ◌∙◌, ◌∷◌, ◌≡◌, ◌≢◌, ◌≤◌}
use Rattle.std.proofs.lemmas.Grind.{flat_map-append}
use Rattle.std.specs.Fmt.{decimal, digit_glyph, digits, digits_onto}
use Rattle.std.specs.List.{AllByRecursion, flat_map}
use Rattle.json.specs.Print.{escape, escape_byte}
use Rattle.json.proofs.Printed.Strings.{escape_byte_plain}
use Rattle.cap_spec.specs.PathTexts.{path_text, step_text}
use Rattle.cap_spec.specs.declared.Step.{Step}
use Rattle.cap_spec.specs.declared.Step.TheVariants.{Item, Ptr}

-- IsUnescaped of JsonFields, written here again: so where it has another value, the law is refused, and not a lemma
abbrev pub IsPlain : List ℕ → Type 0
IsPlain text = AllByRecursion (λ b. (32 ≤ b) × (b ≢ 34) × (b ≢ 92)) text

pub plain_same : (text : List ℕ) → IsPlain text → escape text ≡ text
plain_same [] h = refl
plain_same (b ∷ bytes) h =
    ap₂ (λ (a rest : List ℕ). a ++ rest) (escape_byte_plain b h.0.1 h.0.2 h.0.0) (plain_same bytes h.1)

digit_same : (d : ℕ) → d < 10 → escape_byte (digit_glyph false d) ≡ digit_glyph false d ∷ []
digit_same d h = rw (lt-ltb d 10 h) (escape_byte_plain (48 + d) (λ e. omega arith) (λ e. omega arith) (omega arith))

either_same : (b : Bool) (xs ys : List ℕ) → escape xs ≡ xs → escape ys ≡ ys → escape (cond b xs ys) ≡ cond b xs ys
either_same true xs ys p q = p
either_same false xs ys p q = q

digits_same : (k n : ℕ) (after : List ℕ) → escape after ≡ after →
    escape (digits_onto k 10 false n after) ≡ digits_onto k 10 false n after
digits_same zero n after h = h
digits_same (suc k) n after h =
    let digit = digit_glyph false (n % 10) in
    let more : escape (digit ∷ after) ≡ digit ∷ after =
    ap₂ (λ (a rest : List ℕ). a ++ rest) (digit_same (n % 10) (omega arith)) h in
    either_same (n / 10 == 0) _ _ more (digits_same k (n / 10) (digit ∷ after) more)

decimal_same : (n : ℕ) → escape (decimal n) ≡ decimal n
unfolding digits
decimal_same n = digits_same 64 n [] refl

step_same : (s : Step) → escape (step_text s) ≡ step_text s
unfolding escape_byte
step_same (Ptr i) = ap (λ text. 47 ∷ 112 ∷ text) (decimal_same i)
step_same (Item i) = ap (λ text. 47 ∷ 105 ∷ text) (decimal_same i)

steps_same : (steps : List Step) → escape (flat_map step_text steps) ≡ flat_map step_text steps
steps_same [] = refl
steps_same (s ∷ steps) =
    flat_map-append escape_byte (step_text s) (flat_map step_text steps)
    ∙ ap₂ (λ (a rest : List ℕ). a ++ rest) (step_same s) (steps_same steps)

pub path_same : (steps : List Step) → escape (path_text steps) ≡ path_text steps
unfolding escape_byte
path_same [] = refl
path_same (s ∷ steps) = steps_same (s ∷ steps)
