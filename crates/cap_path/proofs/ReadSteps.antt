-- What has been read of a path's text, byte by byte.
use Rattle.std.proofs.lemmas.Grind.{flat_map-append}
use Rattle.cap_spec.specs.declared.Step.{Step}
use Rattle.cap_spec.specs.declared.Step.TheVariants.{Ptr, Item as item}
use Rattle.cap_spec.proofs.Bytes.Lists.{all_append}
use Rattle.cap_spec.proofs.ProofNames.{Bool, List, None, Option, Some, [], ap, append-nil, append_assoc, arith, codes}
use Rattle.cap_spec.proofs.ProofNames.{decimal, false, flat_map, get_or, if◌then◌else◌, inl, inr, length, refl}
use Rattle.cap_spec.proofs.ProofNames.{sym, take, true, ℕ, ◌*◌, ◌++◌, ◌+◌, ◌-◌, ◌<◌, ◌==◌, ◌^◌, ◌∙◌, ◌∷◌, ◌≡◌}
use Rattle.cap_spec.proofs.ProofNames.{◌≢◌, ◌≤◌, ◌⊎◌, nat_tests, decimal_digit, decimal_step, take_more, AllByRecursion}
use Rattle.cap_spec.proofs.ProofNames.{BeginsPath, IsStep, path_text, step_text, rules}
use Rattle.cap_path.specs.PathReading.{is_digit, longer_number, number_with}

-- how far the last step of a text has been read: not at all, its slash, its letter, or a number that may have more digits
pub data Reading : Type 0 where
  Start : Reading
  Slash : Reading
  Pointer : Reading
  Item : Reading
  Number : Step → Reading

-- a step with one more digit
abbrev pub pointer_number : Option ℕ → Option Reading
pointer_number None = None
pointer_number (Some n) = Some (Number (Ptr n))

abbrev pub item_number : Option ℕ → Option Reading
item_number None = None
item_number (Some n) = Some (Number (item n))

-- how far the step has been read after one more byte
abbrev pub next_of : Reading → ℕ → Option Reading
next_of Start b = if b == 47 then Some Slash else None
next_of Slash b = if b == 112 then Some Pointer else (if b == 105 then Some Item else None)
next_of Pointer b = if is_digit b then Some (Number (Ptr (b - 48))) else None
next_of Item b = if is_digit b then Some (Number (item (b - 48))) else None
next_of (Number (Ptr n)) b = if b == 47 then Some Slash
    else (if is_digit b then pointer_number (longer_number n (b - 48) 65535) else None)
next_of (Number (item n)) b = if b == 47 then Some Slash
    else (if is_digit b then item_number (longer_number n (b - 48) 4294967295) else None)

-- the text of what was read of the last step
abbrev pub reading_text : Reading → List ℕ
reading_text Start = []
reading_text Slash = codes "/"
reading_text Pointer = codes "/p"
reading_text Item = codes "/i"
reading_text (Number s) = step_text s

-- nothing was read only where there are no steps, and a number is in its range
abbrev pub IsReading : List Step → Reading → Type 0
IsReading done Start = done ≡ []
IsReading done (Number s) = IsStep s
IsReading done Slash = Unit {0}
IsReading done Pointer = Unit {0}
IsReading done Item = Unit {0}

-- The text is that of these steps and of what was read of the next.
pub record HasRead (text : List ℕ) (done : List Step) (reading : Reading) : Type 0 where
  pub are : AllByRecursion IsStep done
  pub fits : IsReading done reading
  pub encodes : text ≡ flat_map step_text done ++ reading_text reading

-- the text of steps, with one step more
pub texts-snoc : (done : List Step) (s : Step) → flat_map step_text (done ++ s ∷ []) ≡ flat_map step_text done ++ step_text s
texts-snoc done s = flat_map-append step_text done (s ∷ []) ∙ ap (λ l. flat_map step_text done ++ l) (append-nil (step_text s))

-- which is that of a path
pub path-snoc : (done : List Step) (s : Step) → path_text (done ++ s ∷ []) ≡ flat_map step_text done ++ step_text s
path-snoc [] s = ap (λ l. l) (append-nil (step_text s))
path-snoc (x ∷ done) s = texts-snoc (x ∷ done) s

pub are-snoc : (done : List Step) (s : Step) → AllByRecursion IsStep done → IsStep s → AllByRecursion IsStep (done ++ s ∷ [])
are-snoc done s a b = all_append IsStep done (s ∷ []) a (b, tt)

-- Each text that was read begins a path.
completes : (text rest : List ℕ) (done : List Step) (reading : Reading) (s : Step) → HasRead text done reading
    → IsStep s → step_text s ≡ reading_text reading ++ rest → BeginsPath text
completes text rest done reading s h fits e = search (rules, are-snoc done s h.are fits, path-snoc done s, append_assoc (flat_map step_text done) (reading_text reading) rest)

zero_text : decimal 0 ≡ 48 ∷ []
zero_text = decimal_digit 0 (omega arith)

pub read_begins : (text : List ℕ) (done : List Step) (reading : Reading) → HasRead text done reading → BeginsPath text
read_begins text done Start h =
    record {
      steps = [];
      are = tt;
      rest = codes "/";
      whole = ap (λ l. l ++ codes "/")
          (sym (h.encodes ∙ ap (λ (d : List Step). flat_map step_text d ++ []) h.fits));
    }
read_begins text done Slash h = completes text (codes "p0") done Slash (Ptr 0) h (omega arith) (ap (λ ds. 47 ∷ 112 ∷ ds) zero_text)
read_begins text done Pointer h = completes text (codes "0") done Pointer (Ptr 0) h (omega arith) (ap (λ ds. 47 ∷ 112 ∷ ds) zero_text)
read_begins text done Item h = completes text (codes "0") done Item (item 0) h (omega arith) (ap (λ ds. 47 ∷ 105 ∷ ds) zero_text)
read_begins text done (Number s) h = completes text [] done (Number s) s h h.fits (sym (append-nil (step_text s)))

-- a digit by its number
digit_is : (b : ℕ) → 48 ≤ b → b ≤ 57 → decimal (b - 48) ≡ b ∷ []
digit_is b low high = let e : 48 + (b - 48) ≡ b = omega (arith, low) in decimal_digit (b - 48) (omega (arith, low, high)) ∙ ap (λ k. k ∷ []) e

-- what a test of a digit says
digit_range : (b : ℕ) → is_digit b ≡ true → (48 ≤ b) × (b ≤ 57)
digit_range b e = (grind (arith, nat_tests), grind (arith, nat_tests))

-- a number with one more digit
digit_more : (n b : ℕ) → 0 < n → n < 2 ^ 32 → 48 ≤ b → b ≤ 57 → decimal n ++ b ∷ [] ≡ decimal (10 * n + (b - 48))
digit_more n b some few low high = search (rules, decimal_step)

-- a text with one byte more
pub encodes_more : (text before x y : List ℕ) (b : ℕ) → text ≡ before ++ x → x ++ b ∷ [] ≡ y → text ++ b ∷ [] ≡ before ++ y
encodes_more text before x y b e f = ap (λ l. l ++ b ∷ []) e ∙ append_assoc before x (b ∷ []) ∙ ap (λ l. before ++ l) f

-- a choice that gives something
chosen : {A : Type 0} (t : Bool) (x y : Option A) (z : A) → (if t then x else y) ≡ Some z → ((t ≡ true) × (x ≡ Some z)) ⊎ ((t ≡ false) × (y ≡ Some z))
chosen true x y z e = inl (refl, e)
chosen false x y z e = inr (refl, e)

is_other : (a b : ℕ) → (a == b) ≡ false → a ≢ b
is_other a b e = grind (arith, nat_tests)

-- what a longer number is
longer_is : (n digit most k : ℕ) → longer_number n digit most ≡ Some k → (0 < n) × (10 * n + digit ≤ most) × (k ≡ 10 * n + digit)
longer_is n digit most k e = search (rules, chosen, is_other, nat_tests)

-- A number begins with its first digit,
pub first_digit : (text : List ℕ) (from : ℕ) → from < length text → is_digit (get_or text from 0) ≡ true
    → (get_or text from 0 - 48 ≤ 9) × (take (from + 1) text ≡ take from text ++ decimal (get_or text from 0 - 48))
first_digit text from lt digit = search (rules, digit_range, digit_is, take_more)

-- and goes on with one digit more.
pub next_digit : (text : List ℕ) (from end n most k : ℕ) → end < length text → take end text ≡ take from text ++ decimal n
    → n ≤ most → most < 2 ^ 32 → number_with n (get_or text end 0) most ≡ Some k
    → (k ≤ most) × (take (end + 1) text ≡ take from text ++ decimal k)
next_digit text from end n most k lt e few less is =
    let b = get_or text end 0 in
    elim (chosen (is_digit b) (longer_number n (b - 48) most) None k is) [
      | inl h ↦
          let range = digit_range b h.0 in
          let longer = longer_is n (b - 48) most k h.1 in (
            omega (arith, longer.1, longer.2),
            take_more text end 0 lt
                ∙ encodes_more (take end text) (take from text) (decimal n) (decimal k) b e
                (digit_more n b longer.0 (omega (arith, few, less)) range.0 range.1 ∙ ap decimal (sym longer.2)),
          )
      | inr h ↦ let f = h.1 in absurd (cc)
    ]
