use Rattle.std.proofs.lemmas.List.Concat.{flat_map-append}
use Rattle.cap_spec.proofs.Bytes.WordBytes.{bytes_below, bytes_fit}
use Rattle.cap_spec.proofs.Frames.FrameTexts.{plain_halves}
use Rattle.cap_spec.proofs.Frames.OneEnding.{halves_fit}
use Rattle.cap_spec.proofs.Lemmas.{all_append, plain_split, bytes_back, plain_reads}
use Rattle.cap_spec.proofs.Packed.MakingGroups.{aligned_text}
use Rattle.cap_spec.proofs.ProofNames.{List, [], ap, append_assoc, arith, drop, flat_map, length, length-append, refl}
use Rattle.cap_spec.proofs.ProofNames.{suc, sym, ℕ, ◌%◌, ◌*◌, ◌++◌, ◌+◌, ◌-◌, ◌/◌, ◌<◌, ◌^◌, ◌∙◌, ◌∷◌, ◌≡◌, length-map}
use Rattle.cap_spec.proofs.ProofNames.{AllByRecursion, little_number, little_number-reads_back, Frames, halves, joined}
use Rattle.cap_spec.proofs.ProofNames.{sizes_of, plain_text, plain_words, IsWord, rules}
use Rattle.cap_laws.specs.Framing.{FramesInBytes, four_bytes}
use Rattle.cap_laws.proofs.framing.frames_by_bytes.Goals as goal

-- Frames by their bytes: numbers of four bytes each, and words of eight.
-- four bytes a number
length_four : (xs : List ℕ) → length (flat_map four_bytes xs) ≡ 4 * length xs
length_four [] = refl
length_four (x ∷ xs) = let t = length_four xs in omega arith

-- they are bytes
four_fit : (xs : List ℕ) → AllByRecursion (λ b. b < 256) (flat_map four_bytes xs)
four_fit [] = tt
four_fit (x ∷ xs) = all_append (λ b. b < 256) (four_bytes x) (flat_map four_bytes xs) (bytes_fit 0 4 x) (four_fit xs)

-- and give the numbers
four_back : (xs ys : List ℕ) → AllByRecursion (λ n. n < 2 ^ 32) xs → AllByRecursion (λ n. n < 2 ^ 32) ys
    → flat_map four_bytes xs ≡ flat_map four_bytes ys → xs ≡ ys
four_back [] [] a b e = refl
four_back (x ∷ xs) (y ∷ ys) a b e = search (rules, little_number-reads_back, four_back xs ys a.1 b.1 (ap (drop 4) e))
four_back xs ys a b e = absurd (cc)

-- Bytes as this many numbers of four bytes.
record NumbersIn (bytes : List ℕ) (count : ℕ) : Type 0 where
  numbers : List ℕ
  many : length numbers ≡ count
  fit : AllByRecursion (λ n. n < 2 ^ 32) numbers
  text : flat_map four_bytes numbers ≡ bytes

-- this many bytes are this many numbers
numbers_in : (bytes : List ℕ) (count : ℕ) → AllByRecursion (λ b. b < 256) bytes → length bytes ≡ 4 * count
    → NumbersIn bytes count
numbers_in [] count all l = record { numbers = []; many = omega arith; fit = tt; text = refl }
numbers_in (a ∷ b ∷ c ∷ d ∷ bytes) (suc count) all l =
    let t = numbers_in bytes count all.1.1.1.1 (omega arith) in
    let four : AllByRecursion (λ b. b < 256) (a ∷ b ∷ c ∷ d ∷ []) =
    (all.0, (all.1.0, (all.1.1.0, (all.1.1.1.0, tt)))) in
    let x = little_number 4 (a ∷ b ∷ c ∷ d ∷ []) in
    let w : four_bytes x ≡ a ∷ b ∷ c ∷ d ∷ [] = bytes_back (a ∷ b ∷ c ∷ d ∷ []) four in
    let below = bytes_below (a ∷ b ∷ c ∷ d ∷ []) four in
    record {
      numbers = x ∷ t.numbers;
      many = (let m = t.many in omega (arith, m));
      fit = ((omega (arith, below)), t.fit);
      text = ap (λ k. k ++ flat_map four_bytes t.numbers) w ∙ ap (λ k. a ∷ b ∷ c ∷ d ∷ k) t.text;
    }
numbers_in bytes count all l = absurd (omega arith)

-- plain texts of words give the words
plain_reports : (a b : List ℕ) → AllByRecursion IsWord a → AllByRecursion IsWord b → plain_text a ≡ plain_text b → a ≡ b
plain_reports a b p q e = sym (plain_reads a p) ∙ (ap plain_words e ∙ plain_reads b q)

-- the words of a message's segments are words
joined_fit : (m : List (List ℕ)) → AllByRecursion (AllByRecursion IsWord) m → AllByRecursion IsWord (joined m)
joined_fit [] all = tt
joined_fit (s ∷ m) all = all_append IsWord s (joined m) all.0 (joined_fit m all.1)

-- the bytes of the numbers of a table, with this many padding numbers
number_bytes : (first : ℕ) (sizes padding : List ℕ)
    → flat_map four_bytes (first ∷ (sizes ++ padding))
    ≡ four_bytes first ++ (flat_map four_bytes sizes ++ flat_map four_bytes padding)
number_bytes first sizes padding = ap (λ k. four_bytes first ++ k) (flat_map-append four_bytes sizes padding)

-- the bytes of words that frame a message do
frames_in_bytes : (words : List ℕ) (m : List (List ℕ)) → Frames words m → FramesInBytes (plain_text words) m
frames_in_bytes words m f =
    let t = f.is_table in
    let n : length (sizes_of m) ≡ length m = length-map m length in
    let some = t.some in
    let few = t.few in
    let width = t.width in
    let l = length_four t.padding in
    let first = length (sizes_of m) - 1 in
    let contents = plain_text (joined m) in
    let pad = flat_map four_bytes t.padding in
    let body = flat_map four_bytes (sizes_of m) in
    let table : plain_text f.table ≡ four_bytes first ++ (body ++ pad) =
    plain_halves f.table ∙ (ap (flat_map four_bytes) t.numbers ∙ number_bytes first (sizes_of m) t.padding) in
    search (rules, flat_map-append, four_fit, append_assoc)

-- words whose bytes frame a message do
bytes_frame : (words : List ℕ) (m : List (List ℕ)) → AllByRecursion IsWord words
    → AllByRecursion (AllByRecursion IsWord) m → FramesInBytes (plain_text words) m → Frames words m
bytes_frame words m all contents_fit g =
    let n : length (sizes_of m) ≡ length m = length-map m length in
    let some = g.some in
    let few = g.few in
    let width = g.width in
    let first = length m - 1 in
    let contents = plain_text (joined m) in
    let body = flat_map four_bytes (sizes_of m) in
    let front = four_bytes first ++ (body ++ g.padding) in
    let a : length front ≡ 4 + length (body ++ g.padding) = length-append (four_bytes first) (body ++ g.padding) in
    let b = length-append body g.padding in
    let c = length_four (sizes_of m) in
    let l : length front ≡ 8 * (length m / 2 + 1) = omega (arith, a, b, c, n, width) in
    let bytes : AllByRecursion (λ x. x < 256) front =
    search (rules, all_append, bytes_fit, four_fit) in
    let table = plain_words front in
    let text : plain_text table ≡ front = aligned_text (length m / 2 + 1) front bytes l in
    let table_fit = (plain_split front bytes).are_words in
    let pad = numbers_in g.padding ((1 + length m) % 2) g.are_bytes width in
    let many = pad.many in
    let first_fits : length (sizes_of m) - 1 < 2 ^ 32 = omega (arith, few, n) in
    let same : first ≡ length (sizes_of m) - 1 = ap (λ k. k - 1) (sym n) in
    let numbers : flat_map four_bytes (flat_map halves table)
    ≡ flat_map four_bytes ((length (sizes_of m) - 1) ∷ (sizes_of m ++ pad.numbers)) =
    sym (plain_halves table) ∙ ((search (rules, number_bytes))) in
    let split : plain_text words ≡ plain_text (table ++ joined m) =
    g.whole ∙ ((search (rules, append_assoc, flat_map-append))) in
    record {
      table = table;
      is_table = record {
        some = omega (arith, some, n);
        few = omega (arith, few, n);
        fit = g.fit;
        padding = pad.numbers;
        padding_fits = pad.fit;
        width = omega (arith, many, n);
        numbers = four_back (flat_map halves table) ((length (sizes_of m) - 1) ∷ (sizes_of m ++ pad.numbers))
            (halves_fit table table_fit)
            (first_fits, all_append (λ k. k < 2 ^ 32) (sizes_of m) pad.numbers g.fit pad.fit) numbers;
      };
      whole = search (rules, plain_reports, all_append, joined_fit);
    }

pub returns : goal.returns
returns c = λ words m all words_fit. (frames_in_bytes words m, bytes_frame words m all words_fit)
