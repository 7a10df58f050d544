-- What the table before bytes gives, and what each answer to it says of the bytes.
use Rattle.std.proofs.lemmas.List.Concat.{flat_map-append}
use Rattle.cap_spec.proofs.Bytes.Plain.{plain_cut_short}
use Rattle.cap_spec.proofs.Frames.OneEnding.{makes_table}
use Rattle.cap_spec.proofs.Lemmas.{all_take, plain_short, plain_split, length_halves, table_length}
use Rattle.cap_spec.proofs.ProofNames.{List, [], ap, append_assoc, arith, drop, flat_map, length, length-append}
use Rattle.cap_spec.proofs.ProofNames.{length-drop, length-take-le, refl, subst, suc, sum, sym, take, take-append-drop, ℕ}
use Rattle.cap_spec.proofs.ProofNames.{◌%◌, ◌*◌, ◌++◌, ◌+◌, ◌/◌, ◌<◌, ◌^◌, ◌∙◌, ◌∷◌, ◌≡◌, ◌≤◌, take-append-le}
use Rattle.cap_spec.proofs.ProofNames.{AllByRecursion, little_number, GivesTooMuch, IsPartial, IsTable, halves}
use Rattle.cap_spec.proofs.ProofNames.{in_contents, in_table, joined, sizes_of, plain_is_cut, plain_words, IsWord}
use Rattle.cap_spec.proofs.ProofNames.{rules}
use Rattle.cap_frame.specs.Fronts.{Needs, a_frame, a_table}
use Rattle.cap_frame.specs.FrameNames.{cut, IsFront, GivesLarge, GivesMany, sizes_given, table_words}
use Rattle.cap_frame.proofs.Cuts.{words_all, words_inside}
use Rattle.cap_frame.proofs.Halves.{first_half}
use Rattle.cap_frame.proofs.InOneBuffer.{held_joined, held_sizes}
use Rattle.cap_frame.proofs.Parts.{drop_words, take_words}

-- The words of bytes have a first one, whose low half is this number.
pub record Begins (bs : List ℕ) (last : ℕ) : Type 0 where
  pub first : ℕ
  pub more : List ℕ
  pub words : plain_words bs ≡ first ∷ more
  pub last_is : first % 2 ^ 32 ≡ last

-- words that are there have a first one
begins_some : (bs ws : List ℕ) → AllByRecursion (λ b. b < 256) bs → plain_words bs ≡ ws → 0 < length ws → Begins bs (little_number 4 bs)
begins_some bs [] all e l = absurd (omega (arith, l))
begins_some bs (first ∷ more) all e l = record { first = first; more = more; words = e; last_is = first_half bs first more all e }

pub begins : (bs : List ℕ) → AllByRecursion (λ b. b < 256) bs → 8 ≤ length bs → Begins bs (little_number 4 bs)
begins bs all l = begins_some bs (plain_words bs) all refl (omega (arith, words_all bs, l))

-- fewer bytes than a word has begin a frame
pub no_first : (bs : List ℕ) (limit : ℕ) → 0 < length bs → length bs < 8 → IsPartial limit (plain_words bs) (plain_is_cut bs) × Needs (plain_words bs) 8
    × (length bs < 8) × (8 ≤ 8 * limit + 2056)
no_first bs limit some few = search (rules, plain_short, plain_cut_short)

-- the first word gives too many
pub gives_many : (bs : List ℕ) (last count : ℕ) → Begins bs last → 512 ≤ last → count ≡ last + 1 → GivesMany bs count
gives_many bs last count b l e =
    (record { first = b.first; rest = b.more; whole = b.words; many = omega (arith, b.last_is, l) }, omega (arith, b.last_is, e))

-- the table isn't whole
pub no_table : (bs : List ℕ) (limit last needed : ℕ) → Begins bs last → last < 512 → needed ≡ 8 * table_words (last + 1) → length bs < needed
    → IsPartial limit (plain_words bs) (plain_is_cut bs) × Needs (plain_words bs) needed × (length bs < needed) × (needed ≤ 8 * limit + 2056)
no_table bs limit last needed b few e l =
    let count : b.first % 2 ^ 32 + 1 ≡ last + 1 = ap (λ n. n + 1) b.last_is in
    let short : length b.more < (b.first % 2 ^ 32 + 1) / 2 = omega (arith, words_inside bs, ap length b.words, count, e, l) in (
      in_table b.first b.more b.words (omega (arith, b.last_is, few)) short,
      a_table b.first b.more b.words short (e ∙ ap (λ n. 8 * table_words n) (sym count)),
      l,
      omega (arith, e, few),
    )

-- The table before bytes, of this many segments.
pub record HasTable (bs : List ℕ) (count : ℕ) : Type 0 where
  pub whole : plain_words bs ≡ take (table_words count) (plain_words bs) ++ plain_words (drop (8 * table_words count) bs)
  pub long : length (take (table_words count) (plain_words bs)) ≡ table_words count
  pub is_table : IsTable (take (table_words count) (plain_words bs)) (sizes_given count (plain_words bs))

-- the words after the first give the sizes, as far as the table goes
sizes_front : (count first : ℕ) (more : List ℕ) → count / 2 ≤ length more
    → take count (first / 2 ^ 32 ∷ flat_map halves (take (count / 2) more)) ≡ sizes_given count (first ∷ more)
sizes_front count first more l = search (
  rules,
  length_halves (take (count / 2) more),
  length-take-le (count / 2) more l,
  flat_map-append halves (take (count / 2) more) (drop (count / 2) more),
  take-append-drop (count / 2) more,
  take-append-le,
)

pub has_table : (bs : List ℕ) (last count : ℕ) → AllByRecursion (λ b. b < 256) bs → Begins bs last → last < 512 → count ≡ last + 1
    → 8 * table_words count ≤ length bs → HasTable bs count
has_table bs last count all b few e inside =
    let words = plain_words bs in
    let many : b.first % 2 ^ 32 + 1 ≡ count = ap (λ n. n + 1) b.last_is ∙ sym e in
    let capacity : count / 2 ≤ length b.more = omega (arith, words_all bs, ap length b.words, inside) in
    let next : count / 2 + 1 ≡ suc (count / 2) = omega arith in
    let front : take (table_words count) words ≡ b.first ∷ take (count / 2) b.more = ap (take (table_words count)) b.words
    ∙ ap (λ n. take n (b.first ∷ b.more)) next in
    let fit : AllByRecursion IsWord (b.first ∷ b.more) = subst (AllByRecursion IsWord) b.words (plain_split bs all).are_words in
    let sizes : take (b.first % 2 ^ 32 + 1) (b.first / 2 ^ 32 ∷ flat_map halves (take (count / 2) b.more)) ≡ sizes_given count words =
    ap (λ n. take n (b.first / 2 ^ 32 ∷ flat_map halves (take (count / 2) b.more))) many
    ∙ (sizes_front count b.first b.more capacity ∙ ap (sizes_given count) (sym b.words)) in
    let half : length (take (count / 2) b.more) ≡ (b.first % 2 ^ 32 + 1) / 2 = length-take-le (count / 2) b.more capacity ∙ ap (λ n. n / 2) (sym many) in
    let made = makes_table b.first (take (count / 2) b.more) (fit.0, all_take IsWord (count / 2) b.more fit.1) (omega (arith, b.last_is, few)) half in
    record {
      whole = sym (take-append-drop (table_words count) words) ∙ ap (λ ws. take (table_words count) words ++ ws) (drop_words (table_words count) bs);
      long = length-take-le (table_words count) words (omega (arith, words_all bs, inside));
      is_table = subst (λ t. IsTable t (sizes_given count words)) (sym front) (subst (IsTable (b.first ∷ take (count / 2) b.more)) sizes made);
    }

-- its sizes are past the limit
pub gives_large : (bs : List ℕ) (limit count words : ℕ) → HasTable bs count → words ≡ sum (sizes_given count (plain_words bs)) → limit < words
    → GivesLarge limit bs words
gives_large bs limit count words t e l =
    let reports : GivesTooMuch limit (plain_words bs) = record {
      table = take (table_words count) (plain_words bs);
      rest = plain_words (drop (8 * table_words count) bs);
      sizes = sizes_given count (plain_words bs);
      whole = t.whole;
      is_table = t.is_table;
      past = omega (arith, e, l);
    } in
    (reports, e)

-- the contents aren't whole
pub no_contents : (bs : List ℕ) (limit count words needed : ℕ) → HasTable bs count → words ≡ sum (sizes_given count (plain_words bs)) → words ≤ limit
    → needed ≡ 8 * (table_words count + words) → length bs < needed
    → IsPartial limit (plain_words bs) (plain_is_cut bs) × Needs (plain_words bs) needed × (length bs < needed) × (needed ≤ 8 * limit + 2056)
no_contents bs limit count words needed t e within w l =
    let sizes = sizes_given count (plain_words bs) in
    let table = take (table_words count) (plain_words bs) in
    let rest = plain_words (drop (8 * table_words count) bs) in
    let segments : length sizes ≤ 512 = t.is_table.few in
    let few : length rest < sum sizes = omega (arith, words_inside bs, ap length t.whole, length-append table rest, t.long, e, w, l) in (
      in_contents table sizes rest t.whole t.is_table (subst (λ n. n ≤ limit) e within) few,
      a_frame table sizes rest t.whole t.is_table (w ∙ (ap (λ n. 8 * (n + words)) (sym t.long) ∙ ap (λ n. 8 * (length table + n)) e)),
      l,
      omega (arith, w, within, t.long, table_length table sizes t.is_table, segments),
    )

-- the contents are whole
pub is_front : (bs : List ℕ) (limit count words : ℕ) → HasTable bs count → words ≡ sum (sizes_given count (plain_words bs)) → words ≤ limit
    → 8 * (table_words count + words) ≤ length bs
    → IsFront limit bs (cut (sizes_given count (plain_words bs)) (drop (8 * table_words count) bs)) (8 * (table_words count + words))
is_front bs limit count words t e within inside =
    let sizes = sizes_given count (plain_words bs) in
    let table = take (table_words count) (plain_words bs) in
    let after = drop (8 * table_words count) bs in
    let m = cut sizes after in
    let enough : 8 * sum sizes ≤ length after = omega (arith, length-drop (8 * table_words count) bs, e, inside) in
    let same : sizes_of m ≡ sizes = held_sizes sizes after enough in
    let contents : plain_words after ≡ joined m ++ drop (sum sizes) (plain_words after) =
    sym (take-append-drop (sum sizes) (plain_words after))
    ∙ ap (λ ws. ws ++ drop (sum sizes) (plain_words after)) (take_words (sum sizes) after ∙ sym (held_joined sizes after enough)) in
    let front : length (take (8 * sum sizes) after) ≡ 8 * sum sizes = length-take-le (8 * sum sizes) after enough in
    let size : length (joined m) ≡ words =
    ap length (held_joined sizes after enough) ∙ omega (
      arith,
      words_inside (take (8 * sum sizes) after),
      words_all (take (8 * sum sizes) after),
      front,
      e,
    ) in
    record {
      own = table ++ joined m;
      rest = drop (sum sizes) (plain_words after);
      words = t.whole ∙ (ap (λ ws. table ++ ws) contents ∙ sym (append_assoc table (joined m) (drop (sum sizes) (plain_words after))));
      frames = record { table = table; is_table = subst (IsTable table) (sym same) t.is_table; whole = refl };
      within = subst (λ n. n ≤ limit) (e ∙ ap sum (sym same)) within;
      long = ap (λ n. 8 * n) (omega (arith, length-append table (joined m), t.long, size));
    }
