-- Marks in the lines of a text, by its pieces.
use Rattle.std.proofs.Common.{Bool, List, None, Option, Some, [], ap, arith, drop, false, flat_map, get_or, if◌then◌else◌, inl, inr, length, nat_lt, refl, subst, suc, sym}
use Rattle.std.proofs.Common.{take, true, zero, ℕ, ◌++◌, ◌+◌, ◌<◌, ◌==◌, ◌||◌, ◌∙◌, ◌∷◌, ◌≡◌, ◌≤◌}
use Rattle.std.specs.Io.KnownBytes.{Appends, Keeps}
use Rattle.std.proofs.lemmas.Bool.{and_from, and_parts, cases_order, ltb-false, ltb-true, eq-eqb, eqb-true, le-ltb, lt-ltb, ne_eqb, or_left, or_right}
use Rattle.std.proofs.lemmas.List.{append-nil, append_assoc}
use Rattle.std.proofs.lemmas.Slice.Eq.{bytes_eq-Decides}
use Rattle.cap_spec.proofs.ProofNames.{length-take-le, take-add, take_all, take_rest, ◌-◌}
use Rattle.cap_cmd.specs.Marking.{IsPiece, column_after, is_marked, mark_at, mark_length, mark_name, next_column, shown_text, shown_if, shown_of}
use Rattle.cap_cmd.specs.Marking.{text_lines, marked_line, marked_text, with_byte, with_marks, without_marks}

-- a text in two parts
marks_append : (place : ℕ) (mark : List ℕ) (column : ℕ) (a b : List ℕ)
    → with_marks place mark column (a ++ b) ≡ with_marks place mark column a ++ with_marks place mark (column_after place column a) b
marks_append place mark column [] b = refl
marks_append place mark column (x ∷ a) b =
    let next = next_column place column x in
    ap (λ (t : List ℕ). mark_at place mark column ++ (x ∷ t)) (marks_append place mark next a b)
    ∙ sym (append_assoc (mark_at place mark column) (x ∷ with_marks place mark next a) (with_marks place mark (column_after place next a) b))

columns_append : (place column : ℕ) (a b : List ℕ) → column_after place column (a ++ b) ≡ column_after place (column_after place column a) b
columns_append place column [] b = refl
columns_append place column (x ∷ a) b = columns_append place (next_column place column x) a b

-- bytes of a mark are left out
skip_mark : (place n column : ℕ) (xs ys : List ℕ) → without_marks place n column (length xs) (xs ++ ys) ≡ without_marks place n column 0 ys
skip_mark place n column [] ys = refl
skip_mark place n column (x ∷ xs) ys = skip_mark place n column xs ys

skip_all : (place n column left : ℕ) (xs : List ℕ) → length xs ≤ left → without_marks place n column left xs ≡ []
skip_all place n column zero [] few = refl
skip_all place n column (suc left) [] few = refl
skip_all place n column zero (x ∷ xs) few = absurd (omega (arith, few))
skip_all place n column (suc left) (x ∷ xs) few = skip_all place n column left xs (omega (arith, few))

at_end : (b : Bool) (place column done : ℕ) (mark : List ℕ) → done ≤ length mark → (b || (done == 0)) ≡ true
    → without_marks place (length mark) column (if b then length mark else 0) (take done mark) ≡ []
at_end true place column done mark within pending =
    skip_all place (length mark) column (length mark) (take done mark) (omega (arith, length-take-le done mark within, within))
at_end false place column done mark within pending =
    ap (λ (d : ℕ). without_marks place (length mark) column 0 (take d mark)) (eqb-true done 0 pending)

at_byte : (b : Bool) (place column : ℕ) (mark ys : List ℕ)
    → without_marks place (length mark) column (if b then length mark else 0) ((if b then mark else []) ++ ys)
    ≡ without_marks place (length mark) column 0 ys
at_byte true place column mark ys = skip_mark place (length mark) column mark ys
at_byte false place column mark ys = refl

-- a text is found again in its marked form
unmarked : (place : ℕ) (mark : List ℕ) (column : ℕ) (text : List ℕ) (done : ℕ) → done ≤ length mark
    → ((column_after place column text == place) || (done == 0)) ≡ true
    → without_marks place (length mark) column (mark_length place (length mark) column) (with_marks place mark column text ++ take done mark) ≡ text
unmarked place mark column [] done within pending = at_end (column == place) place column done mark within pending
unmarked place mark column (x ∷ text) done within pending =
    let next = next_column place column x in
    let rest = with_marks place mark next text ++ take done mark in
    ap (λ (t : List ℕ). without_marks place (length mark) column (mark_length place (length mark) column) t)
    (append_assoc (mark_at place mark column) (x ∷ with_marks place mark next text) (take done mark))
    ∙ at_byte (column == place) place column mark (x ∷ rest)
    ∙ ap (λ (t : List ℕ). x ∷ t) (unmarked place mark next text done within pending)

-- bytes that a mark and a text make
pub record IsShown (place : ℕ) (mark : List ℕ) (column done : ℕ) (bytes shown_text : List ℕ) : Type 0 where
  pub text : List ℕ
  pub bytes_are : bytes ≡ with_marks place mark 0 text ++ take done mark
  pub column_is : column_after place 0 text ≡ column
  pub pending : ((column == place) || (done == 0)) ≡ true
  pub shown_is : shown_text ≡ mark_name place mark ++ text

pub shown_made : (place : ℕ) (mark : List ℕ) (column done : ℕ) (text : List ℕ) → done ≤ length mark
    → column_after place 0 text ≡ column → ((column == place) || (done == 0)) ≡ true
    → shown_text place mark column done (Some (with_marks place mark 0 text ++ take done mark)) ≡ Some (mark_name place mark ++ text)
shown_made place mark column done text within at pending =
    let bytes = with_marks place mark 0 text ++ take done mark in
    let ends : ((column_after place 0 text == place) || (done == 0)) ≡ true = subst (λ (c : ℕ). ((c == place) || (done == 0)) ≡ true) (sym at) pending in
    let found = unmarked place mark 0 text done within ends in
    let holds : is_marked place mark column done text bytes ≡ true =
    and_from _ _ ((bytes_eq-Decides bytes bytes).1 refl) (and_from _ _ (eq-eqb (column_after place 0 text) column at) pending) in
    ap (λ (t : List ℕ). shown_of place mark column done t bytes) found ∙ ap (λ (b : Bool). shown_if b place mark text) holds

some_same : {A : Type 0} (a b : A) → Some a ≡ Some b → a ≡ b
some_same a b e = grind (arith, e)

shown_by : (b : Bool) (place : ℕ) (mark : List ℕ) (column done : ℕ) (text bytes w : List ℕ) → is_marked place mark column done text bytes ≡ b
    → shown_if b place mark text ≡ Some w → IsShown place mark column done bytes w
shown_by true place mark column done text bytes w holds e =
    let parts = and_parts _ _ holds in
    let more = and_parts _ _ parts.1 in
    record {
      text = text;
      bytes_are = sym ((bytes_eq-Decides (with_marks place mark 0 text ++ take done mark) bytes).0 parts.0);
      column_is = eqb-true (column_after place 0 text) column more.0;
      pending = more.1;
      shown_is = sym (some_same _ _ e);
    }
shown_by false place mark column done text bytes w holds e = absurd (grind (arith, e))

pub shown_some : (place : ℕ) (mark : List ℕ) (column done : ℕ) (bytes w : List ℕ) → shown_text place mark column done (Some bytes) ≡ Some w
    → IsShown place mark column done bytes w
shown_some place mark column done bytes w e =
    let text = without_marks place (length mark) 0 (mark_length place (length mark) 0) bytes in
    shown_by (is_marked place mark column done text bytes) place mark column done text bytes w refl e

-- a piece that follows what was shown, with the end of the mark in front of it if it has one
pub piece_shown : (place : ℕ) (mark : List ℕ) (column done : ℕ) (a b : Option (List ℕ)) (piece : List ℕ)
    → (((column == place) || (done == 0)) ≡ true → with_marks place mark column piece ≡ take done mark ++ piece)
    → Appends a b piece
    → Appends (shown_text place mark column done a) (shown_text place mark (column_after place column piece) 0 b) piece
piece_shown place mark column done None b piece puts grown = tt
piece_shown place mark column done (Some xs) None piece puts grown = absurd grown
piece_shown place mark column done (Some xs) (Some ys) piece puts grown = of (shown_text place mark column done (Some xs)) refl
  where
    made : (w : List ℕ) → IsShown place mark column done xs w → shown_text place mark (column_after place column piece) 0 (Some ys) ≡ Some (w ++ piece)
    made w t =
        let name = mark_name place mark in
        let puts_it = puts t.pending in
        let all : with_marks place mark 0 (t.text ++ piece) ++ take 0 mark ≡ ys =
        append-nil _ ∙ marks_append place mark 0 t.text piece
        ∙ ap (λ (c : ℕ). with_marks place mark 0 t.text ++ with_marks place mark c piece) t.column_is
        ∙ ap (λ (l : List ℕ). with_marks place mark 0 t.text ++ l) puts_it
        ∙ sym (append_assoc (with_marks place mark 0 t.text) (take done mark) piece)
        ∙ ap (λ (l : List ℕ). l ++ piece) (sym t.bytes_are) ∙ sym grown in
        let at : column_after place 0 (t.text ++ piece) ≡ column_after place column piece =
        columns_append place 0 t.text piece ∙ ap (λ (c : ℕ). column_after place c piece) t.column_is in
        ap (λ (l : List ℕ). shown_text place mark (column_after place column piece) 0 (Some l)) (sym all)
        ∙ shown_made place mark (column_after place column piece) 0 (t.text ++ piece) (omega arith) at (or_right _ _ refl)
        ∙ ap Some (sym (append_assoc name t.text piece) ∙ ap (λ (l : List ℕ). l ++ piece) (sym t.shown_is))

    of : (o : Option (List ℕ)) → shown_text place mark column done (Some xs) ≡ o
        → Appends o (shown_text place mark (column_after place column piece) 0 (Some ys)) piece
    of None e = tt
    of (Some w) e = subst (λ (o : Option (List ℕ)). Appends (Some w) o piece) (sym (made w (shown_some place mark column done xs w e))) refl

-- more of a mark
pub mark_shown : (place : ℕ) (mark : List ℕ) (column done n : ℕ) (a b : Option (List ℕ)) → column ≡ place → done + n ≤ length mark
    → Appends a b (take n (drop done mark))
    → Keeps (shown_text place mark column done a) (shown_text place mark column (done + n) b)
mark_shown place mark column done n None b at within grown = tt
mark_shown place mark column done n (Some xs) None at within grown = absurd grown
mark_shown place mark column done n (Some xs) (Some ys) at within grown = of (shown_text place mark column done (Some xs)) refl
  where
    made : (w : List ℕ) → IsShown place mark column done xs w → shown_text place mark column (done + n) (Some ys) ≡ Some w
    made w t =
        let all : with_marks place mark 0 t.text ++ take (done + n) mark ≡ ys =
        ap (λ (l : List ℕ). with_marks place mark 0 t.text ++ l) (take-add done n mark)
        ∙ sym (append_assoc (with_marks place mark 0 t.text) (take done mark) (take n (drop done mark)))
        ∙ ap (λ (l : List ℕ). l ++ take n (drop done mark)) (sym t.bytes_are) ∙ sym grown in
        ap (λ (l : List ℕ). shown_text place mark column (done + n) (Some l)) (sym all)
        ∙ shown_made place mark column (done + n) t.text within t.column_is (or_left _ _ (eq-eqb column place at))
        ∙ ap Some (sym t.shown_is)

    of : (o : Option (List ℕ)) → shown_text place mark column done (Some xs) ≡ o → Keeps o (shown_text place mark column (done + n) (Some ys))
    of None e = tt
    of (Some w) e = subst (λ (o : Option (List ℕ)). Keeps (Some w) o) (sym (made w (shown_some place mark column done xs w e))) refl

-- the column after a byte that is no line feed
next_within : (place column x : ℕ) → (x == 10) ≡ false → next_column place column x ≡ (if nat_lt place column then column else suc column)
next_within place column x other = ap (λ (b : Bool). if b then 0 else (if nat_lt place column then column else suc column)) other

-- bytes of a line after its mark
pub after_mark : (place : ℕ) (mark : List ℕ) (column : ℕ) (xs : List ℕ) (b : ℕ) → place < column → IsPiece xs
    → (with_marks place mark column (xs ++ b ∷ []) ≡ xs ++ b ∷ []) × (column_after place column (xs ++ b ∷ []) ≡ next_column place column b)
after_mark place mark column [] b past piece =
    let none : mark_at place mark column ≡ [] = ap (λ (t : Bool). if t then mark else []) (ne_eqb column place (λ e. omega (arith, e, past))) in
    (ap (λ (l : List ℕ). l ++ (b ∷ [])) none, refl)
after_mark place mark column (x ∷ xs) b past piece =
    let none : mark_at place mark column ≡ [] = ap (λ (t : Bool). if t then mark else []) (ne_eqb column place (λ e. omega (arith, e, past))) in
    let next : next_column place column x ≡ column =
    next_within place column x piece.0 ∙ ap (λ (t : Bool). if t then column else suc column) (lt-ltb place column past) in
    let rest = after_mark place mark column xs b past piece.1 in (
      ap (λ (l : List ℕ). l ++ (x ∷ with_marks place mark (next_column place column x) (xs ++ b ∷ []))) none
          ∙ ap (λ (c : ℕ). x ∷ with_marks place mark c (xs ++ b ∷ [])) next ∙ ap (λ (l : List ℕ). x ∷ l) rest.0,
      ap (λ (c : ℕ). column_after place c (xs ++ b ∷ [])) next ∙ rest.1,
    )

-- a byte before the mark
pub before_mark : (place : ℕ) (mark : List ℕ) (column b : ℕ) → (column ≡ place → ⊥) → with_marks place mark column (b ∷ []) ≡ b ∷ []
before_mark place mark column b other =
    ap (λ (t : Bool). (if t then mark else []) ++ (b ∷ [])) (ne_eqb column place other)

-- bytes of a line from the mark on
pub at_mark : (place : ℕ) (mark : List ℕ) (xs : List ℕ) (b : ℕ) → IsPiece xs
    → (with_marks place mark place (xs ++ b ∷ []) ≡ mark ++ (xs ++ b ∷ [])) × (column_after place place (xs ++ b ∷ []) ≡ next_column place place b)
at_mark place mark [] b piece = (ap (λ (t : Bool). (if t then mark else []) ++ (b ∷ [])) (eq-eqb place place refl), refl)
at_mark place mark (x ∷ xs) b piece =
    let whole : mark_at place mark place ≡ mark = ap (λ (t : Bool). if t then mark else []) (eq-eqb place place refl) in
    let over : (if nat_lt place place then place else suc place) ≡ suc place =
    ap (λ (t : Bool). if t then place else suc place) (le-ltb place place (omega arith)) in
    let next : next_column place place x ≡ suc place = next_within place place x piece.0 ∙ over in
    let later : (if nat_lt place (suc place) then suc place else suc (suc place)) ≡ suc place =
    ap (λ (t : Bool). if t then suc place else suc (suc place)) (lt-ltb place (suc place) (omega arith)) in
    let rest = after_mark place mark (suc place) xs b (omega arith) piece.1 in (
      ap (λ (l : List ℕ). l ++ (x ∷ with_marks place mark (next_column place place x) (xs ++ b ∷ []))) whole
          ∙ ap (λ (c : ℕ). mark ++ (x ∷ with_marks place mark c (xs ++ b ∷ []))) next ∙ ap (λ (l : List ℕ). mark ++ (x ∷ l)) rest.0,
      ap (λ (c : ℕ). column_after place c (xs ++ b ∷ [])) next ∙ rest.1
          ∙ ap (λ (n : ℕ). if b == 10 then 0 else n) (later ∙ sym over),
    )

-- a beginning of bytes without a line feed
pub piece_front : (xs : List ℕ) (m n : ℕ) → n ≤ m → IsPiece (take m xs) → IsPiece (take n xs)
piece_front xs m zero few piece = tt
piece_front [] m (suc n) few piece = tt
piece_front (x ∷ xs) zero (suc n) few piece = absurd (omega (arith, few))
piece_front (x ∷ xs) (suc m) (suc n) few piece = (piece.0, piece_front xs m n (omega (arith, few)) piece.1)

-- one byte more
pub piece_more : (xs : List ℕ) (n : ℕ) → n < length xs → (get_or xs n 0 == 10) ≡ false → IsPiece (take n xs) → IsPiece (take (suc n) xs)
piece_more [] n inside other piece = absurd (omega (arith, inside))
piece_more (x ∷ xs) zero inside other piece = (other, tt)
piece_more (x ∷ xs) (suc n) inside other piece = (piece.0, piece_more xs n (omega (arith, inside)) other piece.1)

-- some bytes and the next
pub take_next : (xs : List ℕ) (n : ℕ) → n < length xs → take (suc n) xs ≡ take n xs ++ (get_or xs n 0 ∷ [])
take_next [] n inside = absurd (omega (arith, inside))
take_next (x ∷ xs) zero inside = refl
take_next (x ∷ xs) (suc n) inside = ap (λ (l : List ℕ). x ∷ l) (take_next xs n (omega (arith, inside)))

-- more of a mark, by how a write was asked for the rest of it
pub more_shown : (place : ℕ) (mark : List ℕ) (column done n : ℕ) (a b : Option (List ℕ)) (before : Option (List ℕ)) → column ≡ place → done + n ≤ length mark
    → Keeps before (shown_text place mark column done a)
    → Appends a b (take n (take (length mark - done) (drop done mark)))
    → Keeps before (shown_text place mark column (done + n) b)
more_shown place mark column done n a b before at within kept grown =
    kept_on before _ _ kept (mark_shown place mark column done n a b at within (subst (λ (l : List ℕ). Appends a b (take n l)) (take_rest mark done) grown))
  where
    kept_on : (a b c : Option (List ℕ)) → Keeps a b → Keeps b c → Keeps a c
    kept_on None b c p q = tt
    kept_on (Some x) None c p q = absurd p
    kept_on (Some x) (Some y) None p q = absurd q
    kept_on (Some x) (Some y) (Some z) p q = q ∙ p

-- known bytes that stayed, and then grew
pub kept_then : (a b c : Option (List ℕ)) (piece : List ℕ) → Keeps a b → Appends b c piece → Appends a c piece
kept_then None b c piece p q = tt
kept_then (Some x) None c piece p q = absurd p
kept_then (Some x) (Some y) None piece p q = absurd q
kept_then (Some x) (Some y) (Some z) piece p q = q ∙ ap (λ (l : List ℕ). l ++ piece) p

-- no byte of a mark is left where none comes
none_left : (column place done : ℕ) → (column ≡ place → ⊥) → ((column == place) || (done == 0)) ≡ true → done ≡ 0
none_left column place done other pending =
    eqb-true done 0 (subst (λ (b : Bool). (b || (done == 0)) ≡ true) (ne_eqb column place other) pending)

-- the same of bytes and the last of them
last_shown : (place : ℕ) (mark : List ℕ) (column done : ℕ) (xs : List ℕ) (last : ℕ)
    → (column ≡ place → done ≡ length mark) → (column < place → xs ≡ []) → (place ≤ column → IsPiece xs)
    → ((((column == place) || (done == 0)) ≡ true → with_marks place mark column (xs ++ last ∷ []) ≡ take done mark ++ (xs ++ last ∷ [])))
    × (column_after place column (xs ++ last ∷ []) ≡ next_column place column last)
last_shown place mark column done xs last whole one piece = elim (cases_order column place) [
  | inl same ↦
      let here = at_mark place mark xs last (piece (omega (arith, same))) in (
        λ pending. ap (λ (c : ℕ). with_marks place mark c (xs ++ last ∷ [])) same ∙ here.0
            ∙ ap (λ (l : List ℕ). l ++ (xs ++ last ∷ [])) (sym (ap (λ (d : ℕ). take d mark) (whole same) ∙ take_all (length mark) mark (omega arith))),
        ap (λ (c : ℕ). column_after place c (xs ++ last ∷ [])) same ∙ here.1 ∙ ap (λ (c : ℕ). next_column place c last) (sym same),
      )
  | inr (inl below) ↦
      let alone : xs ++ last ∷ [] ≡ last ∷ [] = ap (λ (l : List ℕ). l ++ last ∷ []) (one below) in
      let other : column ≡ place → ⊥ = λ e. omega (arith, below, e) in (
        λ pending. ap (λ (l : List ℕ). with_marks place mark column l) alone ∙ before_mark place mark column last other ∙ sym alone
            ∙ ap (λ (d : ℕ). take d mark ++ (xs ++ last ∷ [])) (sym (none_left column place done other pending)),
        ap (λ (l : List ℕ). column_after place column l) alone,
      )
  | inr (inr above) ↦
      let here = after_mark place mark column xs last above (piece (omega (arith, above))) in (
        λ pending. here.0
            ∙ ap (λ (d : ℕ). take d mark ++ (xs ++ last ∷ [])) (sym (none_left column place done (λ e. omega (arith, above, e)) pending)),
        here.1,
      )
]

-- what a write took of a piece
pub body_shown : (place : ℕ) (mark : List ℕ) (column done next most count : ℕ) (buf : List ℕ) (a b : Option (List ℕ))
    → 0 < count → count ≤ most → most ≤ length buf
    → (column ≡ place → done ≡ length mark) → (column < place → most ≡ 1)
    → (place ≤ column → (n : ℕ) → n < most → IsPiece (take n buf))
    → next ≡ next_column place column (get_or buf (count - 1) 0)
    → Appends a b (take count buf)
    → Appends (shown_text place mark column done a) (shown_text place mark next 0 b) (take count buf)
body_shown place mark column done next most count buf a b some within inside whole one pieces is_next grown =
    let xs = take (count - 1) buf in
    let last = get_or buf (count - 1) 0 in
    let counted : suc (count - 1) ≡ count = omega (arith, some) in
    let split : take count buf ≡ xs ++ last ∷ [] = ap (λ (n : ℕ). take n buf) (sym counted) ∙ take_next buf (count - 1) (omega (arith, some, within, inside)) in
    let alone : column < place → xs ≡ [] = λ below.
    let none : count - 1 ≡ 0 = omega (arith, one below, within) in ap (λ (n : ℕ). take n buf) none in
    let puts = last_shown place mark column done xs last whole alone (λ past. pieces past (count - 1) (omega (arith, some, within))) in
    subst (λ (l : List ℕ). Appends (shown_text place mark column done a) (shown_text place mark next 0 b) l) (sym split)
    (subst (λ (n : ℕ). Appends (shown_text place mark column done a) (shown_text place mark n 0 b) (xs ++ last ∷ [])) (puts.1 ∙ sym is_next)
    (piece_shown place mark column done a b (xs ++ last ∷ []) puts.0 (subst (λ (l : List ℕ). Appends a b l) split grown)))

-- bytes that stay
pub kept_same : (a : Option (List ℕ)) → Keeps a a
kept_same None = tt
kept_same (Some x) = refl

-- a beginning of a beginning
pub take_front : (n m : ℕ) (xs : List ℕ) → n ≤ m → take n (take m xs) ≡ take n xs
take_front zero m xs few = refl
take_front (suc n) zero xs few = absurd (omega (arith, few))
take_front (suc n) (suc m) [] few = refl
take_front (suc n) (suc m) (x ∷ xs) few = ap (λ (l : List ℕ). x ∷ l) (take_front n m xs (omega (arith, few)))

-- two lists that are equal, in parts of one length
cons_same : (x y : ℕ) (a b : List ℕ) → x ∷ a ≡ y ∷ b → (x ≡ y) × (a ≡ b)
cons_same x y a b e = (grind (arith, e), grind (arith, e))

append_same : (a b c d : List ℕ) → length a ≡ length b → a ++ c ≡ b ++ d → (a ≡ b) × (c ≡ d)
append_same [] [] c d long e = (refl, e)
append_same [] (y ∷ b) c d long e = absurd (omega (arith, long))
append_same (x ∷ a) [] c d long e = absurd (omega (arith, long))
append_same (x ∷ a) (y ∷ b) c d long e =
    let parts = cons_same x y (a ++ c) (b ++ d) e in
    let rest = append_same a b c d (omega (arith, long)) parts.1 in
    (ap (λ (n : ℕ). n ∷ a) parts.0 ∙ ap (λ (l : List ℕ). y ∷ l) rest.0, rest.1)

-- an empty output
pub shown_empty : (place : ℕ) (mark : List ℕ) → shown_text place mark 0 0 (Some []) ≡ Some (mark_name place mark)
shown_empty place mark = shown_made place mark 0 0 [] (omega arith) refl (or_right _ _ refl) ∙ ap Some (append-nil (mark_name place mark))

-- what an output has that was empty, after a text was shown
pub final_text : (place : ℕ) (mark : List ℕ) (at : ℕ) (other : List ℕ) (column done : ℕ) (bytes text : List ℕ)
    → Appends (shown_text place mark 0 0 (Some [])) (shown_text at other column done (Some bytes)) text
    → bytes ≡ with_marks place mark 0 text ++ take done mark
final_text place mark at other column done bytes text grown = of (shown_text at other column done (Some bytes)) refl
    (subst (λ (o : Option (List ℕ)). Appends o (shown_text at other column done (Some bytes)) text) begun grown)
  where
    begun : shown_text place mark 0 0 (Some []) ≡ Some (mark_name place mark)
    begun = shown_empty place mark

    same : (w : List ℕ) → IsShown at other column done bytes w → w ≡ mark_name place mark ++ text → bytes ≡ with_marks place mark 0 text ++ take done mark
    same w t e =
        let whole : at ∷ (length other ∷ (other ++ t.text)) ≡ place ∷ (length mark ∷ (mark ++ text)) = sym t.shown_is ∙ e in
        let first = cons_same at place (length other ∷ (other ++ t.text)) (length mark ∷ (mark ++ text)) whole in
        let second = cons_same (length other) (length mark) (other ++ t.text) (mark ++ text) first.1 in
        let parts = append_same other mark t.text text second.0 second.1 in
        t.bytes_are ∙ ap (λ (n : ℕ). with_marks n other 0 t.text ++ take done other) first.0
        ∙ ap (λ (l : List ℕ). with_marks place l 0 t.text ++ take done l) parts.0
        ∙ ap (λ (l : List ℕ). with_marks place mark 0 l ++ take done mark) parts.1

    of : (o : Option (List ℕ)) → shown_text at other column done (Some bytes) ≡ o → Appends (Some (mark_name place mark)) (shown_text at other column done (Some bytes)) text
        → bytes ≡ with_marks place mark 0 text ++ take done mark
    of None e g = absurd (subst (λ (o : Option (List ℕ)). Appends (Some (mark_name place mark)) o text) e g)
    of (Some w) e g = same w (shown_some at other column done bytes w e)
        (subst (λ (o : Option (List ℕ)). Appends (Some (mark_name place mark)) o text) e g)

-- a mark in what is left of a line
abbrev rest_marked : ℕ → List ℕ → ℕ → List ℕ → List ℕ
rest_marked place mark column [] = []
rest_marked place mark column (b ∷ line) = mark_at place mark column ++ (b ∷ rest_marked place mark (if nat_lt place column then column else suc column) line)

-- after the mark
rest_after : (place : ℕ) (mark : List ℕ) (column : ℕ) (line : List ℕ) → place < column → rest_marked place mark column line ≡ line
rest_after place mark column [] past = refl
rest_after place mark column (b ∷ line) past =
    ap (λ (t : Bool). (if t then mark else []) ++ (b ∷ rest_marked place mark (if nat_lt place column then column else suc column) line))
    (ne_eqb column place (λ e. omega (arith, e, past)))
    ∙ ap (λ (t : Bool). b ∷ rest_marked place mark (if t then column else suc column) line) (lt-ltb place column past)
    ∙ ap (λ (l : List ℕ). b ∷ l) (rest_after place mark column line past)

-- before it
rest_before : (left column : ℕ) (mark line : List ℕ)
    → rest_marked (column + left) mark column line ≡ (if nat_lt left (length line) then take left line ++ (mark ++ drop left line) else line)
rest_before zero column mark [] = refl
rest_before (suc left) column mark [] = ap (λ (t : Bool). if t then mark ++ [] else []) (sym (le-ltb (suc left) 0 (omega arith)))
rest_before zero column mark (b ∷ line) =
    let here : column + 0 ≡ column = omega arith in
    ap (λ (n : ℕ). rest_marked n mark column (b ∷ line)) here
    ∙ ap (λ (t : Bool). (if t then mark else []) ++ (b ∷ rest_marked column mark (if nat_lt column column then column else suc column) line)) (eq-eqb column column refl)
    ∙ ap (λ (t : Bool). mark ++ (b ∷ rest_marked column mark (if t then column else suc column) line)) (le-ltb column column (omega arith))
    ∙ ap (λ (l : List ℕ). mark ++ (b ∷ l)) (rest_after column mark (suc column) line (omega arith))
    ∙ ap (λ (t : Bool). if t then mark ++ (b ∷ line) else (b ∷ line)) (sym (lt-ltb 0 (suc (length line)) (omega arith)))
rest_before (suc left) column mark (b ∷ line) =
    let next : column + suc left ≡ suc column + left = omega arith in
    let deeper : (if nat_lt (suc left) (length (b ∷ line)) then take (suc left) (b ∷ line) ++ (mark ++ drop (suc left) (b ∷ line)) else (b ∷ line))
    ≡ b ∷ (if nat_lt left (length line) then take left line ++ (mark ++ drop left line) else line) = of (nat_lt left (length line)) left line refl in
    ap (λ (t : Bool). (if t then mark else []) ++ (b ∷ rest_marked (column + suc left) mark (if nat_lt (column + suc left) column then column else suc column) line))
    (ne_eqb column (column + suc left) (λ e. omega (arith, e)))
    ∙ ap (λ (t : Bool). b ∷ rest_marked (column + suc left) mark (if t then column else suc column) line) (le-ltb (column + suc left) column (omega arith))
    ∙ ap (λ (n : ℕ). b ∷ rest_marked n mark (suc column) line) next
    ∙ ap (λ (l : List ℕ). b ∷ l) (rest_before left (suc column) mark line)
    ∙ sym deeper
  where
    of : (t : Bool) (left : ℕ) (line : List ℕ) → nat_lt left (length line) ≡ t
        → (if nat_lt (suc left) (suc (length line)) then b ∷ take left line ++ (mark ++ drop left line) else (b ∷ line))
        ≡ b ∷ (if nat_lt left (length line) then take left line ++ (mark ++ drop left line) else line)
    of true left line e =
        ap (λ (t : Bool). if t then b ∷ take left line ++ (mark ++ drop left line) else (b ∷ line)) (lt-ltb (suc left) (suc (length line)) (omega (arith, ltb-true left (length line) e)))
        ∙ ap (λ (t : Bool). b ∷ (if t then take left line ++ (mark ++ drop left line) else line)) (sym e)
    of false left line e =
        ap (λ (t : Bool). if t then b ∷ take left line ++ (mark ++ drop left line) else (b ∷ line)) (le-ltb (suc left) (suc (length line)) (omega (arith, ltb-false left (length line) e)))
        ∙ ap (λ (t : Bool). b ∷ (if t then take left line ++ (mark ++ drop left line) else line)) (sym e)

whole_marked : (place : ℕ) (mark line : List ℕ) → rest_marked place mark 0 line ≡ marked_line place mark line
whole_marked place mark line = ap (λ (n : ℕ). rest_marked n mark 0 line) (omega arith) ∙ rest_before place 0 mark line

-- the marks in lines, of which the first may have begun
abbrev from_lines : ℕ → List ℕ → ℕ → List (List ℕ) → List ℕ
from_lines place mark column [] = []
from_lines place mark column (line ∷ lines) = rest_marked place mark column line ++ flat_map (marked_line place mark) lines

first_lines : (place : ℕ) (mark : List ℕ) (lines : List (List ℕ)) → from_lines place mark 0 lines ≡ flat_map (marked_line place mark) lines
first_lines place mark [] = refl
first_lines place mark (line ∷ lines) = ap (λ (l : List ℕ). l ++ flat_map (marked_line place mark) lines) (whole_marked place mark line)

by_lines : (place : ℕ) (mark : List ℕ) (column : ℕ) (text : List ℕ) → with_marks place mark column text ≡ from_lines place mark column (text_lines text)
by_lines place mark column [] = refl
by_lines place mark column (b ∷ text) = of (b == 10) (λ c. by_lines place mark c text) refl
  where
    joined : (lines : List (List ℕ)) (next : ℕ) → next ≡ (if nat_lt place column then column else suc column)
        → mark_at place mark column ++ (b ∷ from_lines place mark next lines) ≡ from_lines place mark column (with_byte b lines)
    joined [] next e = sym (append-nil (mark_at place mark column ++ (b ∷ [])))
    joined (line ∷ lines) next e =
        ap (λ (n : ℕ). mark_at place mark column ++ (b ∷ (rest_marked place mark n line ++ flat_map (marked_line place mark) lines))) e
        ∙ sym (append_assoc (mark_at place mark column) (b ∷ rest_marked place mark (if nat_lt place column then column else suc column) line) (flat_map (marked_line place mark) lines))

    of : (t : Bool) → ((c : ℕ) → with_marks place mark c text ≡ from_lines place mark c (text_lines text)) → (b == 10) ≡ t → with_marks place mark column (b ∷ text) ≡ from_lines place mark column (text_lines (b ∷ text))
    of true known e =
        let next : next_column place column b ≡ 0 = ap (λ (t : Bool). if t then 0 else (if nat_lt place column then column else suc column)) e in
        let lines : text_lines (b ∷ text) ≡ (b ∷ []) ∷ text_lines text = ap (λ (t : Bool). if t then (b ∷ []) ∷ text_lines text else with_byte b (text_lines text)) e in
        ap (λ (n : ℕ). mark_at place mark column ++ (b ∷ with_marks place mark n text)) next
        ∙ ap (λ (l : List ℕ). mark_at place mark column ++ (b ∷ l)) (known 0 ∙ first_lines place mark (text_lines text))
        ∙ sym (append_assoc (mark_at place mark column) (b ∷ []) (flat_map (marked_line place mark) (text_lines text)))
        ∙ ap (λ (ls : List (List ℕ)). from_lines place mark column ls) (sym lines)
    of false known e =
        let next = next_within place column b e in
        let lines : text_lines (b ∷ text) ≡ with_byte b (text_lines text) = ap (λ (t : Bool). if t then (b ∷ []) ∷ text_lines text else with_byte b (text_lines text)) e in
        ap (λ (l : List ℕ). mark_at place mark column ++ (b ∷ l)) (known (next_column place column b))
        ∙ joined (text_lines text) (next_column place column b) next
        ∙ ap (λ (ls : List (List ℕ)). from_lines place mark column ls) (sym lines)

pub marked_lines : (place : ℕ) (mark text : List ℕ) → with_marks place mark 0 text ≡ marked_text place mark text
marked_lines place mark text = by_lines place mark 0 text ∙ first_lines place mark (text_lines text)
