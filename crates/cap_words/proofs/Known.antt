-- What a reader gives, read by read.
use Rattle.cap_spec.proofs.ProofNames.{rules}
use Rattle.std.proofs.Common.{Bool, List, None, Option, Result, Some, [], ap, drop, false, if◌then◌else◌}
use Rattle.std.proofs.Common.{lt-ltb, nat_lt, refl, slice_index, subst, suc, sym, take, take-append-drop, true, zero, ℕ}
use Rattle.std.proofs.Common.{◌&&◌, ◌++◌, ◌<◌, ◌∙◌, ◌∷◌, ◌≡◌}
use Rattle.std.proofs.KnownBytes.{Keeps-refl, prepend_known-nil}
use Rattle.std.specs.Io.KnownBytes.{Consumes, IsAtEnd, Keeps, ReadConsumes, prepend_known}
use Rattle.cap_words.specs.Laws.{both_hold}
use Rattle.cap_words.specs.Sinks.{Begins}
use Rattle.cap_words.specs.Known.{are_bytes, known_bytes}

-- numbers are bytes where each is below 256
pub bytes_by_index : (bytes : List ℕ) → ((i : ℕ) → slice_index bytes i < 256) → are_bytes bytes ≡ true
bytes_by_index [] each = refl
bytes_by_index (b ∷ bytes) each = ap (λ c. c && are_bytes bytes) (lt-ltb b 256 (each zero)) ∙ bytes_by_index bytes (λ i. each (suc i))

-- so are those after some others
pub bytes_after : (front bytes : List ℕ) → are_bytes (front ++ bytes) ≡ true → are_bytes bytes ≡ true
bytes_after [] bytes e = e
bytes_after (b ∷ front) bytes e = bytes_after front bytes (both_hold (nat_lt b 256) (are_bytes (front ++ bytes)) e).1

pub bytes_dropped : (n : ℕ) (bytes : List ℕ) → are_bytes bytes ≡ true → are_bytes (drop n bytes) ≡ true
bytes_dropped n bytes e = bytes_after (take n bytes) (drop n bytes) (ap are_bytes (take-append-drop n bytes) ∙ e)

-- a reader that loses some of what it reported gives the rest
known_rest : (bs ys : List ℕ) (c : Bool) → are_bytes (bs ++ ys) ≡ c → Consumes (if c then Some (bs ++ ys) else None) (known_bytes (Some ys)) bs
known_rest bs ys true e = subst (λ c. Consumes (Some (bs ++ ys)) (if c then Some ys else None) bs) (sym (bytes_after bs ys e)) refl
known_rest bs ys false e = tt

pub known_consumes : (a b : Option (List ℕ)) (bs : List ℕ) → Consumes a b bs → Consumes (known_bytes a) (known_bytes b) bs
known_consumes a b bs p = search (rules, known_rest)

-- and is at its end where that is
pub known_end : (a : Option (List ℕ)) → IsAtEnd a → IsAtEnd (known_bytes a)
known_end a p = search rules

-- and keeps what it reported where it lost nothing
known_keeps : (a b : Option (List ℕ)) → Keeps a b → Keeps (known_bytes a) (known_bytes b)
known_keeps a b p = search (rules, Keeps-refl)

known_read : {E : Type 0} (a b : Option (List ℕ)) (answer : Result ℕ E) (buf : List ℕ) → ReadConsumes a b answer buf →
    ReadConsumes (known_bytes a) (known_bytes b) answer buf
known_read a b answer buf p = search (rules, known_consumes, known_end, known_keeps)

-- a read past a buffer that holds nothing
pub known_past : {E : Type 0} (a b : Option (List ℕ)) {held left : List ℕ} (answer : Result ℕ E) (buf : List ℕ) → held ≡ [] → left ≡ [] →
    ReadConsumes a b answer buf
    → ReadConsumes (known_bytes (prepend_known held a)) (known_bytes (prepend_known left b)) answer buf
known_past a b {held} {left} answer buf none nothing p = search (rules, prepend_known-nil, known_read)

-- what begins the kept text begins the text
pub begins_kept : (a b part : Option (List ℕ)) → Keeps a b → Begins b part → Begins a part
begins_kept a b part k h = search rules
