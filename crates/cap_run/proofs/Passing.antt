-- Bytes that are written after others, and the bytes of a frame.
use Rattle.std.proofs.Common.{IsErrOf, OnErr}
use Rattle.std.proofs.lemmas.Grind.{flat_map-append}
use Rattle.cap_spec.proofs.Bytes.Plain.{length_plain}
use Rattle.cap_spec.proofs.ProofNames.{Bool, List, Ok, OnOk, Result, [], ap, append-nil, append_assoc, arith, drop}
use Rattle.cap_spec.proofs.ProofNames.{drop-cons, drop-drop, flat_map, if◌then◌else◌, length, refl, subst, sym, take}
use Rattle.cap_spec.proofs.ProofNames.{take_at, true, ℕ, ◌++◌, ◌+◌, ◌-◌, ◌<◌, ◌∙◌, ◌∷◌, ◌≡◌, ◌≤◌, take_rest}
use Rattle.cap_spec.proofs.ProofNames.{Appends, joined, paired, segment_of, table_of, pack_text}
use Rattle.cap_spec.proofs.ProofNames.{plain_text, plain_words, word_bytes, rules}
use Rattle.cap_words.specs.ByteIo.{DeviceFails, AllocationFails, Works}
use Rattle.cap_words.specs.declared.byte_io.OutFault.{OutFault}
use Rattle.cap_words.specs.declared.byte_io.OutFault.TheVariants.{Device, Memory, Spent}
use Rattle.cap_frame.specs.Numbers.{numbers_of, pair_at}
use Rattle.cap_frame.proofs.Putting.{paired_from, segments_from}
use Rattle.cap_text.specs.Writing.{Stopped, Writes, Wrote}
use Rattle.cap_text.proofs.Writing.{stopped_more, writes_all, writes_then}
use Rattle.cap_words.specs.declared.byte_io.ByteOut as output

module _ {O : Type 0} (g : output.Ghosts O) where
  -- the clauses of a call that writes all bytes after a text, put together, also where there are none
  pub writes_more : (o a b : O) (r : Result (Unit {0}) OutFault) (text bytes : List ℕ) → Wrote g o a text
      → OnOk r (Appends (g.written a) (g.written b) bytes)
      → OnErr r ((n : ℕ) × (n < length bytes) × Appends (g.written a) (g.written b) (take n bytes))
      → (bytes ≡ [] → (r ≡ Ok tt) × (b ≡ a))
      → (0 < length bytes → OnOk r (Works (g.broken a) (g.broken b) (g.failures a) (g.failures b)))
      → (IsErrOf r Device → DeviceFails (g.broken a) (g.failures a) (g.failures b) × (g.broken b ≡ true))
      → (IsErrOf r Memory → AllocationFails (g.broken a) (g.failures a) (g.failures b))
      → (IsErrOf r Spent → (g.broken a ≡ true) × (b ≡ a)) → Writes g o b r (text ++ bytes)
  writes_more o a b r text [] w ok err none works device memory was_broken = search (rules, append-nil)
  writes_more o a b r text (x ∷ xs) w ok err none works device memory was_broken = search (rules, writes_then, writes_all)

  -- After this text, bytes were written that leave the rest of these.
  pub record Left (old now : O) (text all rest : List ℕ) : Type 0 where
    pub done : List ℕ
    pub whole : all ≡ done ++ rest
    pub wrote : Wrote g old now (text ++ done)

  -- none yet
  pub left_all : (old now : O) (text all : List ℕ) → Wrote g old now text → Left old now text all all
  left_all old now text all w = record { done = []; whole = refl; wrote = subst (Wrote g old now) (sym (append-nil text)) w }

  -- the next ones were written
  pub left_less : (old now new : O) (text all rest front less : List ℕ) → rest ≡ front ++ less → Left old now text all rest
      → ((t : List ℕ) → Wrote g old now t → Wrote g old new (t ++ front)) → Left old new text all less
  left_less old now new text all rest front less e l w = search (rules, append_assoc)

  -- none is left
  pub left_none : (old now : O) (text all rest : List ℕ) → rest ≡ [] → Left old now text all rest → Wrote g old now (text ++ all)
  left_none old now text all rest e l = search (rules, append-nil)

  -- the output failed in the next ones
  pub left_stops : (old now new : O) (text all rest front less : List ℕ) (fault : OutFault) → rest ≡ front ++ less → Left old now text all rest
      → ((t : List ℕ) → Wrote g old now t → Stopped g old new fault (t ++ front)) → Stopped g old new fault (text ++ all)
  left_stops old now new text all rest front less fault e l s = search (rules, append_assoc, stopped_more)

-- the bytes of segments, from the next one on
pub contents_from : (m : List (List ℕ)) (s : ℕ) → s < length m
    → plain_text (joined (drop s m)) ≡ plain_text (segment_of m s) ++ plain_text (joined (drop (s + 1) m))
contents_from m s h = ap plain_text (segments_from m s h) ∙ flat_map-append word_bytes (segment_of m s) (joined (drop (s + 1) m))

-- their packed texts
pub texts_from : (m : List (List ℕ)) (s : ℕ) → s < length m
    → flat_map pack_text (drop s m) ≡ pack_text (segment_of m s) ++ flat_map pack_text (drop (s + 1) m)
texts_from m s h = search (rules, drop-cons)

-- a table isn't empty
table_first : (m : List (List ℕ)) → table_of m ≡ pair_at (numbers_of m) 0 ∷ paired (drop 2 (numbers_of m))
table_first m = paired_from (numbers_of m) 0 (omega arith)

pub some_table : (m : List (List ℕ)) → 0 < length (plain_text (table_of m))
some_table m = omega (arith, length_plain (table_of m), ap length (table_first m))

-- nor is the packed text of a word
some_if : (a b : Bool) (x y z : ℕ) (xs ys zs rest : List ℕ) → 0 < length ((if a then x ∷ xs else (if b then y ∷ ys else (z ∷ zs))) ++ rest)
some_if h k x y z xs ys zs rest = search rules

some_packed : (w : ℕ) (ws : List ℕ) → 0 < length (pack_text (w ∷ ws))
some_packed w ws = search (rules, some_if)

pub some_packed_table : (m : List (List ℕ)) → 0 < length (pack_text (table_of m))
some_packed_table m = search (rules, table_first, some_packed)

-- the text of a table that was packed into a buffer
pub packed_written : (m : List (List ℕ)) (table text new : List ℕ) (n : ℕ) → plain_words table ≡ table_of m
    → n ≡ length (pack_text (plain_words table)) → n ≤ length text → (n ≤ length text → new ≡ pack_text (plain_words table) ++ drop n text)
    → take n new ≡ pack_text (table_of m)
packed_written m table text new n e long few written = search (rules, take_at)

-- the text of some words, and then that of the words after them
pub part_from : (bs : List ℕ) (done taken : ℕ) (part : List ℕ)
    → (let rest = take (length bs - done) (drop done bs) in
    pack_text (plain_words rest) ≡ part ++ pack_text (plain_words (drop taken rest)))
    → pack_text (plain_words (drop done bs)) ≡ part ++ pack_text (plain_words (drop (done + taken) bs))
part_from bs done taken part e = search (rules, take_rest, drop-drop)
