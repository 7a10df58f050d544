-- Texts that are written one after the other.
use Rattle.cap_spec.proofs.ProofNames.{rules}
use Rattle.std.proofs.Common.{IsErrOf, List, OnErr, OnOk, Option, Result, append-nil, append_assoc}
use Rattle.std.proofs.Common.{drop, length, sym, take, take-append-drop, true, ℕ, ◌++◌, ◌<◌, ◌≡◌}
use Rattle.std.proofs.KnownBytes.{Appends-kept, Appends-trans}
use Rattle.std.specs.Io.KnownBytes.{Appends, Keeps}
use Rattle.cap_words.specs.ByteIo.{DeviceFails, AllocationFails, WasBroken, Works}
use Rattle.cap_words.specs.declared.byte_io.OutFault.{OutFault}
use Rattle.cap_words.specs.declared.byte_io.OutFault.TheVariants.{Device, Memory, Spent}
use Rattle.cap_text.specs.Writing.{Stopped, Writes, WritesPart, Wrote}
use Rattle.cap_words.specs.declared.byte_io.ByteOut as output

-- a beginning of the first text begins both
pub part_more : (a b : Option (List ℕ)) (xs ys : List ℕ) → WritesPart a b xs → WritesPart a b (xs ++ ys)
part_more a b xs ys w = search (rules, append_assoc)

-- a text, and then a beginning of another
pub part_then : (a b c : Option (List ℕ)) (xs ys : List ℕ) → Appends a b xs → WritesPart b c ys → WritesPart a c (xs ++ ys)
part_then a b c xs ys p w = search (rules, append_assoc, Appends-trans)

-- the first bytes of a text are a beginning of it
part_of : (a b : Option (List ℕ)) (text : List ℕ) (n : ℕ) → Appends a b (take n text) → WritesPart a b text
part_of a b text n p = record { part = take n text; rest = drop n text; whole = sym (take-append-drop n text); appended = p }

module _ {O T : Type 0} (g : output.Ghosts O) where
  -- the clauses of a call that writes all bytes, put together
  pub writes_all : (a b : O) (r : Result T OutFault) (text : List ℕ) → OnOk r (Appends (g.written a) (g.written b) text)
      → OnErr r ((n : ℕ) × (n < length text) × Appends (g.written a) (g.written b) (take n text))
      → OnOk r (Works (g.broken a) (g.broken b) (g.failures a) (g.failures b))
      → (IsErrOf r Device → DeviceFails (g.broken a) (g.failures a) (g.failures b) × (g.broken b ≡ true))
      → (IsErrOf r Memory → AllocationFails (g.broken a) (g.failures a) (g.failures b))
      → (IsErrOf r Spent → (g.broken a ≡ true) × (b ≡ a)) → Writes g a b r text
  writes_all a b r text ok err works device memory was_broken = search (rules, part_of)

module _ {O : Type 0} (g : output.Ghosts O) where
  -- one text, and then another
  pub wrote_then : (a b c : O) (xs ys : List ℕ) → Wrote g a b xs → Wrote g b c ys → Wrote g a c (xs ++ ys)
  wrote_then a b c xs ys p q = search (rules, Appends-trans)

  -- one text, and then a fault in another
  pub stopped_then : (a b c : O) (fault : OutFault) (xs ys : List ℕ) → Wrote g a b xs → Stopped g b c fault ys
      → Stopped g a c fault (xs ++ ys)
  stopped_then a b c fault xs ys p q = search (rules, part_then)

  -- a fault in the first text is one in both
  pub stopped_more : (a b : O) (fault : OutFault) (xs ys : List ℕ) → Stopped g a b fault xs → Stopped g a b fault (xs ++ ys)
  stopped_more a b fault xs ys q = search (rules, part_more)

  -- one text, and then another or a beginning of it
  pub writes_then : {T : Type 0} (a b c : O) (r : Result T OutFault) (xs ys : List ℕ) → Wrote g a b xs → Writes g b c r ys → Writes g a c r (xs ++ ys)
  writes_then a b c r xs ys p w = search (rules, wrote_then, stopped_then)

  -- the output was asked to hand on what was written
  pub writes_kept : {T : Type 0} (a b c : O) (r : Result T OutFault) (text : List ℕ) → Wrote g a b text → Keeps (g.written b) (g.written c)
      → OnOk r ((g.broken c ≡ g.broken b) × (g.failures c ≡ g.failures b))
      → (IsErrOf r Device → DeviceFails (g.broken b) (g.failures b) (g.failures c) × (g.broken c ≡ true))
      → (IsErrOf r Memory → AllocationFails (g.broken b) (g.failures b) (g.failures c))
      → (IsErrOf r Spent → WasBroken (g.broken b) (g.broken c) (g.failures b) (g.failures c)) → Writes g a c r text
  writes_kept a b c r text w k ok device memory broken = search (rules, Appends-kept, append-nil)
