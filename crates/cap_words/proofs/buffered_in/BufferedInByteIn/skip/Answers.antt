use Rattle.cap_spec.proofs.ProofNames.{rules}
use Rattle.cap_words.proofs.Known.{known_consumes}
use Rattle.std.proofs.Common.{List, None, Option, Some, append_assoc, drop, drop-drop, length-take, min, slice_range}
use Rattle.std.proofs.Common.{take, take-append-drop, ℕ, ◌+◌, ◌-◌, ◌≡◌}
use Rattle.std.proofs.lemmas.List.{drop-take, drop_min}
use Rattle.std.specs.Io.KnownBytes.{Consumes, prepend_known}
use Rattle.cap_words.proofs.buffered_in.BufferedInByteIn.skip.Goals as goal

-- What is left of the bytes in a buffer after some that were skipped.
front : (k n : ℕ) (xs : List ℕ) → drop (min n k) (take k xs) ≡ drop n (take k xs)
front k n xs = search (rules, length-take k xs, drop_min (min n k) (take k xs), drop_min n (take k xs))

skipped : (xs : List ℕ) (a e n m : ℕ) → m ≡ min n (e - a) → slice_range xs (a + m) e ≡ drop n (slice_range xs a e)
skipped xs a e n m is = search (rules, drop-drop m a xs, drop-take m (e - (a + m)) (drop a xs), front (e - a) n (drop a xs))

skipped_known : (known : Option (List ℕ)) (xs ys : List ℕ) (n : ℕ) → ys ≡ drop n xs → Consumes (prepend_known xs known) (prepend_known ys known) (take n xs)
skipped_known None xs ys n e = tt
skipped_known (Some more) xs ys n e = search (rules, take-append-drop n xs, append_assoc (take n xs) (drop n xs) more)

pub returns-then-count-gt0-clause-bytes : goal.returns-then-count-gt0-clause-bytes
returns-then-count-gt0-clause-bytes g c = search (rules, known_consumes, skipped_known, skipped)

pub returns-then-count-gt0-clause-left : goal.returns-then-count-gt0-clause-left
returns-then-count-gt0-clause-left g c = let s = c.args.self.now in skipped s.buffer.items s.start s.end c.args.count _ c.min-count.ensures
