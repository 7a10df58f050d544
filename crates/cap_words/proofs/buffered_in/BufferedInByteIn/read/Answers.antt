use Rattle.cap_spec.proofs.ProofNames.{rules}
use Rattle.std.proofs.BufReadLemmas.{zero_unless_positive}
use Rattle.std.proofs.Common.{ap, arith, drop, length, length-drop, length-take, slice_range, take, ◌+◌, ◌-◌, ◌<◌, ◌≡◌}
use Rattle.std.proofs.Common.{List, [], drop-drop, take-add, take-take, ℕ, ◌++◌, ◌≤◌}
use Rattle.std.proofs.KnownBytes.{Keeps-refl, prepend_known-read}
use Rattle.std.specs.Io.KnownBytes.{IsAtEnd, Keeps, prepend_known}
use Rattle.cap_words.proofs.Known.{known_consumes, known_end, known_past}
use Rattle.cap_words.proofs.buffered_in.BufferedInByteIn.read.Goals.{else-self, then-self+else-buf-ge-BUFFER+in_default}
use Rattle.cap_words.proofs.buffered_in.BufferedInByteIn.read.Goals as goal

-- A buffer out of whose front bytes are given.
-- n of them were given, and the others are still held
given_off : (xs given : List ℕ) (start end n : ℕ) → n ≤ length (slice_range xs start end) → take n given ≡ take n (slice_range xs start end)
    → slice_range xs start end ≡ take n given ++ slice_range xs (start + n) end
given_off xs given start end n within same = search (
  rules,
  length-take (end - start) (drop start xs),
  take-add n (end - (start + n)) (drop start xs),
  drop-drop n start xs,
  take-take n (end - start) (drop start xs) (omega (arith, length-take (end - start) (drop start xs))),
)

-- nothing is held from a place up to itself
none_between : (xs : List ℕ) (start end : ℕ) → start ≡ end → slice_range xs start end ≡ []
none_between xs start end e = ap (λ k. take k (drop start xs)) {y = 0} (omega arith)

pub returns-clause-bytes : goal.returns-clause-bytes
returns-clause-bytes g c =
    let old = c.args.self.now in
    let s = c.if-self.self in
    let given = c.copy_front-count in
    let held = c.deref.result.now in
    let split = rw c.deref.ensures.value at (given_off held given.new.to s.start s.end given.result given.ensures.within given.ensures.copied) in
    let kept : Keeps (prepend_known (slice_range old.buffer.items old.start old.end) (g.R.Read.remaining old.reader))
    (prepend_known (slice_range s.buffer.items s.start s.end) (g.R.Read.remaining s.reader)) = elim c.if-self.branch [
      | then-self+else-buf-ge-BUFFER+in_default w ↦ rw w.self-is w.refill.ensures.bytes
      | else-self w ↦ rw w.self-is (Keeps-refl _)
    ] in
    let read = prepend_known-read _ _ (slice_range s.buffer.items s.start s.end) _ _ _ kept split (λ (p : (given.result ≡ 0) × (0 < length given.new.to)).
    let none : length (slice_range held s.start s.end) ≡ 0 =
    zero_unless_positive _ _ (λ some. given.ensures.some some (omega (arith, p.1, given.auto.to))) p.0 in
    let empty : s.start ≡ s.end =
    omega (arith, none, length-take (s.end - s.start) (drop s.start held), length-drop s.start held, s.ordered, s.inside, c.deref.ensures.len) in
    let end : IsAtEnd (g.R.Read.remaining s.reader) = elim c.if-self.branch [
      | then-self+else-buf-ge-BUFFER+in_default w ↦ rw w.self-is (w.in_default.ensures.end (rw w.self-is at empty))
      | else-self w ↦ absurd (w.if-self.false (rw w.self-is at empty))
    ] in
    (ap (λ k. take k (drop (s.start + given.result) s.buffer.items)) {y = 0} (omega arith), end)) in
    (known_consumes _ _ _ read.0, λ zero some. known_end _ (read.1 (zero, some)))

-- nothing was held, before or after
pub returns-then-buf-ge-BUFFER-clause-bytes : goal.returns-then-buf-ge-BUFFER-clause-bytes
returns-then-buf-ge-BUFFER-clause-bytes g c = search (rules, known_past, none_between c.args.self.now.buffer.items c.args.self.now.start c.args.self.now.end c.if-self.true, none_between)
