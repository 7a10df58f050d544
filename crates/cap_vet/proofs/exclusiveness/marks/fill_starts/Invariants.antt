use Rattle.std.proofs.Common.{length, slice_index_or, ℕ, ◌*◌, ◌<◌, ◌^◌, ◌≡◌, ◌≤◌}
use Rattle.cap_frame.specs.SegmentStarts.{start_of}
use Rattle.cap_vet.proofs.exclusiveness.marks.fill_starts.Given as goal

abbrev pub invariant-loop-s : goal.invariant-loop-s
invariant-loop-s g l = record {
  many : length l.starts.items ≡ l.s;
  each : (s : ℕ) → s < l.s → slice_index_or l.starts.items s 0 ≡ start_of (g.M.Segments.segments l.message) s;
  words : l.words ≡ start_of (g.M.Segments.segments l.message) l.s;
  few : l.words ≤ l.s * 2 ^ 32;
}
