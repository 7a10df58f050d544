use Rattle.std.proofs.Common.{◌*◌, ◌^◌, ◌≡◌, ◌≤◌}
use Rattle.cap_frame.specs.SegmentStarts.{start_of}
use Rattle.cap_frame.proofs.lengths.words_before.Given as goal

abbrev pub invariant-loop-s : goal.invariant-loop-s
invariant-loop-s g l = record {
  words : l.words ≡ start_of (g.M.Segments.segments l.message) l.s;
  few : l.words ≤ l.s * 2 ^ 32;
}
