use Rattle.std.proofs.Common.{◌*◌, ◌+◌, ◌≡◌, ◌≤◌}
use Rattle.cap_frame.specs.Bytes.{cut}
use Rattle.cap_calls.specs.CallNodes.{offset_of}
use Rattle.cap_calls.specs.ExtentCalls.{HasExtents}
use Rattle.cap_calls.proofs.calls.segments.write_extents.Given as goal

-- the segments so far have their extents, and the next one starts at this offset
abbrev pub invariant-segments : goal.invariant-segments
invariant-segments l = record {
  offset : l.offset ≡ offset_of (cut l.view.sizes.now l.view.bytes.now) l.s 0;
  small : l.offset ≤ 2056 + l.s * 34359738368;
  written : HasExtents (cut l.view.sizes.now l.view.bytes.now) l.s l.fn.extents l.extents;
}
