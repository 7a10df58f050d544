-- One extent more is written.
use Rattle.std.proofs.Common.{ap, ap₂, arith, length, refl, ℕ, ◌*◌, ◌<◌, ◌∙◌}
use Rattle.cap_frame.specs.Bytes.{cut}
use Rattle.cap_frame.proofs.SegmentStarts.{start_next}
use Rattle.cap_calls.specs.declared.extent.CallExtent.{CallExtent}
use Rattle.cap_calls.proofs.Extents.{more_written}
use Rattle.cap_calls.proofs.calls.segments.write_extents.Goals as goal

abbrev extent : ℕ → ℕ → CallExtent
extent start long = record { offset = start; length = long }

pub segments-preserved : goal.segments-preserved
segments-preserved c =
    let m = cut c.args.view.now.sizes.now c.args.view.now.bytes.now in
    let has = c.segments.invariant.written in
    let exists : c.segments.s < length m = omega (arith, c.segments-test.true, c.count-count.ensures) in
    let room : c.segments.s < length c.segments.extents = omega (arith, exists, c.requires, has.size) in
    let words = c.from-length.ensures ∙ c.len.ensures in
    record {
      offset = omega (arith, c.segments.invariant.offset, words, start_next m c.segments.s exists);
      small = omega (arith, c.segments.invariant.small, c.from-length.ensures, c.len.type_inv);
      written = more_written m c.args.extents.now c.segments.extents _ c.segments.s _ has room
          (ap₂ extent c.segments.invariant.offset (ap (λ (n : ℕ). 8 * n) words)) refl;
    }
