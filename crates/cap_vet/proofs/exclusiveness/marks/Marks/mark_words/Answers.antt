use Rattle.cap_spec.proofs.ProofNames.{rules, arith, slice_index_or, ◌+◌, ◌≡◌}
use Rattle.cap_frame.specs.SegmentStarts.{start_of}
use Rattle.cap_vet.proofs.Ranges.{marks_range, range_conflict}
use Rattle.cap_frame.proofs.SegmentStarts.{start_within}
use Rattle.cap_vet.proofs.MarkingWalk.{capacity_kept}
use Rattle.cap_vet.proofs.exclusiveness.marks.Marks.mark_words.Goals as goal

pub overflow_add-start : goal.overflow_add-start
overflow_add-start c = search (rules, start_within)

pub set_bits-requires : goal.set_bits-requires
set_bits-requires c = search (rules, start_within)

pub returns : goal.returns
returns c = λ m h.
    let starts = c.args.self.now.starts.now in
    let old = c.args.self.now.bits.now in
    let at = slice_index_or starts c.args.s 0 + c.from.result in
    let st : slice_index_or starts c.args.s 0 ≡ start_of m c.args.s = h.fits.known.each c.args.s h.exists in
    let start : at ≡ start_of m c.args.s + c.args.from = omega (arith, st, c.from.ensures) in record {
      fits = capacity_kept m starts old c.set_bits.new.words h.fits c.set_bits.ensures.same_length;
      taken = λ e. marks_range m old c.set_bits.new.words c.args.s c.args.from c.args.count at h.exists h.inside start
          (search rules) (λ i a b. c.set_bits.ensures.free e i a (omega (arith, b, c.from-2.ensures)))
          (λ i a. c.set_bits.ensures.below e i a)
          (λ i a. c.set_bits.ensures.above e i (omega (arith, a, c.from-2.ensures)));
      conflict = λ e.
          let f = c.set_bits.ensures.conflict e in
          let w = range_conflict m old c.args.s c.args.from c.args.count at f.0 h.exists h.inside start f.1 (omega (arith, f.2, c.from-2.ensures)) f.3 in
          (c.args.s, w.0, w.1, w.2);
    }
