use Rattle.cap_spec.proofs.ProofNames.{arith, rules, slice_index_or, ◌*◌, ◌+◌, ◌<◌, ◌^◌}
use Rattle.cap_frame.proofs.Cuts.{cut_length, eight_in, number_in, place_facts, starts_length}
use Rattle.cap_frame.proofs.byte_message.ByteViewSegments.word.Goals as goal

pub bounds-self-s : goal.bounds-self-s
bounds-self-s c = search (rules, starts_length, cut_length)

pub overflow_add-at : goal.overflow_add-at
overflow_add-at c =
    let m = c.args.self.now in
    let p = place_facts m.sizes.now m.starts.now m.bytes.now c.args.s c.args.w m.starts_are m.inside c.requires.exists c.requires.inside in
    let fits : slice_index_or m.starts.now c.args.s 0 + c.args.w < 2 ^ 32 = omega (arith, p.sums, m.small) in
    search rules

pub slice_bounds-read_u64-end : goal.slice_bounds-read_u64-end
slice_bounds-read_u64-end c =
    let m = c.args.self.now in
    let p = place_facts m.sizes.now m.starts.now m.bytes.now c.args.s c.args.w m.starts_are m.inside c.requires.exists c.requires.inside in
    omega (arith, p.sums, m.inside)

pub read_u64-requires : goal.read_u64-requires
read_u64-requires c =
    let m = c.args.self.now in
    let at = slice_index_or m.starts.now c.args.s 0 + c.args.w in
    let p = place_facts m.sizes.now m.starts.now m.bytes.now c.args.s c.args.w m.starts_are m.inside c.requires.exists c.requires.inside in
    eight_in m.bytes.now (8 * at) (omega (arith, p.sums, m.inside))

pub returns : goal.returns
returns c = search (rules, place_facts, number_in)
