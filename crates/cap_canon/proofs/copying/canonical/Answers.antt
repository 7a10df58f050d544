use Rattle.std.proofs.Common.{Err, ap, arith, length, ◌≡◌}
use Rattle.cap_spec.specs.declared.CanonFault.TheVariants.{HasCapability}
use Rattle.cap_spec.proofs.Canonical.Copies.{copy_denotes, copy_only, copy_own, one_copy}
use Rattle.cap_spec.proofs.Canonical.Offsets.{offsets_fit}
use Rattle.cap_vet.specs.Vettings.{message_of}
use Rattle.cap_canon.proofs.Copies.{cap_no_copy, copy_length, copy_of, few_charged, has_tree, same_fault}
use Rattle.cap_canon.proofs.copying.canonical.Goals as goal

pub copy_into-requires-clause-tree : goal.copy_into-requires-clause-tree
copy_into-requires-clause-tree g c = let k = c.report.ensures.accepted in rw c.message.ensures.value (has_tree _ c.report.result k.0 k.1)

pub copy_into-requires-clause-capacity : goal.copy_into-requires-clause-capacity
copy_into-requires-clause-capacity g c =
    let m = g.M.Segments.segments (message_of c.args.v.now) in
    let h = c.in-Ok.ensures.ok in
    rw c.message.ensures.value (λ t x d f. let e = copy_length t x d h.1 f in omega (arith, e, h.2, c.in-Ok-with_capacity.ensures.exact))

pub returns-clause-capacity : goal.returns-clause-capacity
returns-clause-capacity g c =
    let h = c.in-Ok.ensures.ok in
    let made = copy_of _ _ _ h.1 (rw c.message.ensures.value at c.copy_into.ensures.words) in
    let e : length h.0 ≡ length c.copy_into.new.copy.items = ap length (one_copy _ _ _ h.1 made) in
    omega (arith, e, h.2, c.in-Ok-with_capacity.ensures.exact, c.copy_into.ensures.capacity)

pub returns-clause-accepted : goal.returns-clause-accepted
returns-clause-accepted g c =
    let h = c.in-Ok.ensures.ok in
    let k = c.report.ensures.accepted in
    let made = copy_of _ _ _ h.1 (rw c.message.ensures.value at c.copy_into.ensures.words) in
    λ t x d f. copy_denotes _ _ t x d made f (few_charged t x d k.1 f)

pub returns-clause-own : goal.returns-clause-own
returns-clause-own g c =
    let m = g.M.Segments.segments (message_of c.args.v.now) in
    let h = c.in-Ok.ensures.ok in
    let k = c.report.ensures.accepted in
    let made = copy_of m h.0 c.copy_into.new.copy.items h.1 (rw c.message.ensures.value at c.copy_into.ensures.words) in
    copy_own m c.copy_into.new.copy.items made (few_charged made.tree made.charge made.depth k.1 made.denotes)

pub returns-clause-near : goal.returns-clause-near
returns-clause-near g c =
    let k = c.report.ensures.accepted in
    let words = rw c.message.ensures.value at c.copy_into.ensures.words in
    λ t x d f. (words t x d f, offsets_fit _ 0 0 t x d f (few_charged t x d k.1 f))

pub returns-clause-only : goal.returns-clause-only
returns-clause-only g c =
    let h = c.in-Ok.ensures.ok in
    let k = c.report.ensures.accepted in
    let made = copy_of _ _ _ h.1 (rw c.message.ensures.value at c.copy_into.ensures.words) in
    λ t u x d x' d' other f f' few. copy_only _ _ t u x d x' d' other made f (few_charged t x d k.1 f) f' few

pub returns-clause-first_cap : goal.returns-clause-first_cap
returns-clause-first_cap g c =
    let h = c.in-Ok.ensures.ok in
    λ s w f. absurd (cap_no_copy (g.M.Segments.segments (message_of c.args.v.now)) s w h.0 f h.1)

pub returns-in_default-clause-memory : goal.returns-in_default-clause-memory
returns-in_default-clause-memory g c =
    let h = c.in-Ok.ensures.ok in
    λ e s w f. cap_no_copy (g.M.Segments.segments (message_of c.args.v.now)) s w h.0 f h.1

pub returns-in_default-clause-first_cap : goal.returns-in_default-clause-first_cap
returns-in_default-clause-first_cap g c =
    let h = c.in-Ok.ensures.ok in
    λ s w f. absurd (cap_no_copy (g.M.Segments.segments (message_of c.args.v.now)) s w h.0 f h.1)

pub returns-in-Err-clause-first_cap : goal.returns-in-Err-clause-first_cap
returns-in-Err-clause-first_cap g c = λ s w f. ap Err (same_fault c.in-Err.fault (HasCapability s w) (c.in-Err.ensures.cap s w f))
