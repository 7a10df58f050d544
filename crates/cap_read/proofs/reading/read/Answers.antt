use Rattle.cap_spec.proofs.ProofNames.{Err, IfSome, MatchOption, None, Some, ap, length, subst, ℕ, ◌+◌, ◌<◌, ◌∙◌, ◌≡◌, ◌≤◌}
use Rattle.cap_spec.proofs.ProofNames.{Denotes, segment_of, HasPlace, ReachesSpot, Spot, own_of, DenotesAt, Tree, node_at}
use Rattle.cap_vet.specs.Views.{node_spot, shown, view_place}
use Rattle.cap_ptr.specs.declared.place.Place.{Place}
use Rattle.cap_read.proofs.Placing.{node_read, nothing_read}
use Rattle.cap_read.proofs.reading.read.Goals as goal

pub returns-in-None-clause-ok : goal.returns-in-None-clause-ok
returns-in-None-clause-ok g c =
    let message = c.in-Ok.ensures.message in
    let path = c.args.path.now in
    let none = subst (λ u. (level : ℕ) (a : Spot) → ReachesSpot (g.M.Segments.segments u) path level a → ⊥) message c.in-None.ensures.none in
    let empty = subst (λ u. (t : Tree) (x d : ℕ) → Denotes (g.M.Segments.segments u) 0 0 t x d → node_at t path ≡ None) message c.in-None.ensures.node in
    let tree = c.in-Ok.ensures.ok in
    nothing_read tree.0 (rw c.report-report.ensures.value tree.1) none empty

pub returns-in-Some-clause-ok : goal.returns-in-Some-clause-ok
returns-in-Some-clause-ok g c =
    let message = c.in-Ok.ensures.message in
    let of_node = c.in-Some.ensures.message ∙ message in
    let of_view = c.view-view.ensures.message ∙ of_node in
    let path = c.args.path.now in
    let spot = node_spot c.in-Some.node in
    let view = c.view-view.result in
    let comes = subst (λ u. (level : ℕ) × ReachesSpot (g.M.Segments.segments u) path level spot) message c.in-Some.ensures.some in
    let node = subst (λ u. (t : Tree) (x d : ℕ) → Denotes (g.M.Segments.segments u) 0 0 t x d →
    (y : Tree) × (node_at t path ≡ Some y) × DenotesAt (g.M.Segments.segments u) spot y) message c.in-Some.ensures.node in
    let shows = subst (λ u. (t : Tree) → DenotesAt (g.M.Segments.segments u) spot t → shown view ≡ own_of t) of_node c.view-view.ensures.shows in
    let lies = subst (λ u. MatchOption (view_place view) ((t b n : ℕ) → HasPlace (g.M.Segments.segments u) spot t b n → ⊥)
    (λ (p : Place). HasPlace (g.M.Segments.segments u) spot p.segment p.start p.words)) of_node c.view-view.ensures.place in
    let exists = subst (λ u. IfSome c.place.result (λ (p : Place). p.segment < length (g.M.Segments.segments u))) of_view c.place.ensures.exists in
    let inside = subst (λ u. IfSome c.place.result (λ (p : Place). p.start + p.words ≤ length (segment_of (g.M.Segments.segments u) p.segment)))
    of_view c.place.ensures.inside in
    let tree = c.in-Ok.ensures.ok in
    node_read tree.0 spot (rw c.report-report.ensures.value tree.1) comes node shows c.place.ensures.value lies exists inside

pub returns-in-Err-clause-refuses : goal.returns-in-Err-clause-refuses
returns-in-Err-clause-refuses g c = λ r h.
    let e = c.in-Err.ensures.refuses r h in
    let same : c.in-Err.refusal ≡ r = cc in ap Err same

pub returns-in-None-clause-refuses : goal.returns-in-None-clause-refuses
returns-in-None-clause-refuses g c = λ r h. absurd (cc (c.in-Ok.ensures.refuses r h))

pub returns-in-Some-clause-refuses : goal.returns-in-Some-clause-refuses
returns-in-Some-clause-refuses g c = λ r h. absurd (cc (c.in-Ok.ensures.refuses r h))
