-- The path goes on from the first steps.
use Rattle.cap_spec.proofs.ProofNames.{[], arith, subst, sym, ◌++◌, ◌∷◌, ∥∥₁_map, rules}
use Rattle.cap_vet.specs.VetNames.{IsPathEnd, PathEnd}
use Rattle.cap_vet.proofs.GivenPaths.{given_after, no_node_longer, refused_longer, step_no_node, step_on, step_refused}
use Rattle.cap_vet.proofs.AtSomePlace.{arrival_few, arrival_levels, end_arrives, end_found}
use Rattle.cap_vet.proofs.nodes.path_start.PathStart.get.Goals.{in-Early, in-Refused, in-To+in-Err, in-To+in-Ok-None}
use Rattle.cap_vet.proofs.nodes.path_start.PathStart.get.Goals.{in-To+in-Ok-Some}
use Rattle.cap_vet.proofs.nodes.path_start.PathStart.get.Goals as goal

pub step-requires : goal.step-requires
step-requires g c =
    let at = end_arrives _ _ _ c.in-To.at c.args.self.now.leads c.in-To.is in
    let l = arrival_levels _ _ _ c.in-To.at at in
    let f = arrival_few _ _ _ c.in-To.at at in
    record { arrived = at; levels = omega (arith, l); few = omega (arith, f) }

pub along-requires : goal.along-requires
along-requires g c = record {
  arrived = ∥∥₁_map (end_arrives _ _ _ c.in-To.at c.args.self.now.leads c.in-To.is) (λ r.
      let next = rw c.in-Ok-Some.field-0-is at (c.in-Ok-Some.ensures.some r.0 r.1 r.2) in
      (r.0 ++ c.args.step ∷ [], next.0, next.1));
}

pub given-requires : goal.given-requires
given-requires g c = search (rules, end_found)

pub returns-clause-given : goal.returns-clause-given
returns-clause-given g c = λ steps left.
    let start = c.args.self.now in
    let step = c.args.step in
    let m = g.M.Segments.segments start.message.now in
    given_after step steps _ c.given.ensures.given (λ first leads. elim c.match-self.branch [
      | in-To+in-Ok-Some w ↦ (
          let h = rw w.in-To.is at leads in
          let next = rw w.in-Ok-Some.field-0-is at (w.in-Ok-Some.ensures.some first h.0 h.1) in
          rw w.end-is (step_on m start.words start.depth first steps step w.along.result
          (w.along.ensures.end (first ++ step ∷ []) steps next.0 next.1 left)))
      | in-To+in-Ok-None w ↦ (
          let h = rw w.in-To.is at leads in
          let none = rw w.in-Ok-None.field-0-is at (w.in-Ok-None.ensures.none first h.0 h.1) in
          rw w.end-is (step_no_node m start.words start.depth first steps step h.0 w.in-To.at h.1 none))
      | in-To+in-Err w ↦ (
          let h = rw w.in-To.is at leads in
          subst (λ (x : PathEnd). IsPathEnd m start.words start.depth (first ++ step ∷ steps) x) (sym w.end-is)
          (step_refused first steps step (w.in-Err.ensures.err first h.0 h.1)))
      | in-Early w ↦ search (rules, no_node_longer)
      | in-Refused w ↦ search (rules, refused_longer)
    ])
