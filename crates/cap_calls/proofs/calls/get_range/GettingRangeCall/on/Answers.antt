-- One node more is got, or the range ends.
use Rattle.std.proofs.Common.{ap, arith, length, refl, sym, ℕ, ◌++◌, ◌<◌, ◌∙◌, ◌∷◌, ◌≡◌}
use Rattle.cap_frame.specs.Bytes.{cut}
use Rattle.cap_calls.specs.CallNames.{Step, ByteView, refused_found, kind_node, offset_of, Gets, a_node, no_meeting}
use Rattle.cap_calls.specs.CallNames.{no_node, path_found, path_after, step_after, IsShortcutNode, Good, NoNode, Found}
use Rattle.cap_calls.proofs.RangeGotten.{more_so_far, nothing_not_good, range_full, range_stops, refused_not_good}
use Rattle.cap_calls.proofs.RangeGotten.{written_also}
use Rattle.cap_calls.proofs.RangePaths.{given_fault, given_node, given_nothing, given_path}
use Rattle.cap_calls.proofs.RangeShortcut.{count_shortcut, gets_shortcut}
use Rattle.cap_calls.proofs.calls.get_range.GettingRangeCall.on.Goals.{in-None+in-Ok-Some, in-Some}
use Rattle.cap_calls.proofs.calls.get_range.GettingRangeCall.on.Goals as goal

pub nodes-init : goal.nodes-init
nodes-init c =
    let self = c.args.self.now in
    let start = c.new-start.result in
    let path = λ (k : ℕ). path_after self.steps.now self.varying k in
    let first = path_after c.parts.result.0.rest.now 0 0 in
    let rest = path_after c.parts.result.2.rest.now 0 0 in
    let step = c.parts.result.1 in
    let m = cut c.args.view.now.sizes.now c.args.view.now.bytes.now in
    let n = cut start.message.now.sizes.now start.message.now.bytes.now in
    let seen : n ≡ m = ap (λ (v : ByteView). cut v.sizes.now v.bytes.now) c.new-start.ensures.message in
    let is = c.new-start.ensures.start first refl in
    written_also (λ k node. IsShortcutNode c.choose-shortcut.result k node)
    (λ k node. Gets (path k) node c.args.demands m c.args.limits.words c.args.limits.depth (path_found Good)) _ _ _
    (λ k node shortcut. gets_shortcut c.args.demands m n c.args.limits.words c.args.limits.depth first rest (path k) (step_after step k) start
    node seen is (c.parts.ensures k) (shortcut n start step c.parts.result.2.rest.now c.choose-shortcut.ensures))
    c.elements-done.ensures

pub elements-done-requires : goal.elements-done-requires
elements-done-requires c =
    let start = c.new-start.result in
    count_shortcut (cut start.message.now.sizes.now start.message.now.bytes.now) start c.parts.result.1 c.parts.result.2.rest.now c.choose-shortcut.result _
    (c.count.ensures ∙ ap (λ (v : ByteView). length (cut v.sizes.now v.bytes.now)) (sym c.new-start.ensures.message)) c.choose-shortcut.ensures

pub pointed-requires-clause-count : goal.pointed-requires-clause-count
pointed-requires-clause-count c =
    let start = c.new-start.result in
    count_shortcut (cut start.message.now.sizes.now start.message.now.bytes.now) start c.parts.result.1 c.parts.result.2.rest.now c.choose-shortcut.result _
    (c.count-in-nodes.ensures ∙ ap (λ (v : ByteView). length (cut v.sizes.now v.bytes.now)) (sym c.new-start.ensures.message))
    c.choose-shortcut.ensures

pub returns-in-Ok-None : goal.returns-in-Ok-None
returns-in-Ok-None c =
    let self = c.args.self.now in
    let path = path_after self.steps.now self.varying c.nodes.k in
    let first = path_after c.parts.result.0.rest.now 0 0 in
    let rest = path_after c.parts.result.2.rest.now 0 0 in
    let m = cut c.args.view.now.sizes.now c.args.view.now.bytes.now in
    let seen = ap (λ (v : ByteView). cut v.sizes.now v.bytes.now) c.new-start.ensures.message in
    let whole = c.parts.ensures c.nodes.k ∙ ap (λ (s : Step). first ++ s ∷ rest) (sym c.after.ensures) in
    let given = given_path c.args.demands m _ c.args.limits.words c.args.limits.depth first rest path c.after.result c.new-start.result
    c.get.result seen (c.new-start.ensures.start first refl) whole (c.get.ensures.given rest refl) in
    let nothing = given_nothing c.args.demands m c.args.limits.words c.args.limits.depth path c.get.result c.in-Ok-None.field-0
    c.in-Ok-None.is c.in-Ok-None.field-0-is given in
    range_stops (λ k. path_after self.steps.now self.varying k) c.nodes.out c.nodes.k c.stopped.result (path_found NoNode)
    c.nodes.invariant (omega (arith, c.nodes-test.true)) (no_node nothing.0 nothing.1 refl refl)
    nothing_not_good (c.stopped.ensures ∙ ap (λ (f : Found). record f { count = c.nodes.k }) c.path_answer.ensures)

pub returns-in-Err : goal.returns-in-Err
returns-in-Err c =
    let self = c.args.self.now in
    let path = path_after self.steps.now self.varying c.nodes.k in
    let first = path_after c.parts.result.0.rest.now 0 0 in
    let rest = path_after c.parts.result.2.rest.now 0 0 in
    let m = cut c.args.view.now.sizes.now c.args.view.now.bytes.now in
    let seen = ap (λ (v : ByteView). cut v.sizes.now v.bytes.now) c.new-start.ensures.message in
    let whole = c.parts.ensures c.nodes.k ∙ ap (λ (s : Step). first ++ s ∷ rest) (sym c.after.ensures) in
    let given = given_path c.args.demands m _ c.args.limits.words c.args.limits.depth first rest path c.after.result c.new-start.result
    c.get.result seen (c.new-start.ensures.start first refl) whole (c.get.ensures.given rest refl) in
    let fault = given_fault c.args.demands m c.args.limits.words c.args.limits.depth path c.get.result c.in-Err.refusal c.in-Err.is given in
    range_stops (λ k. path_after self.steps.now self.varying k) c.nodes.out c.nodes.k c.stopped-in-Err.result
    (refused_found c.in-Err.refusal) c.nodes.invariant (omega (arith, c.nodes-test.true))
    (no_meeting c.in-Err.refusal fault refl refl) (refused_not_good c.in-Err.refusal)
    (c.stopped-in-Err.ensures ∙ ap (λ (f : Found). record f { count = c.nodes.k }) c.refused.ensures)

pub nodes-preserved : goal.nodes-preserved
nodes-preserved c =
    let self = c.args.self.now in
    let start = c.new-start.result in
    let path = path_after self.steps.now self.varying c.nodes.k in
    let first = path_after c.parts.result.0.rest.now 0 0 in
    let rest = path_after c.parts.result.2.rest.now 0 0 in
    let step = c.parts.result.1 in
    let m = cut c.args.view.now.sizes.now c.args.view.now.bytes.now in
    let n = cut start.message.now.sizes.now start.message.now.bytes.now in
    let seen : n ≡ m = ap (λ (v : ByteView). cut v.sizes.now v.bytes.now) c.new-start.ensures.message in
    let is = c.new-start.ensures.start first refl in
    let lt : c.nodes.k < length c.nodes.out = omega (arith, c.nodes-test.true, c.nodes.invariant.size) in
    elim c.match-pointed.branch [
      | in-Some w ↦ (
          let has = w.in-Some.ensures n start step c.parts.result.2.rest.now c.choose-shortcut.ensures in
          let gets = gets_shortcut c.args.demands m n c.args.limits.words c.args.limits.depth first rest path (step_after step c.nodes.k) start
          w.in-Some.node seen is (c.parts.ensures c.nodes.k) has in
          more_so_far (λ k. path_after self.steps.now self.varying k) c.nodes.out _ c.nodes.k w.in-Some.node c.nodes.invariant
          lt gets w.out-is)
      | in-None+in-Ok-Some w ↦ (
          let whole = c.parts.ensures c.nodes.k ∙ ap (λ (s : Step). first ++ s ∷ rest) (sym w.after.ensures) in
          let given = given_path c.args.demands m n c.args.limits.words c.args.limits.depth first rest path w.after.result start
          w.get.result seen is whole (w.get.ensures.given rest refl) in
          let at = w.in-Ok-Some.at in
          let place = at.found.place in
          let node = given_node c.args.demands m c.args.limits.words c.args.limits.depth path w.get.result w.in-Ok-Some.field-0 at
          w.in-Ok-Some.is w.in-Ok-Some.field-0-is given in
          let message = rw w.in-Ok-Some.field-0-is at w.in-Ok-Some.ensures.message in
          more_so_far (λ k. path_after self.steps.now self.varying k) c.nodes.out _ c.nodes.k w.of.result c.nodes.invariant lt
          (a_node at.found.kind place.segment place.start place.words node.0 node.1 refl
          (w.of.ensures ∙ ap (λ (u : ByteView). kind_node at.found.kind (offset_of (cut u.sizes.now u.bytes.now) place.segment place.start))
          (message ∙ c.new-start.ensures.message)))
          w.out-is)
    ]

pub returns : goal.returns
returns c =
    let self = c.args.self.now in
    let all : c.nodes.k ≡ length c.args.out.now = omega (arith, c.nodes-test.false, c.nodes.auto.k-end) in
    let out : length c.nodes.out ≡ c.nodes.k = omega (arith, c.nodes.invariant.size, all) in
    range_full (λ k. path_after self.steps.now self.varying k) c.nodes.out c.nodes.k c.stopped-2.result
    c.nodes.invariant all
    (c.stopped-2.ensures ∙ ap (λ (f : Found). record f { count = length c.nodes.out }) c.path_answer-2.ensures
    ∙ ap (λ (n : ℕ). record (path_found Good) { count = n }) out)
