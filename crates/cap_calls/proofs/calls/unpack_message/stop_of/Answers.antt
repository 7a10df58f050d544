-- The stop at each stage.
use Rattle.std.proofs.Common.{ap, ap₂, length, refl, subst, sum, sym, ℕ, ◌∙◌}
use Rattle.cap_spec.specs.Frames.{sizes_of}
use Rattle.cap_frame.specs.Fronts.{IsFront}
use Rattle.cap_calls.specs.CallNames.{IsEnd, too_many, Stage, CallReport}
use Rattle.cap_calls.specs.UnpackingMessages.{too_large, whole}
use Rattle.cap_calls.proofs.calls.unpack_message.stop_of.Goals as goal

pub returns-in-Open-clause-stops : goal.returns-in-Open-clause-stops
returns-in-Open-clause-stops c = λ limit size held e.
    c.open_stop.ensures.stops limit size held
    (subst (λ (s : Stage). IsEnd limit size held c.args.rest.now c.args.given s) c.in-Open.is e)

pub returns-in-Whole-clause-stops : goal.returns-in-Whole-clause-stops
returns-in-Whole-clause-stops c = λ limit size held e.
    let t = subst (λ (s : Stage). IsEnd limit size held c.args.rest.now c.args.given s) c.in-Whole.is e in
    let m = t.is_stage.0 in
    rw c.whole_stop.ensures
    (whole m (subst (λ (k : ℕ). IsFront limit held m k) (t.exact m t.is_stage.1 t.is_stage.2) t.is_stage.2) refl (sym t.long) refl
    (ap₂ (λ (n k : ℕ). record c.none.result { length = n; segments = k; words = c.in-Whole.words }) (sym t.long) t.is_stage.3
    ∙ (ap (λ (k : ℕ). record c.none.result { length = length held; segments = length m; words = k }) t.is_stage.4
    ∙ ap (λ (x : CallReport). record x { length = length held; segments = length m; words = sum (sizes_of m) }) c.none.ensures)))

pub returns-in-TooMany-clause-stops : goal.returns-in-TooMany-clause-stops
returns-in-TooMany-clause-stops c = λ limit size held e.
    let t = subst (λ (s : Stage). IsEnd limit size held c.args.rest.now c.args.given s) c.in-TooMany.is e in
    rw c.refused_stop.ensures (too_many c.in-TooMany.count t.is_stage refl refl (sym t.long)
    (ap (λ (x : CallReport). record x { detail = c.in-TooMany.count }) c.none.ensures))

pub returns-in-TooLarge-clause-stops : goal.returns-in-TooLarge-clause-stops
returns-in-TooLarge-clause-stops c = λ limit size held e.
    let t = subst (λ (s : Stage). IsEnd limit size held c.args.rest.now c.args.given s) c.in-TooLarge.is e in
    rw c.refused_stop-in-TooLarge.ensures (too_large c.in-TooLarge.words t.is_stage refl refl (sym t.long)
    (ap (λ (x : CallReport). record x { detail = c.in-TooLarge.words }) c.none.ensures))
