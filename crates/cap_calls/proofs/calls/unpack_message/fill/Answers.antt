-- The words of one stage more.
use Rattle.cap_spec.proofs.ProofNames.{List, ap, arith, drop, drop-drop, inl, inr, length, length-drop, length-take, refl}
use Rattle.cap_spec.proofs.ProofNames.{subst, sym, take, ℕ, ◌+◌, ◌-◌, ◌∙◌, ◌≤◌, cases_lt, take_rest, take-put_mid_below}
use Rattle.cap_frame.specs.Limit.{limit_of}
use Rattle.cap_calls.specs.CallNames.{words_to_come, IsOpen}
use Rattle.cap_calls.proofs.GivenWords.{gives_more, gives_none}
use Rattle.cap_calls.proofs.MessageStages.{ends_at, still_open, needed_whole}
use Rattle.cap_calls.proofs.calls.unpack_message.fill.Goals as goal

pub stages-init : goal.stages-init
stages-init c =
    let state = c.args.state in
    record {
      gives = gives_none state.written state.zero_words state.literal_words c.args.bytes.now c.args.out.now c.requires.inside c.requires.whole
          c.requires.left;
      before = λ n from less e. absurd (omega (arith, from, less));
    }

pub stages-preserved : goal.stages-preserved
stages-preserved c =
    let state = c.args.state in
    let bs = c.args.bytes.now in
    let out = c.stages.out in
    let d = c.stages.done in
    let e = c.give-next.result in
    let given = c.give-next.new.out in
    let far = c.stages.invariant in
    let gives = c.give-next.ensures.gives in
    let k = c.min-end.result - d.written in
    let part = take k (drop d.written out) in
    let inside : d.written ≤ length out = omega (arith, far.gives.fits, far.gives.long) in
    record {
      gives = gives_more state.written state.zero_words state.literal_words k bs (take (length bs - d.taken) (drop d.taken bs)) c.args.out.now
          out part given d e c.requires.whole far.gives refl gives.long (take_rest bs d.taken) gives;
      before = λ n from less whole. elim (cases_lt n d.written) [
        | inl few ↦
            let known = far.before n from few whole in (
              known.0,
              subst (λ (x : List ℕ). IsOpen (limit_of c.args.size) x known.0)
                  (sym (take-put_mid_below d.written k out given n (omega (arith, few)) inside)) known.1,
            )
        | inr many ↦ (
          c.in-Open.needed,
          still_open (limit_of c.args.size) c.in-Open.needed d.written k n out given far.gives.whole whole many
              (omega (arith, less, gives.fits, gives.long)) (omega (arith, less, gives.fits, length-take k (drop d.written out))) inside
              c.in-Open.ensures,
        )
      ];
    }

pub returns-then-done-needed : goal.returns-then-done-needed
returns-then-done-needed c =
    let state = c.args.state in
    let bs = c.args.bytes.now in
    let out = c.stages.out in
    let d = c.stages.done in
    let e = c.give-next.result in
    let given = c.give-next.new.out in
    let far = c.stages.invariant in
    let gives = c.give-next.ensures.gives in
    let k = c.min-end.result - d.written in
    let part = take k (drop d.written out) in
    let inside : d.written ≤ length out = omega (arith, far.gives.fits, far.gives.long) in
    let eight = needed_whole (limit_of c.args.size) c.in-Open.needed (take d.written out) c.in-Open.ensures in
    record {
      gives = gives_more state.written state.zero_words state.literal_words k bs (take (length bs - d.taken) (drop d.taken bs)) c.args.out.now
          out part given d e c.requires.whole far.gives refl gives.long (take_rest bs d.taken) gives;
      is_stage = c.stage_of.ensures;
      before = λ n from less whole. elim (cases_lt n d.written) [
        | inl few ↦
            let known = far.before n from few whole in (
              known.0,
              subst (λ (x : List ℕ). IsOpen (limit_of c.args.size) x known.0)
                  (sym (take-put_mid_below d.written k out given n (omega (arith, few)) inside)) known.1,
            )
        | inr many ↦ (
          c.in-Open.needed,
          still_open (limit_of c.args.size) c.in-Open.needed d.written k n out given far.gives.whole whole many
              (omega (arith, less, gives.fits, gives.long)) (omega (arith, less, gives.fits, length-take k (drop d.written out))) inside
              c.in-Open.ensures,
        )
      ];
      ends = ends_at c.stage_of.result (length c.args.out.now)
          (record { taken = d.taken + e.taken; written = d.written + e.written; zeros = e.zeros; literal = e.literal })
          (drop (d.taken + e.taken) bs)
          (λ space.
          ap (words_to_come e.zeros e.literal) (sym (ap (drop e.taken) (take_rest bs d.taken) ∙ drop-drop e.taken d.taken bs))
          ∙ c.give-next.ensures.ends (omega (
            arith,
            space,
            eight,
            gives.whole,
            far.gives.whole,
            far.gives.long,
            length-take k (drop d.written out),
            length-drop d.written out,
            c.if-done-needed.true,
          )));
    }
