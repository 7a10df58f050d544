use Rattle.cap_spec.proofs.ProofNames.{List, Some, ap, refl, subst, ℕ, ◌∙◌, ◌≡◌}
use Rattle.cap_words.specs.Vectors.{vec_written}
use Rattle.cap_words.specs.declared.vec_out.VecOut.{VecOut}
use Rattle.cap_frame.specs.HeldBytes.{held_segments}
use Rattle.cap_frame.specs.Limit.{limit_of}
use Rattle.cap_run.specs.Single.{padded_frame}
use Rattle.cap_run.proofs.Settling.{answered_absurd}
use Rattle.cap_run.proofs.Streams.{reads_named}
use Rattle.cap_run.proofs.engines.single.read_single.Goals as goal

pub returns-in-Some : goal.returns-in-Some
returns-in-Some g c =
    let read = c.in-Ok-true.ensures.read in
    let r = read.message (cc) in
    let held = held_segments c.read_next.new.message in
    let written : vec_written c.in-Some.frame ≡ Some (padded_frame held)
    = c.in-Some.ensures ∙ ap (λ (m : List (List ℕ)). Some (padded_frame m)) c.view.ensures in
    record {
      message = λ frame e. (
        held,
        reads_named g.S.WordSource (limit_of c.args.settings.now.size) c.args.source.now c.read_next.new.source held r read.next.works,
        (let same : c.in-Some.frame ≡ frame = cc in subst (λ (f : VecOut). vec_written f ≡ Some (padded_frame held)) same written),
      );
      none = λ e. absurd (cc);
      err = tt;
      broken = tt;
      whole = λ ws e b.
          let d = read.decides.whole ws e b in
          (c.in-Some.frame, refl, subst (λ (m : List (List ℕ)). vec_written c.in-Some.frame ≡ Some (padded_frame m)) d.1 written, d.2);
      empty = λ e cut. let d = read.decides.no_word e cut in absurd (cc);
    }

pub returns-in-Ok-true : goal.returns-in-Ok-true
returns-in-Ok-true g c =
    let read = c.in-Ok-true.ensures.read in
    let r = read.message (cc) in
    let held = held_segments c.read_next.new.message in
    rw c.stopped_at.ensures (record {
      message = λ frame e. absurd (cc);
      none = λ e. absurd (cc);
      err = (
        refl,
        (
          held,
          reads_named g.S.WordSource (limit_of c.args.settings.now.size) c.args.source.now c.read_next.new.source held r read.next.works,
        ),
      );
      broken = tt;
      whole = λ ws e b. tt;
      empty = λ e cut. tt;
    })

pub returns-in-Ok-false : goal.returns-in-Ok-false
returns-in-Ok-false g c =
    let read = c.in-Ok-false.ensures.read in
    record {
      message = λ frame e. absurd (cc);
      none = λ e. record { none = read.next.none (cc); ended = read.next.ended (cc); works = read.next.works };
      err = tt;
      broken = tt;
      whole = λ ws e b. let d = read.decides.whole ws e b in absurd (let is = d.0 in cc);
      empty = λ e cut. refl;
    }

pub returns : goal.returns
returns g c =
    let read = c.in-Err.ensures.read in
    rw c.stopped_at-in-Err.ensures (record {
      message = λ frame e. absurd (cc);
      none = λ e. absurd (cc);
      err = (refl, read.next.err);
      broken = rw c.no_break-at.ensures at c.in-Err.ensures.at;
      whole = λ ws e b. answered_absurd c.in-Err.fault _ _ (λ a. let is = a.0 in cc) (read.decides.whole ws e b);
      empty = λ e cut. answered_absurd c.in-Err.fault _ _ (λ a. cc) (read.decides.no_word e cut);
    })
