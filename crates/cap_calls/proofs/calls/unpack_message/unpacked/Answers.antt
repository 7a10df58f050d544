-- What was written and why the call stops is what is reported.
use Rattle.cap_spec.proofs.ProofNames.{List, subst, sym, ℕ, take_rest, arith, drop, length, length-take-le, take}
use Rattle.cap_spec.proofs.ProofNames.{take-take, ◌*◌, ◌+◌, ◌<◌, ◌∙◌, ◌≡◌, ◌≤◌, AllByRecursion, [], ap, append-nil}
use Rattle.cap_spec.proofs.ProofNames.{append_assoc, ap₂, length-drop, take-append-drop, ◌%◌, ◌++◌, drop_all}
use Rattle.cap_spec.proofs.ProofNames.{plain_text, plain_words, rules}
use Rattle.cap_words.proofs.Buffered.{bytes_small}
use Rattle.cap_frame.specs.Limit.{limit_of}
use Rattle.cap_calls.specs.CallNames.{IsEnd, StopsCall, AreLimits, Appends, IsOpen, IsState, ReportsUnpackMessage}
use Rattle.cap_calls.specs.CallNames.{state_of, unpacks, Answer, Stage, CallLimits, CallReport, Unpacking, WritesWords}
use Rattle.cap_frame.specs.Fronts.{IsFront}
use Rattle.cap_calls.specs.MessageStages.{ReachesStage}
use Rattle.cap_calls.specs.declared.packed_stream.Given.{Given}
use Rattle.cap_calls.proofs.MessageStages.{all_of_message}
use Rattle.cap_spec.proofs.Lemmas.{all_drop, all_take, plain_split, words_exact}
use Rattle.cap_calls.proofs.calls.unpack_message.unpacked.Goals as goal

-- What a call that unpacks a message gives, by the words that it gave and the stage of the message.
-- The words that a call gave are appended to the message.
-- the words of the buffer from where the call began
abbrev words_given : ℕ → List ℕ → Given → List ℕ
words_given start new g = plain_words (drop start (take g.written new))

-- how many bytes they have
given_long : (start z p : ℕ) (bytes old new : List ℕ) (g : Given) → start % 8 ≡ 0 → WritesWords start z p bytes old new g
    → start + 8 * length (words_given start new g) ≡ g.written
given_long start z p bytes old new g first f = search (rules, words_exact, length-drop, length-take-le)

appended : (limit : ℕ) (bytes old new : List ℕ) (state : Unpacking) (g : Given) → AllByRecursion (λ b. b < 256) new
    → state.written % 8 ≡ 0 → WritesWords state.written state.zero_words state.literal_words bytes old new g
    → ((n : ℕ) → state.written ≤ n → n < g.written → n % 8 ≡ 0 → (needed : ℕ) × IsOpen limit (take n new) needed)
    → Appends limit bytes old state (words_given state.written new g) g.taken g.zeros g.literal new
appended limit bytes old new state g small first f before =
    let W = state.written in
    let own = drop W (take g.written new) in
    let ws = plain_words own in
    let total : W + 8 * length ws ≡ g.written = given_long W state.zero_words state.literal_words bytes old new g first f in
    let inside : g.written ≤ length new = omega (arith, f.fits, f.long) in
    let s = plain_split own (all_drop (λ (b : ℕ). b < 256) W (take g.written new) (all_take (λ (b : ℕ). b < 256) g.written new small)) in
    let none : drop (8 * length ws) own ≡ [] =
    drop_all (8 * length ws) own (omega (arith, length-drop W (take g.written new), length-take-le g.written new inside, total)) in
    let text : own ≡ plain_text ws = s.whole ∙ (ap (λ (l : List ℕ). plain_text ws ++ l) none ∙ append-nil (plain_text ws)) in
    let front : take W (take g.written new) ≡ take W old = take-take W g.written new f.after ∙ f.front in
    record {
      fits = omega (arith, total, f.fits);
      leads = f.leads;
      text =
          sym (take-append-drop g.written new)
          ∙ (ap (λ (l : List ℕ). l ++ drop g.written new) (sym (take-append-drop W (take g.written new)))
          ∙ (ap₂ (λ (k l : List ℕ). (k ++ l) ++ drop g.written new) front text
          ∙ (append_assoc (take W old) (plain_text ws) (drop g.written new)
          ∙ ap (λ (l : List ℕ). take W old ++ (plain_text ws ++ l)) (f.rest ∙ ap (λ (k : ℕ). drop k old) (sym total)))));
      before = λ n l. before (W + 8 * n) (omega arith) (omega (arith, l, total)) (omega (arith, first));
      left = f.left;
    }

-- The call is at the end of what it unpacked.
at_end : (limit : ℕ) (bs old new : List ℕ) (state : Unpacking) (g : Given) (stage : Stage) → IsState limit state old
    → ReachesStage limit state.written state.zero_words state.literal_words bs old new g stage
    → IsEnd limit (length old) (take g.written new) (drop g.taken bs) g stage
at_end limit bs old new state g stage is f =
    let inside : g.written ≤ length new = omega (arith, f.gives.fits, f.gives.long) in
    let long = length-take-le g.written new inside in
    let start : take state.written (take g.written new) ≡ take state.written old =
    take-take state.written g.written new f.gives.after ∙ f.gives.front in
    record {
      long = long;
      is_stage = f.is_stage;
      exact = λ m n h. all_of_message limit state.written n (take g.written new) m is.whole
          (λ k from less whole.
          let known = f.before k from (omega (arith, less, long)) whole in (
            known.0,
            subst (λ (x : List ℕ). IsOpen limit x known.0)
                (sym (take-take k g.written new (omega (arith, less, long)))) known.1,
          ))
          (λ m n front. is.unfinished m n (subst (λ (x : List ℕ). IsFront limit x m n) start front)) h;
      ends = f.ends;
    }

-- So it gives this.
reported_stop : (l : CallLimits) (limit : ℕ) (bs old new : List ℕ) (state left : Unpacking) (g : Given) (stage : Stage) (a : Answer)
    (consumed required : ℕ) (r : CallReport) → AreLimits l → limit ≡ l.message_words → AllByRecursion (λ b. b < 256) new
    → IsState limit state old → ReachesStage limit state.written state.zero_words state.literal_words bs old new g stage
    → ((size : ℕ) (held : List ℕ) → IsEnd limit size held (drop g.taken bs) g stage
    → StopsCall limit size held g.zeros g.literal (drop g.taken bs) a required left.written r) → consumed ≡ g.taken
    → left ≡ state_of left.written g.zeros g.literal state
    → ReportsUnpackMessage l bs old state a consumed required new left r
reported_stop l limit bs old new state left g stage a consumed required r lim e small is f stops c s =
    let ws = words_given state.written new g in
    let total : state.written + 8 * length ws ≡ g.written =
    given_long state.written state.zero_words state.literal_words bs old new g is.whole f.gives in
    let stop = stops (length old) (take g.written new) (at_end limit bs old new state g stage is f) in
    let here = subst (λ (k : ℕ). StopsCall limit (length old) (take k new) g.zeros g.literal (drop g.taken bs) a required left.written r)
    (sym total) stop in
    let rest = subst (λ (k : ℕ). StopsCall limit (length old) (take (state.written + 8 * length ws) new) g.zeros g.literal (drop k bs) a required
    left.written r) (sym c) here in
    let words = appended limit bs old new state g small is.whole f.gives f.before in
    unpacks ws g.zeros g.literal left.written lim (subst (λ (k : ℕ). IsState k state old) e is)
    (subst (λ (k : ℕ). Appends k bs old state ws consumed g.zeros g.literal new) e
    (subst (λ (k : ℕ). Appends limit bs old state ws k g.zeros g.literal new) (sym c) words))
    (subst (λ (k : ℕ). StopsCall k (length old) (take (state.written + 8 * length ws) new) g.zeros g.literal (drop consumed bs) a required
    left.written r) e rest)
    s

pub returns : goal.returns
returns c =
    let limit = limit_of c.in-Some.size in
    let bs = c.args.bytes.now in
    let new = c.fill-stage.new.out in
    let g = c.fill-stage.result.0 in
    let stage = c.fill-stage.result.1 in
    let stop = c.stop_of.result in
    reported_stop c.args.limits.now limit bs c.args.out.now new c.args.state stop.state g stage stop.answer stop.consumed stop.required stop.report
    c.in-Some.ensures.some.0 c.in-Some.ensures.some.1 (bytes_small new (λ i. c.type_inv.out i))
    (c.is_state.ensures.0 c.if-not-is_state.false) c.fill-stage.ensures
    (λ size held h.
    subst (λ (x : List ℕ). StopsCall limit size held g.zeros g.literal x stop.answer stop.required stop.state.written stop.report)
    (take_rest bs g.taken)
    (c.stop_of.ensures.stops limit size held (subst (λ (x : List ℕ). IsEnd limit size held x g stage) (sym (take_rest bs g.taken)) h)))
    c.stop_of.ensures.consumed c.stop_of.ensures.state
