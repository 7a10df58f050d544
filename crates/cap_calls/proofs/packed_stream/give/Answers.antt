-- Some words more.
use Rattle.cap_spec.proofs.ProofNames.{ap, arith, drop, drop-drop, length, refl, sym, take, ◌-◌, ◌∙◌, take_rest}
use Rattle.cap_calls.specs.PackedStreams.{words_to_come}
use Rattle.cap_calls.proofs.GivenWords.{gives_more, gives_none}
use Rattle.cap_calls.proofs.packed_stream.give.Goals as goal

pub words-init : goal.words-init
words-init c = gives_none 0 c.args.zeros c.args.literal c.args.bytes.now c.args.out.now (omega arith) refl c.requires

pub returns-then-next-eq0-clause-gives : goal.returns-then-next-eq0-clause-gives
returns-then-next-eq0-clause-gives c =
    let bs = c.args.bytes.now in
    let out = c.words.out in
    let d = c.words.done in
    gives_more 0 c.args.zeros c.args.literal (length out - d.written) bs (take (length bs - d.taken) (drop d.taken bs)) c.args.out.now out
    (take (length out - d.written) (drop d.written out)) c.give_some-next.new.out d c.give_some-next.result refl c.words.invariant refl
    c.give_some-next.ensures.gives.long (take_rest bs d.taken) c.give_some-next.ensures.gives

pub words-preserved : goal.words-preserved
words-preserved c =
    let bs = c.args.bytes.now in
    let out = c.words.out in
    let d = c.words.done in
    gives_more 0 c.args.zeros c.args.literal (length out - d.written) bs (take (length bs - d.taken) (drop d.taken bs)) c.args.out.now out
    (take (length out - d.written) (drop d.written out)) c.give_some-next.new.out d c.give_some-next.result refl c.words.invariant refl
    c.give_some-next.ensures.gives.long (take_rest bs d.taken) c.give_some-next.ensures.gives

pub returns-then-next-eq0-clause-ends : goal.returns-then-next-eq0-clause-ends
returns-then-next-eq0-clause-ends c = λ _.
    let bs = c.args.bytes.now in
    let d = c.words.done in
    let e = c.give_some-next.result in
    ap (words_to_come e.zeros e.literal) (sym (ap (drop e.taken) (take_rest bs d.taken) ∙ drop-drop e.taken d.taken bs))
    ∙ c.give_some-next.ensures.none c.if-next-eq0.true
