use Rattle.cap_spec.proofs.ProofNames.{[], drop, replicate, ◌*◌, ◌++◌, ◌∷◌, words_of_own, hex, label, word_lines}
use Rattle.cap_vet.specs.Views.{shown}
use Rattle.cap_text.proofs.Nodes.{lines_stop, word_step, words_done}
use Rattle.cap_text.proofs.Paging.{added_line, left_start}
use Rattle.cap_text.proofs.node.put_words.Goals as goal

pub loop-word-init : goal.loop-word-init
loop-word-init g c = left_start g.O.ByteOut (c.args.out.now, c.args.page.now) (word_lines c.args.level c.args.letter 0 (words_of_own (shown c.args.view.now)))

pub loop-word-preserved : goal.loop-word-preserved
loop-word-preserved g c =
    word_step g.O.ByteOut c.args.level c.args.letter c.loop-word.i c.in-Some.word (words_of_own (shown c.args.view.now)) c.in-Some.ensures.value
    (c.args.out.now, c.args.page.now) (c.loop-word.out, c.loop-word.page) (c.make_space.new.out, c.word_line.new.page) c.loop-word.invariant
    (added_line g.O.ByteOut (c.loop-word.out, c.loop-word.page) (c.make_space.new.out, c.make_space.new.page) c.word_line.new.page
    (replicate (2 * c.args.level) 32 ++ (label c.args.letter c.loop-word.i ++ 32 ∷ hex c.in-Some.word ++ 10 ∷ [])) c.in-Ok.ensures.adds c.word_line.ensures)

pub returns-in-Err : goal.returns-in-Err
returns-in-Err g c =
    lines_stop g.O.ByteOut (c.args.out.now, c.args.page.now) (c.loop-word.out, c.loop-word.page) (c.make_space.new.out, c.make_space.new.page) c.in-Err.fault
    (word_lines c.args.level c.args.letter 0 (words_of_own (shown c.args.view.now)))
    (word_lines c.args.level c.args.letter c.loop-word.i (drop c.loop-word.i (words_of_own (shown c.args.view.now))))
    c.loop-word.invariant c.in-Err.ensures.adds

pub returns : goal.returns
returns g c =
    words_done g.O.ByteOut c.args.level c.args.letter c.loop-word.i (words_of_own (shown c.args.view.now))
    (c.args.out.now, c.args.page.now) (c.loop-word.out, c.loop-word.page)
    c.in_default.ensures.value c.loop-word.invariant
