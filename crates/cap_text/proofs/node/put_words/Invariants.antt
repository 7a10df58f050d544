use Rattle.cap_spec.proofs.ProofNames.{drop, length, ◌-◌, words_of_own, word_lines}
use Rattle.cap_vet.specs.Views.{shown}
use Rattle.cap_text.proofs.Paging.{Left}
use Rattle.cap_text.proofs.node.put_words.Given as goal

abbrev pub invariant-loop-word : goal.invariant-loop-word
invariant-loop-word g l =
    Left g.O.ByteOut (l.initial.out, l.initial.page) (l.out, l.page) (word_lines l.level l.letter 0 (words_of_own (shown l.view)))
    (word_lines l.level l.letter l.i (drop l.i (words_of_own (shown l.view))))

abbrev pub decreases-loop-word : goal.decreases-loop-word
decreases-loop-word g l = length (words_of_own (shown l.view)) - l.i
