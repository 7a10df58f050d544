use Rattle.cap_spec.proofs.ProofNames.{[], ap, arith, refl, sym, ◌-◌, ◌∙◌, Consumes-nil}
use Rattle.cap_words.specs.declared.byte_io.Phase.TheVariants.{Ended}
use Rattle.cap_pack.specs.Course.{ends}
use Rattle.cap_pack.specs.State.{ahead}
use Rattle.cap_pack.proofs.Steps.{given_rest, given_words, left_cut, left_none, no_group, none_words, word_cut_step}
use Rattle.cap_pack.proofs.Steps.{zero_step}
use Rattle.cap_pack.proofs.unpacker.UnpackerWordSource.next.Goals as goal

pub returns-then-self-gt0-clause-words : goal.returns-then-self-gt0-clause-words
returns-then-self-gt0-clause-words g c =
    let s = c.args.self.now in
    given_words (ahead s.phase s.zeros s.plain s.bytes.read) (ahead s.phase (s.zeros - 1) s.plain s.bytes.read) 0 s.bytes.read []
    (zero_step s.phase s.zeros s.plain s.bytes.read c.in-Open.is (omega arith)) _ _ (Consumes-nil _)

pub returns-then-self-gt0-clause-word : goal.returns-then-self-gt0-clause-word
returns-then-self-gt0-clause-word g c =
    let s = c.args.self.now in
    given_rest (ahead s.phase s.zeros s.plain s.bytes.read) (ahead s.phase (s.zeros - 1) s.plain s.bytes.read) 0 s.bytes.read []
    (zero_step s.phase s.zeros s.plain s.bytes.read c.in-Open.is (omega arith)) _ _ (Consumes-nil _)

pub returns-in-Err-clause-truncated : goal.returns-in-Err-clause-truncated
returns-in-Err-clause-truncated g c = λ byte is.
    let s = c.args.self.now in
    let t = c.in-Err.ensures.truncated byte (cc) in
    left_cut (ahead s.phase s.zeros s.plain s.bytes.read) c.read_word.new.bytes.read t.1.0 _ _
    (word_cut_step s.phase s.zeros s.plain s.bytes.read c.read_word.new.bytes.read t.1.0 c.in-Open.is (omega arith) (omega arith) t.1.3) t.1.1.lost t.1.2

pub returns-in-Ok-None-clause-words : goal.returns-in-Ok-None-clause-words
returns-in-Ok-None-clause-words g c =
    let s = c.args.self.now in
    let n = c.in-Ok-None.ensures.none (cc) in
    none_words (ahead s.phase s.zeros s.plain s.bytes.read) (ahead Ended s.zeros s.plain c.read_head.new.bytes.read) s.bytes.read c.read_head.new.bytes.read _ _
    (no_group s.phase s.zeros s.plain s.bytes.read c.in-Open.is (omega arith) (omega arith)) (λ l. refl) n.0.lost n.1

pub returns-in-Ok-None-clause-none : goal.returns-in-Ok-None-clause-none
returns-in-Ok-None-clause-none g c = λ is.
    let s = c.args.self.now in
    let n = c.in-Ok-None.ensures.none (cc) in
    left_none (ahead s.phase s.zeros s.plain s.bytes.read) c.read_head.new.bytes.read _ _
    (no_group s.phase s.zeros s.plain s.bytes.read c.in-Open.is (omega arith) (omega arith) ∙ ap ends (sym n.2)) n.0.lost n.1
