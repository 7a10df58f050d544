use Rattle.cap_spec.proofs.Bytes.Plain.{plain_back}
use Rattle.cap_spec.proofs.ProofNames.{[], ap, arith, drop, length, refl, rules, take, take_all, ◌++◌, ◌∙◌, ◌∷◌, ◌≡◌}
use Rattle.cap_spec.proofs.ProofNames.{take-append-le, plain_words, word_bytes}
use Rattle.cap_pack.proofs.BufferedBytes.{gives_head}
use Rattle.cap_pack.proofs.buffered.first.Goals as goal

pub returns-clause-unpacks : goal.returns-clause-unpacks
returns-clause-unpacks c =
    let word = c.head_of-head.result.word in
    let given = c.copy_from_slice-2.new.self in
    let rest = drop 8 c.args.out.now in
    let bytes : given ≡ word_bytes word = c.copy_from_slice-2.ensures.after ∙ c.bytes_of.ensures.value in
    let long : length given ≡ 8 = ap length bytes in
    let front : take 8 (given ++ rest) ≡ word_bytes word = take-append-le 8 given rest (omega arith) ∙ take_all 8 given (omega arith) ∙ bytes in
    let one : plain_words (take 8 (given ++ rest)) ≡ word ∷ [] = ap plain_words front ∙ plain_back (word ∷ []) [] (search rules, tt) in
    record {
      within = omega (arith, c.requires.held, c.head_len.ensures.few);
      fits = omega (arith, long);
      whole = refl;
      gives = rw one (gives_head c.head_len.result word c.head_of-head.result.zeros c.head_of-head.result.plain c.args.from.now _
          c.head_len.ensures.few c.requires.held c.copy_from_slice.ensures.after c.head_len.ensures.rest c.head_of-head.ensures.word
          c.head_of-head.ensures.zeros c.head_of-head.ensures.plain);
    }
