-- The first word of a group.
use Rattle.cap_spec.proofs.Bytes.Plain.{plain_back}
use Rattle.cap_spec.proofs.ProofNames.{List, [], ap, arith, drop, drop_at, inl, length, length-append, length-drop, refl}
use Rattle.cap_spec.proofs.ProofNames.{rules, slice_index, subst, sym, take, take_at, ℕ, ◌++◌, ◌+◌, ◌∙◌, ◌∷◌, ◌≡◌}
use Rattle.cap_spec.proofs.ProofNames.{plain_words, word_bytes, IsWord}
use Rattle.cap_words.proofs.Buffered.{bytes_small}
use Rattle.cap_calls.specs.PackedStreams.{GivesWords}
use Rattle.cap_calls.proofs.GivenWords.{gives_none}
use Rattle.cap_calls.proofs.PackedStreams.{leads_head, no_head, one_run}
use Rattle.cap_calls.proofs.packed_stream.give_first.Goals as goal

pub returns-in-Some-clause-gives : goal.returns-in-Some-clause-gives
returns-in-Some-clause-gives c =
    let bs = c.args.bytes.now in
    let out = c.args.out.now in
    let h = c.in-Some.head in
    let given = c.copy_from_slice.new.self in
    let bytes : given ≡ word_bytes h.word = c.copy_from_slice.ensures.after ∙ c.bytes_of.ensures.value in
    let long : length given ≡ 8 = ap length bytes in
    let small : IsWord h.word = search rules in
    let front : take 8 (given ++ drop 8 out) ≡ word_bytes h.word = take_at given (drop 8 out) 8 long ∙ bytes in
    let words : plain_words (take 8 (given ++ drop 8 out)) ≡ h.word ∷ [] =
    ap plain_words front ∙ plain_back (h.word ∷ []) [] (small, tt) in
    record {
      after = omega arith;
      fits = c.requires;
      long = omega (arith, length-append given (drop 8 out), length-drop 8 out, long, c.requires);
      whole = refl;
      leads = subst (λ (ws : List ℕ). GivesWords 0 0 bs ws (1 + c.head_len.result) c.from.result c.from-in-Some.result) (sym words)
          (leads_head bs h.word _ _ _ (bytes_small bs (λ i. c.type_inv.bytes i)) c.in-Some.ensures.whole c.in-Some.ensures.word
          (ap (λ (n : ℕ). 1 + n) c.head_len.ensures.rest) (c.from.ensures ∙ c.in-Some.ensures.zeros) (c.from-in-Some.ensures ∙ c.in-Some.ensures.plain));
      front = refl;
      rest = drop_at given (drop 8 out) 8 long;
      left = record {
        zeros_fit = omega (arith, c.from.ensures);
        literal_fit = omega (arith, c.from-in-Some.ensures);
        one = rw (c.from.ensures ∙ c.in-Some.ensures.zeros, c.from-in-Some.ensures ∙ c.in-Some.ensures.plain) (one_run (slice_index bs 0) (drop 1 bs));
      };
    }

pub returns-in-None-clause-gives : goal.returns-in-None-clause-gives
returns-in-None-clause-gives c =
    gives_none 0 0 0 c.args.bytes.now c.args.out.now (omega arith) refl
    (record { zeros_fit = omega arith; literal_fit = omega arith; one = inl refl })

pub returns-in-None-clause-none : goal.returns-in-None-clause-none
returns-in-None-clause-none c = λ _.
    no_head c.args.bytes.now (bytes_small c.args.bytes.now (λ i. c.type_inv.bytes i)) c.in-None.ensures.none
