use Rattle.std.proofs.lemmas.List.Concat.{flat_map-append}
use Rattle.cap_spec.proofs.ProofNames.{List, Some, [], ap, append-nil, get_or, get_or_from_slice_get, length, slice_get, slice_get_within, subst, sym, take}
use Rattle.cap_spec.proofs.ProofNames.{take_more, ℕ, ◌++◌, ◌+◌, ◌∙◌, ◌∷◌, ◌≡◌, ◌<◌, plain_text, rules, segment_of, word_bytes}
use Rattle.sha2.specs.Hashers.{Holds256}
use Rattle.cap_run.proofs.engines.hash.digest_by_words.Goals as goal

-- the bytes of one word more
texts_more : (ws : List ℕ) (at : ℕ) → at < length ws
    → plain_text (take (at + 1) ws) ≡ plain_text (take at ws) ++ word_bytes (get_or ws at 0)
texts_more ws at h =
    search (rules, take_more ws at 0 h, flat_map-append word_bytes (take at ws) (get_or ws at 0 ∷ []), append-nil (word_bytes (get_or ws at 0)))

next_text : (ws : List ℕ) (at w : ℕ) (bytes : List ℕ) → slice_get ws at ≡ Some w → bytes ≡ word_bytes w
    → plain_text (take at ws) ++ bytes ≡ plain_text (take (at + 1) ws)
next_text ws at w bytes h e =
    let own = get_or_from_slice_get ws at w 0 h in
    ap (λ (xs : List ℕ). plain_text (take at ws) ++ xs) (e ∙ ap word_bytes (sym own)) ∙ sym (texts_more ws at (slice_get_within ws at w h))

pub words-preserved : goal.words-preserved
words-preserved g c =
    let ws = segment_of (g.M.Segments.segments c.args.message.now) 0 in
    subst (λ (taken : List ℕ). Holds256 c.update.new.self taken)
    (next_text ws c.words.at c.word.result c.bytes_of.result c.word.ensures c.bytes_of.ensures.value)
    (c.update.ensures (plain_text (take c.words.at ws)) c.words.invariant)
