use Rattle.cap_spec.proofs.ProofNames.{[], ap, arith, drop, filter, get_or, length-drop, length-take, not, refl, sym, take}
use Rattle.cap_spec.proofs.ProofNames.{ℕ, ◌++◌, ◌+◌, ◌-◌, ◌==◌, ◌∙◌, ◌∷◌, pack_text, tag_of, word_bytes}
use Rattle.cap_pack.proofs.FullWords.{full_word, word_tag, zero_word}
use Rattle.cap_pack.proofs.GroupsEncoded.{full_step, marked_step, more_encoded, zeros_step}
use Rattle.cap_pack.proofs.pieces.encode_groups.Goals as goal

pub loop-at-preserved-then-tag-eq0 : goal.loop-at-preserved-then-tag-eq0
loop-at-preserved-then-tag-eq0 c =
    let words = c.args.words.now in
    let at = c.loop-at.at in
    let zero = zero_word (get_or words at 0) (c.type_inv.words at).fits (sym c.tag_of_word-tag.ensures ∙ c.if-tag-eq0.true) in
    let step = zeros_step words at c.zero_run-more.result (omega arith) c.requires.few zero c.zero_run-more.ensures c.if-at-more.false in
    record {
      within = omega (arith, step.0, length-drop (at + 1) words);
      fits = omega (arith, c.encode_zeros-len.ensures.end, c.loop-at.invariant.fits);
      encoded =
          more_encoded _ _ (0 ∷ c.zero_run-more.result ∷ []) (λ ws. take c.args.start c.args.text.now ++ pack_text (words ++ ws)) (drop at words)
          (drop (at + (1 + c.zero_run-more.result)) words) c.encode_zeros-len.ensures.encoded step.1
          c.loop-at.invariant.encoded;
    }

pub loop-at-preserved-then-tag : goal.loop-at-preserved-then-tag
loop-at-preserved-then-tag c =
    let words = c.args.words.now in
    let at = c.loop-at.at in
    let full = full_word (get_or words at 0) (sym c.tag_of_word-tag.ensures ∙ c.if-tag.true) in
    let step = full_step words _ at c.full_run-more.result _ (omega arith) c.requires.few full c.full_run-more.ensures c.if-at-more-2.false refl
    (omega arith) in
    record {
      within = omega (arith, step.0, length-drop (at + 1) words);
      fits = omega (
        arith,
        c.encode_plain-len.ensures.end,
        c.loop-at.invariant.fits,
        length-take (at + 1 + c.full_run-more.result - (at + 1))
            (drop (at + 1) words),
      );
      encoded =
          more_encoded _ _ _ (λ ws. take c.args.start c.args.text.now ++ pack_text (words ++ ws)) (drop at words)
          (drop (at + (1 + c.full_run-more.result)) words) c.encode_plain-len.ensures.encoded step.1 c.loop-at.invariant.encoded;
    }

pub loop-at-preserved : goal.loop-at-preserved
loop-at-preserved c =
    let words = c.args.words.now in
    let at = c.loop-at.at in
    let tag = c.tag_of_word-tag.ensures in
    let step = marked_step words at (omega arith) (λ e. c.if-tag-eq0.false (tag ∙ ap (λ v. tag_of (word_bytes v)) e))
    (λ z. c.if-tag.false (tag ∙ word_tag (get_or words at 0) z)) in
    record {
      within = omega arith;
      fits = omega (arith, c.encode_marked-len.ensures.within, c.loop-at.invariant.fits);
      encoded =
          more_encoded _ _ _ (λ ws. take c.args.start c.args.text.now ++ pack_text (words ++ ws)) (drop at words) (drop (at + 1) words)
          (c.encode_marked-len.ensures.encoded
          ∙ ap (λ (t : ℕ). take c.loop-at.len c.loop-at.text ++ t ∷ filter (λ b. not (b == 0)) (word_bytes (get_or words at 0))) tag) step
          c.loop-at.invariant.encoded;
    }
