use Rattle.cap_spec.proofs.Bytes.Lists.{all_append}
use Rattle.cap_spec.proofs.ProofNames.{List, [], ap, append_assoc, rules, subst, sym, ℕ, ◌++◌, ◌∙◌, ◌∷◌, AllByRecursion}
use Rattle.cap_spec.proofs.ProofNames.{words_from, IsWord}
use Rattle.cap_canon.proofs.Afters.{fewer_before}
use Rattle.cap_canon.proofs.Ranges.{range_more}
use Rattle.cap_canon.proofs.output.CopyOutput.append_each.Goals as goal

pub words-preserved : goal.words-preserved
words-preserved g c =
    let m = g.M.Segments.segments c.args.message.now in
    let old = g.Self.CopyOutput.words c.args.self.now in
    let front = words_from m c.args.segment c.args.start c.words.k in
    let more = range_more m c.args.segment c.args.start c.words.k c.word.result c.word.ensures in
    let small : IsWord c.word.result = search rules in record {
      words = c.push.ensures.words ∙ (ap (λ xs. xs ++ c.word.result ∷ []) c.words.invariant.words
          ∙ (append_assoc old front (c.word.result ∷ []) ∙ ap (λ xs. old ++ xs) (sym more)));
      capacity = c.push.ensures.capacity ∙ c.words.invariant.capacity;
      borrow = c.push.ensures.borrow ∙ c.words.invariant.borrow;
      after = λ n h. c.push.ensures.after n h ∙ c.words.invariant.after n (fewer_before _ _ _ n c.push.ensures.words h);
      are_words = subst (λ (xs : List ℕ). AllByRecursion IsWord xs) (sym more)
          (all_append IsWord front (c.word.result ∷ []) c.words.invariant.are_words (small, tt));
    }
