-- The words that are asked for are where the table of starts gives.
use Rattle.cap_spec.proofs.ProofNames.{All, List, ap, arith, rules, slice_index_or, subst, ℕ, ◌+◌, ◌<◌, ◌^◌, ◌∙◌}
use Rattle.cap_spec.proofs.ProofNames.{plain_words, IsWord}
use Rattle.cap_frame.proofs.Cuts.{cut_length, starts_length}
use Rattle.cap_frame.proofs.Parts.{part_facts}
use Rattle.cap_frame.proofs.byte_message.ByteView.bytes.Goals as goal

pub bounds-self-s : goal.bounds-self-s
bounds-self-s c = search (rules, starts_length, cut_length)

pub overflow_add-at : goal.overflow_add-at
overflow_add-at c =
    let m = c.args.self.now in
    let p = part_facts m.sizes.now m.starts.now m.bytes.now c.args.s c.args.start c.args.words m.starts_are m.inside c.requires.exists c.requires.inside in
    let fits : slice_index_or m.starts.now c.args.s 0 + c.args.start < 2 ^ 32 = omega (arith, p.sums, m.small) in
    search rules

pub words_at-requires : goal.words_at-requires
words_at-requires c =
    let m = c.args.self.now in
    let p = part_facts m.sizes.now m.starts.now m.bytes.now c.args.s c.args.start c.args.words m.starts_are m.inside c.requires.exists c.requires.inside in
    omega (arith, p.sums, m.inside)

pub returns-clause-text : goal.returns-clause-text
returns-clause-text c = search (rules, part_facts)

pub returns-clause-words : goal.returns-clause-words
returns-clause-words c =
    let m = c.args.self.now in
    let p = part_facts m.sizes.now m.starts.now m.bytes.now c.args.s c.args.start c.args.words m.starts_are m.inside c.requires.exists c.requires.inside in
    subst (λ (ws : List ℕ). All IsWord ws) (ap plain_words c.words_at.ensures.part ∙ p.encoded) c.words_at.ensures.words
