use Rattle.std.proofs.Common.{[], ap, ◌++◌, ◌∙◌, ◌∷◌}
use Rattle.cap_canon.specs.Filling.{parts_words}
use Rattle.cap_canon.proofs.Filling.{structs_appended}
use Rattle.cap_canon.proofs.appending.append_tagged.Goals as goal

pub returns-clause-own : goal.returns-clause-own
returns-clause-own g c = λ d s w tree h.
    (let m = g.M.Segments.segments c.args.message.now in
    let words = g.T.CopyOutput.words in
    let x = c.args.part.now in
    let tag = c.push.ensures.words ∙ ap (λ word. words c.args.copy.now ++ word ∷ []) c.tag_word.ensures in
    structs_appended m d s w tree c.args.count x (words c.args.copy.now) (words c.append_structs.new.copy) h
    (c.append_structs.ensures.words ∙ ap (λ xs. xs ++ parts_words m x c.args.count) tag))
