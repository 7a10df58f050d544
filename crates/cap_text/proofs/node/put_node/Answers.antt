use Rattle.cap_spec.proofs.ProofNames.{[], refl, ◌++◌, ◌∷◌, words_of_own, own_text, word_lines}
use Rattle.cap_vet.specs.Views.{shown}
use Rattle.cap_text.specs.Dumping.{head_of, word_letter_of}
use Rattle.cap_text.proofs.Nodes.{adds_own, head_shown, words_shown}
use Rattle.cap_text.proofs.Paging.{added_line, halted_more}
use Rattle.cap_text.proofs.node.put_node.Goals as goal

pub returns-in-Err : goal.returns-in-Err
returns-in-Err g c =
    λ t d. halted_more g.O.ByteOut (c.args.out.now, c.args.page.now)
    (c.make_space.new.out, c.make_space.new.page) c.in-Err.fault [] (own_text 0 c.args.name.now t)
    c.in-Err.ensures.adds

pub returns-in-Ok : goal.returns-in-Ok
returns-in-Ok g c =
    let written = c.args.name.now ++ 32 ∷ head_of c.kind-kind.result ++ 10 ∷ [] in
    λ t d. adds_own g.O.ByteOut (c.args.out.now, c.args.page.now) (c.make_space.new.out, c.named_line.new.page)
    (c.put_own.new.out, c.put_own.new.page) c.put_own.result 0 c.args.name.now written
    (word_lines 1 (word_letter_of c.kind-kind.result) 0 (words_of_own (shown c.view-view.result))) t
    (head_shown t (shown c.view-view.result) c.kind-kind.result c.args.name.now written (c.view-view.ensures.shows t d) c.kind-kind.ensures.shows refl)
    (words_shown 1 t (shown c.view-view.result) c.kind-kind.result (word_letter_of c.kind-kind.result)
    (c.view-view.ensures.shows t d) c.kind-kind.ensures.shows refl)
    (added_line g.O.ByteOut (c.args.out.now, c.args.page.now) (c.make_space.new.out, c.make_space.new.page)
    c.named_line.new.page written c.in-Ok.ensures.adds c.named_line.ensures)
    c.put_own.ensures
