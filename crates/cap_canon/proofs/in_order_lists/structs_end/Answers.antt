use Rattle.cap_spec.proofs.ProofNames.{inr, sym, ◌*◌, ◌+◌, ◌∙◌, ◌≡◌, HasWord, data_size, list_size, middle}
use Rattle.cap_spec.proofs.ProofNames.{pointer_size}
use Rattle.cap_canon.proofs.InOrderLists.{structs_differ, structs_next, structs_surplus}
use Rattle.cap_canon.proofs.in_order_lists.structs_end.Goals as goal

pub returns-clause-some : goal.returns-clause-some
returns-clause-some g c =
    let a = c.args in
    let m = g.M.Segments.segments a.message.now in
    let tag = c.word-tag.result in
    let has : HasWord m 0 a.end tag = rw c.requires.first at c.word-tag.ensures in
    let size : c.list_size-size.result ≡ list_size a.word = c.list_size-size.ensures in
    let d : c.from-data_words.result ≡ data_size tag = c.from-data_words.ensures ∙ c.data_size.ensures in
    let p : c.from-pointers.result ≡ pointer_size tag = c.from-pointers.ensures ∙ c.pointer_size.ensures in
    let fits : middle tag * (data_size tag + pointer_size tag) ≡ list_size a.word =
    sym c.words_of_elements.ensures ∙ c.if-words_of_elements-from.false ∙ c.from.ensures ∙ size in
    inr (rw size (structs_next m a.w a.end a.word tag c.requires.leads.0 c.requires.leads.1 c.requires.list has fits
    c.ranges.word.fits c.word-tag.type_inv
    (rw (c.requires.first, d, p, c.middle.ensures) at (c.list_needs_all.ensures.yes c.if-not-list_needs_all.false))))

pub returns-then-not-list_needs_all-clause-none : goal.returns-then-not-list_needs_all-clause-none
returns-then-not-list_needs_all-clause-none g c =
    let a = c.args in
    let m = g.M.Segments.segments a.message.now in
    let tag = c.word-tag.result in
    let has : HasWord m 0 a.end tag = rw c.requires.first at c.word-tag.ensures in
    let d : c.from-data_words.result ≡ data_size tag = c.from-data_words.ensures ∙ c.data_size.ensures in
    let p : c.from-pointers.result ≡ pointer_size tag = c.from-pointers.ensures ∙ c.pointer_size.ensures in
    inr (structs_differ m a.w a.end a.word tag c.requires.leads.0 c.requires.leads.1 c.requires.list has
    (rw (c.requires.first, d, p, c.middle.ensures) at (c.list_needs_all.ensures.no c.if-not-list_needs_all.true)))

pub returns-then-words_of_elements-from-clause-none : goal.returns-then-words_of_elements-from-clause-none
returns-then-words_of_elements-from-clause-none g c =
    let a = c.args in
    let m = g.M.Segments.segments a.message.now in
    let tag = c.word-tag.result in
    let has : HasWord m 0 a.end tag = rw c.requires.first at c.word-tag.ensures in
    let size : c.list_size-size.result ≡ list_size a.word = c.list_size-size.ensures in
    inr (structs_surplus m a.w a.end a.word tag c.requires.leads.0 c.requires.leads.1 c.requires.list has
    (rw (c.words_of_elements.ensures, c.from.ensures, size) at c.if-words_of_elements-from.true))
