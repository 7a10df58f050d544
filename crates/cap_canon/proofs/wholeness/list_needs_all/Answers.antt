use Rattle.cap_canon.proofs.wholeness.list_needs_all.Goals as goal

pub returns-clause-yes : goal.returns-clause-yes
returns-clause-yes g c = λ y.
    record { data_words = c.list_needs_data.ensures.0 c.if-not-list_needs_data.false; pointers = c.list_needs_pointers.ensures.yes y }
