use Rattle.cap_canon.proofs.wholeness.needs_all.Goals as goal

pub returns-clause-yes : goal.returns-clause-yes
returns-clause-yes g c = λ y. record { data_words = c.needs_data.ensures.0 c.if-not-needs_data.false; pointers = c.needs_row.ensures.yes y }
