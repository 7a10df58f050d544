use Rattle.cap_ptr.proofs.following.composite.Goals as goal

pub returns-in-Ok : goal.returns-in-Ok
returns-in-Ok g c = λ s w leads.
    c.in-Ok.ensures.ok _ s w
    record { list = c.requires.composite; exists = c.requires.exists; inside = c.requires.inside; has = c.word-tag.ensures }
    c.requires.pads leads

pub returns-in-Err : goal.returns-in-Err
returns-in-Err g c = λ s w leads.
    c.in-Err.ensures.err _ s w
    record { list = c.requires.composite; exists = c.requires.exists; inside = c.requires.inside; has = c.word-tag.ensures }
    leads
