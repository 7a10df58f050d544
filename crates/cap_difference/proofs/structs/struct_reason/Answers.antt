use Rattle.cap_difference.proofs.structs.struct_reason.Goals as goal

pub returns-then-object-eq0-2 : goal.returns-then-object-eq0-2
returns-then-object-eq0-2 g c = rw (c.if-object-eq0.true, c.if-object-eq0-2.true) (c.empty_reason.ensures _ _ _ _)
