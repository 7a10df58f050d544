use Rattle.cap_canon.proofs.Elements.{ChildrenSeen}
use Rattle.cap_canon.proofs.trimming.list_pointers_left.Given as goal

abbrev pub invariant-elements : goal.invariant-elements
invariant-elements g l = ChildrenSeen (g.M.Segments.segments l.message) l.segment l.start l.at l.data_words l.pointers l.count l.counter l.most
