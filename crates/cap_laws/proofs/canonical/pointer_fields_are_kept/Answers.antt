use Rattle.cap_spec.proofs.Canonical.PointerFields.{list_fields, struct_fields}
use Rattle.cap_laws.proofs.canonical.pointer_fields_are_kept.Goals as goal

pub returns-clause-of_struct : goal.returns-clause-of_struct
returns-clause-of_struct c = λ offset d p o e f. let h = struct_fields offset d p o e f in
    (h.kind, h.middle, h.data_words, h.pointers)

pub returns-clause-of_list : goal.returns-clause-of_list
returns-clause-of_list c = λ offset k n o e f. let h = list_fields offset k n o e f in
    (h.kind, h.middle, h.code, h.size)
