use Rattle.cap_spec.proofs.ProofNames.{ap, arith, sym, w32, ◌+◌, ◌<◌, ◌∙◌, to_z_pos, struct_word}
use Rattle.cap_ptr.specs.declared.forms.Pointer.TheVariants.{Struct}
use Rattle.cap_canon.proofs.PointerForms.{not_null, struct_form}
use Rattle.cap_canon.proofs.words.struct_pointer.Goals as goal

pub returns : goal.returns
returns c =
    let r = c.requires in
    let d = c.args.data_words in
    let p = c.args.pointers in
    let some : 0 < d + p = omega (arith, c.if-data_words-pointers-eq0.false) in
    let form = struct_form c.args.offset d p r.0 r.1 r.2 some ∙ ap (λ z. Struct z d p) (sym (to_z_pos w32 c.args.offset (omega (arith, r.0)))) in
    let back = c.word-2.ensures.inverse (struct_word c.args.offset d p) (omega (arith, r.0, r.1, r.2)) form in
    rw (not_null (d + p) some) (sym back)
