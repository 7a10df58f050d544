use Rattle.cap_spec.proofs.ProofNames.{ap, arith, sym, w32, ◌∙◌, to_z_pos, list_word}
use Rattle.cap_ptr.specs.declared.forms.Pointer.TheVariants.{List}
use Rattle.cap_canon.proofs.PointerForms.{list_form}
use Rattle.cap_canon.proofs.words.list_pointer.Goals as goal

pub returns : goal.returns
returns c =
    let r = c.requires in
    let form = list_form c.args.offset c.args.code c.args.size r.0 r.1 r.2
    ∙ ap (λ z. List z c.args.code c.args.size) (sym (to_z_pos w32 c.args.offset (omega (arith, r.0)))) in
    sym (c.word.ensures.inverse (list_word c.args.offset c.args.code c.args.size) (omega (arith, r.0, r.1, r.2)) form)
