use Rattle.std.proofs.Common.{subst}
use Rattle.cap_text.specs.Writing.{Writes}
use Rattle.cap_text.proofs.Paging.{page_out}
use Rattle.cap_text.proofs.page.write_page.Goals as goal

pub returns : goal.returns
returns g c = λ before held text h added.
    page_out g.O.ByteOut before c.args.out.now c.write_bytes.new.out c.write_bytes.result held c.args.page.now text added
    (subst (Writes g.O.ByteOut c.args.out.now c.write_bytes.new.out c.write_bytes.result) c.text.ensures.lines c.write_bytes.ensures)
