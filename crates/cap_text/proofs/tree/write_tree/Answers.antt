use Rattle.cap_spec.proofs.ProofNames.{arith, subst, ◌≡◌, accepted, dump_text, vet_text}
use Rattle.cap_vet.specs.Vettings.{report_of}
use Rattle.cap_text.specs.Paging.{Added}
use Rattle.cap_text.proofs.tree.write_tree.Goals as goal

pub returns-in-Ok : goal.returns-in-Ok
returns-in-Ok g c = λ t k d tree.
    let report = report_of c.args.vetted.now in
    let line = vet_text c.args.number (accepted report.charge report.depth report.pointers report.caps) in
    let is : c.accepted_line.new.page ≡ line = cc in
    let added : Added g.O.ByteOut (c.args.out.now, line) (c.put_dump.new.out, c.put_dump.new.page) (dump_text t) =
    subst (λ held. Added g.O.ByteOut (c.args.out.now, held) (c.put_dump.new.out, c.put_dump.new.page) (dump_text t)) is (c.in-Ok.ensures t k d tree) in
    c.write_page.ensures c.args.out.now line (dump_text t) (omega arith) added
