use Rattle.cap_spec.proofs.ProofNames.{List, codes, subst, ℕ, ◌++◌}
use Rattle.cap_text.proofs.Writing.{stopped_more, writes_then}
use Rattle.cap_text.specs.JsonLines.{number_members, object_start}
use Rattle.cap_text.specs.Writing.{Stopped, Writes}
use Rattle.cap_vet.specs.VetNames.{depth_of, words_of}
use Rattle.cap_run.specs.Differing.{difference_members}
use Rattle.cap_run.proofs.Differing.{joined, some_member}
use Rattle.cap_run.proofs.engines.canonical_object.write_object.Goals as goal

pub returns-in-Ok : goal.returns-in-Ok
returns-in-Ok g c = λ words a h.
    let m = g.M.Segments.segments c.args.message.now in
    let r = c.args.report.now in
    let members = difference_members m c.args.difference.now h in
    let start = object_start c.args.number (codes "accepted") ++ number_members r.charge r.depth r.pointers r.caps in
    let (member, is_member, writes) = c.write_end.ensures in
    let both = writes_then g.O.ByteOut c.args.out.now c.write_start.new.out c.write_end.new.out c.write_end.result (start ++ members)
    (member ++ codes "}\n") (c.in-Ok.ensures words a h) writes in (
      member,
      is_member,
      subst (λ (t : List ℕ). Writes g.O.ByteOut c.args.out.now c.write_end.new.out c.write_end.result t)
          (joined start members member (codes "}\n")) both,
    )

pub write_end-requires : goal.write_end-requires
write_end-requires g c = c.filter_refusal-refusal.ensures

pub returns-in-Err : goal.returns-in-Err
returns-in-Err g c = λ words a h.
    let m = g.M.Segments.segments c.args.message.now in
    let r = c.args.report.now in
    let members = difference_members m c.args.difference.now h in
    let start = object_start c.args.number (codes "accepted") ++ number_members r.charge r.depth r.pointers r.caps in
    let (member, is_member) = some_member m (words_of c.args.limits) (depth_of c.args.limits) c.filter_refusal-refusal.result
    c.filter_refusal-refusal.ensures in (
      member,
      is_member,
      subst (Stopped g.O.ByteOut c.args.out.now c.write_start.new.out c.in-Err.fault) (joined start members member (codes "}\n"))
          (stopped_more g.O.ByteOut c.args.out.now c.write_start.new.out c.in-Err.fault (start ++ members) (member ++ codes "}\n")
          (c.in-Err.ensures words a h)),
    )
