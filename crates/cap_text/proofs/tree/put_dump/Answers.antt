use Rattle.cap_spec.proofs.ProofNames.{rules}
use Rattle.std.proofs.Common.{ap, arith}
use Rattle.cap_vet.specs.VetNames.{message_of, node_message, node_spot}
use Rattle.cap_text.proofs.Dumping.{adds_dump, at_root, halts_dump, height_denoted}
use Rattle.cap_text.proofs.tree.put_dump.Goals as goal

pub put_children-requires-clause-low : goal.put_children-requires-clause-low
put_children-requires-clause-low g c = (
  c.report-levels.ensures.accepted.0,
  (at_root (g.M.Segments.segments (message_of c.args.vetted.now))
      (g.M.Segments.segments (node_message c.root-root.result)) (node_spot c.root-root.result)
      c.report-levels.ensures.accepted.0 c.report-levels.result.charge c.report-levels.result.depth
      (ap g.M.Segments.segments c.root-root.ensures.message) c.root-root.ensures.comes
      c.report-levels.ensures.accepted.1.within.denotes),
  omega (
    arith,
    height_denoted (g.M.Segments.segments (message_of c.args.vetted.now)) 0 0
        c.report-levels.ensures.accepted.0 c.report-levels.result.charge c.report-levels.result.depth
        c.report-levels.ensures.accepted.1.within.denotes,
  ),
)

pub returns-in-Ok : goal.returns-in-Ok
returns-in-Ok g c = search (rules, at_root, adds_dump)

pub returns-in-Err : goal.returns-in-Err
returns-in-Err g c = search (rules, at_root, halts_dump)
