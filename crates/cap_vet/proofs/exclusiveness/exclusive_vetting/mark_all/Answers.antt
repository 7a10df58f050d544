use Rattle.std.proofs.Common.{arith, rules}
use Rattle.cap_vet.proofs.MarkingWalk.{root_marked}
use Rattle.cap_vet.proofs.exclusiveness.exclusive_vetting.mark_all.Goals as goal

pub mark_words-requires : goal.mark_words-requires
mark_words-requires g c =
    (g.M.Segments.segments c.args.message.now, record { fits = c.requires.fits; exists = search rules; inside = omega (arith, c.requires.root) })

pub walk-requires : goal.walk-requires
walk-requires g c =
    let m = g.M.Segments.segments c.args.message.now in
    let marked = c.mark_words.ensures m (record { fits = c.requires.fits; exists = search rules; inside = omega (arith, c.requires.root) }) in
    record {
      begins = (
        record { fits = marked.fits; marked = root_marked m _ _ c.requires.none (marked.taken c.if-not-mark_words.false) },
        λ p one. absurd one,
      );
    }

pub returns-in-Ok-clause-ok : goal.returns-in-Ok-clause-ok
returns-in-Ok-clause-ok g c = search rules
