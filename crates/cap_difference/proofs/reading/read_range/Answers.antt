use Rattle.cap_canon.proofs.LaidObjects.{range_reads}
use Rattle.cap_difference.proofs.reading.read_range.Goals as goal

pub returns-in-Some : goal.returns-in-Some
returns-in-Some g c =
    range_reads (g.M.Segments.segments c.args.message.now) c.args.segment c.args.start c.args.count c.requires.inside
    c.in-Some.ensures.words
