-- What an accepted message is (profile).
use Rattle.cap_vet.specs.declared.nodes.vetted.Vetted.{Vetted}
use Rattle.cap_walk.specs.declared.report.Report.{Report}
use Rattle.cap_frame.specs.declared.segments.Segments as segments

-- its report
abbrev pub report_of : {M : Type 0} {g : segments.Ghosts M} → Vetted M g → Report
report_of v = v.report

-- the message
abbrev pub message_of : {M : Type 0} {g : segments.Ghosts M} → Vetted M g → M
message_of v = v.message.now
