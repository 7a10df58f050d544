-- What a source says of itself by its phase, and by the faults of its input (profile).
use Rattle.std.specs.Prelude.{Bool, false, true}
use Rattle.cap_words.specs.declared.byte_io.InFault.{InFault}
use Rattle.cap_words.specs.declared.byte_io.Phase.{Phase}
use Rattle.cap_words.specs.declared.byte_io.Phase.TheVariants.{Ended, Failed, Open}
use Rattle.cap_words.specs.declared.sources.SourceFault.{SourceFault}
use Rattle.cap_words.specs.declared.sources.SourceFault.TheVariants.{Device, Spent}
use Rattle.cap_words.specs.declared.byte_io.InFault.TheVariants as fault

-- it has answered that there are no more words
abbrev pub has_ended : Phase → Bool
has_ended Open = false
has_ended Ended = true
has_ended Failed = false

-- it has answered a fault
abbrev pub has_failed : Phase → Bool
has_failed Open = false
has_failed Ended = false
has_failed Failed = true

-- whether an error has closed it, by its own phase and by whether one has closed its input
abbrev pub source_broken : Phase → Bool → Bool
source_broken Open input = input
source_broken Ended input = false
source_broken Failed input = true

-- an input's fault as its source returns it
abbrev pub source_fault_of : InFault → SourceFault
source_fault_of fault.Device = Device
source_fault_of fault.Spent = Spent
