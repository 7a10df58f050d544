-- What is known of the text of a sink (profile).
use Rattle.std.specs.Io.KnownBytes.{Keeps, append_known}
use Rattle.std.specs.Prelude.{Bool, List, None, Option, Some, false, refl, ℕ, ⊤, ◌++◌, ◌≡◌}
use Rattle.cap_words.specs.declared.byte_io.OutFault.{OutFault}
use Rattle.cap_words.specs.declared.byte_io.OutFault.TheVariants.{Device, Memory, Spent}
use Rattle.cap_words.specs.declared.sinks.SinkFault.{SinkFault}
use Rattle.cap_words.specs.declared.sinks.SinkFault.TheVariants.{Device as of_device, Memory as of_memory}
use Rattle.cap_words.specs.declared.sinks.SinkFault.TheVariants.{Spent as was_broken}

-- a known text begins with the known bytes
abbrev pub Begins : Option (List ℕ) → Option (List ℕ) → Type 0
Begins None part = ⊤
Begins (Some text) None = ⊥
Begins (Some text) (Some part) = (rest : List ℕ) × (text ≡ part ++ rest)

-- the sink was put exactly these words: its text after further words is what its text after both was before
abbrev pub WasPut : {K : Type 0} → (K → List ℕ → Option (List ℕ)) → K → K → List ℕ → Type 0
WasPut text old new xs = (ws : List ℕ) → Keeps (text old (xs ++ ws)) (text new ws)

-- it was open, stays open, and nothing failed
abbrev pub StaysOpen : {K A : Type 0} → (K → Bool) → (K → Bool) → (K → A) → K → K → Type 0
StaysOpen closed broken failures old new =
    (closed old ≡ false) × (closed new ≡ false) × (broken new ≡ broken old) × (failures new ≡ failures old)

-- a fault came while these words were put: what was taken begins each text that goes on after them
abbrev pub StoppedPutting : {K : Type 0} → (K → List ℕ → Option (List ℕ)) → (K → Option (List ℕ)) → K → K → List ℕ → Type 0
StoppedPutting text taken old new xs = (ws : List ℕ) → Begins (text old (xs ++ ws)) (taken new)

-- the sink was put exactly these words and finished: the bytes taken are what its text after them was before
abbrev pub WasFinished : {K : Type 0} → (K → List ℕ → Option (List ℕ)) → (K → Option (List ℕ)) → K → K → List ℕ → Type 0
WasFinished text taken old new xs = Keeps (text old xs) (taken new)

-- bytes begin what they are continued to
pub begins_appended : (known : Option (List ℕ)) (more : List ℕ) → Begins (append_known known more) known
begins_appended None more = tt
begins_appended (Some bytes) more = (more, refl)

-- an output's fault as its sink answers it
abbrev pub sink_fault_of : OutFault → SinkFault
sink_fault_of Device = of_device
sink_fault_of Memory = of_memory
sink_fault_of Spent = was_broken
