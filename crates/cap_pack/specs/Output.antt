-- The output that a packer writes to (profile).
use Rattle.cap_pack.specs.declared.packer.Packer.{Packer}

-- `sink.into_inner()`
abbrev pub packer_output : {O : Type 0} → Packer O → O
packer_output sink = sink.output
