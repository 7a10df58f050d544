-- The input that an unpacker reads from (profile).
use Rattle.cap_words.specs.declared.byte_io.ByteIn.{Ghosts}
use Rattle.cap_pack.specs.declared.unpacker.Unpacker.{Unpacker}

-- `source.into_inner()`
abbrev pub unpacker_input : {I : Type 0} {members : Ghosts I} → Unpacker I members → I
unpacker_input source = source.bytes.input
