-- The ends that other ends, sources and sinks read from or write to (profile).
use Rattle.cap_words.specs.declared.from_read.FromRead.{FromRead}
use Rattle.cap_words.specs.declared.from_write.FromWrite.{FromWrite}
use Rattle.cap_words.specs.declared.plain_sink.PlainSink.{PlainSink}
use Rattle.cap_words.specs.declared.plain_words.PlainWords.{PlainWords}

-- `input.into_inner()`
abbrev pub reader_of : {R : Type 0} → FromRead R → R
reader_of input = input.reader

-- `output.into_inner()`
abbrev pub writer_of : {W : Type 0} → FromWrite W → W
writer_of output = output.writer

-- `source.into_inner()`
abbrev pub input_of : {I : Type 0} → PlainWords I → I
input_of source = source.bytes.input

-- `sink.into_inner()`
abbrev pub output_of : {O : Type 0} → PlainSink O → O
output_of sink = sink.output
