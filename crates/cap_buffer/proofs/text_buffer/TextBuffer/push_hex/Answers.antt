use Rattle.cap_spec.proofs.ProofNames.{rules}
use Rattle.std.proofs.Common.{ap, arith, ◌+◌, ◌-◌, ◌∙◌}
use Rattle.hex.specs.Hex.{encode_lower}
use Rattle.cap_buffer.proofs.Hexes.{encode_is_hex, hex_put, hex_put_length}
use Rattle.cap_buffer.proofs.text_buffer.TextBuffer.push_hex.Goals as goal

pub returns-clause-items : goal.returns-clause-items
returns-clause-items g c =
    let digits = c.in-Ok.ensures.written ∙ ap encode_lower c.bytes_of.ensures.value ∙ encode_is_hex c.args.word in
    hex_put c.self.inside.len (c.self.inside.len + 16 - c.self.inside.len) c.args.word c.self.inside.bytes c.encode_to_slice.new.output c.args.self.now digits
    (omega (arith, c.self.invariant)) c.self.view_is

pub returns-clause-len : goal.returns-clause-len
returns-clause-len g c = search (rules, encode_is_hex, hex_put_length)
