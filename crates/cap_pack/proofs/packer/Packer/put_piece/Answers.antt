use Rattle.cap_spec.proofs.ProofNames.{arith, drop, length, sym, take, ◌++◌, ◌-◌, ◌∙◌, ◌≡◌, append_known-moved}
use Rattle.cap_spec.proofs.ProofNames.{take_rest, pack_text}
use Rattle.cap_words.proofs.PlainEncoding.{part_begins}
use Rattle.cap_pack.specs.Holding.{held}
use Rattle.cap_pack.proofs.GroupsEncoded.{left_after, piece_encoded}
use Rattle.cap_pack.proofs.packer.Packer.put_piece.Goals as goal

pub returns-in-Err-clause-err : goal.returns-in-Err-clause-err
returns-in-Err-clause-err g c = λ ws.
    let j = c.extend-joined.result in
    let left = drop c.encode_groups-encoded.result.words (take (length c.args.words.now - j) (drop j c.args.words.now)) in
    let all = piece_encoded _ c.args.words.now _ left j c.extend-joined.ensures.joined
    (c.extend-joined.ensures.apart (omega (arith, c.extend-joined.ensures.within, c.if-joined-words.false)))
    c.encode_group-start.ensures.encoded (take_rest c.args.words.now j) c.encode_groups-encoded.ensures.encoded in
    let part = c.in-Err.ensures.err in
    rw (← c.extend-joined.ensures.output.0) (part_begins _ _ part.0 _ (pack_text (left ++ ws)) _ (all ws) part.2)

pub returns-clause-ok : goal.returns-clause-ok
returns-clause-ok g c = λ ws.
    let s = c.args.self.now in
    let xs = c.args.words.now in
    let j = c.extend-joined.result in
    let k = c.encode_groups-encoded.result.words in
    let bytes = take c.encode_groups-encoded.result.bytes c.encode_groups-encoded.new.text in
    let left = drop k (take (length xs - j) (drop j xs)) in
    let all = piece_encoded (held s.group s.words) xs bytes left j
    c.extend-joined.ensures.joined (c.extend-joined.ensures.apart (omega (arith, c.extend-joined.ensures.within, c.if-joined-words.false)))
    c.encode_group-start.ensures.encoded (take_rest xs j) c.encode_groups-encoded.ensures.encoded in
    let kept = append_known-moved _ _ bytes (pack_text (left ++ ws)) _ c.in_default.ensures.ok (all ws) in
    let same : left ≡ held c.open.new.self.group c.open.new.self.words = left_after xs j k ∙ sym c.open.ensures.held in
    rw (← c.extend-joined.ensures.output.0, c.open.ensures.output.0, ← same) kept
