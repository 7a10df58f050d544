-- Each turn writes the text of some words more, and at the end no word is left.
use Rattle.cap_spec.proofs.ProofNames.{drop, length-drop, take, ◌+◌, take_rest, pack_text, plain_words, rules}
use Rattle.cap_pack.proofs.PuttingEach.{no_word}
use Rattle.cap_run.proofs.Passing.{left_all, left_less, left_none, left_stops, part_from}
use Rattle.cap_run.proofs.engines.passing.write_packed_more.Goals as goal

pub parts-init : goal.parts-init
parts-init g c = search (rules, left_all)

pub returns-in-Err : goal.returns-in-Err
returns-in-Err g c = λ before text h.
    let bs = c.args.bytes.now in
    let done = c.parts.done in
    let packed = c.pack_part-packed in
    left_stops g.O.ByteOut before c.parts.out c.write_more.new.out text (pack_text (plain_words bs)) (pack_text (plain_words (drop done bs)))
    (take packed.result.length packed.new.text) (pack_text (plain_words (drop (done + packed.result.taken) bs))) c.in-Err.fault
    (part_from bs done packed.result.taken (take packed.result.length packed.new.text) packed.ensures.text)
    (c.parts.invariant.left before text h) (c.in-Err.ensures before)

pub parts-preserved : goal.parts-preserved
parts-preserved g c = search (rules, take_rest, length-drop, left_less, part_from)

pub returns : goal.returns
returns g c = search (rules, left_none, no_word)
