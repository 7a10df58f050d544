use Rattle.cap_spec.proofs.ProofNames.{ap, arith, drop, length, length-drop, length-take-le, replicate, take, ◌*◌, ◌+◌}
use Rattle.cap_spec.proofs.ProofNames.{◌-◌, ◌∙◌, ◌≡◌, ◌≤◌, drop-put_mid}
use Rattle.cap_canon.proofs.ZerosPut.{zeros_written}
use Rattle.cap_canon.proofs.word_bytes.write_zeros.Goals as goal

pub returns-clause-words : goal.returns-clause-words
returns-clause-words c =
    let bytes = c.args.bytes.now in
    let a = 8 * c.args.number in
    let k = 8 * (c.args.number + c.args.count) - a in
    let fits : 8 * (c.args.number + c.args.count) ≤ length bytes = c.requires in
    let part : length (take k (drop a bytes)) ≡ k = length-take-le k (drop a bytes) (omega (arith, length-drop a bytes, fits)) in
    let zeros : c.fill.new.self ≡ replicate k 0 = c.fill.ensures.after (λ y h. h) ∙ ap (λ i. replicate i 0) part in
    zeros_written c.args.number c.args.count k bytes c.fill.new.self zeros (omega arith) fits

pub returns-clause-after : goal.returns-clause-after
returns-clause-after c = λ n h.
    (let bytes = c.args.bytes.now in
    let a = 8 * c.args.number in
    let k = 8 * (c.args.number + c.args.count) - a in
    let fits : 8 * (c.args.number + c.args.count) ≤ length bytes = c.requires in
    let part : length (take k (drop a bytes)) ≡ k = length-take-le k (drop a bytes) (omega (arith, length-drop a bytes, fits)) in
    drop-put_mid a k bytes c.fill.new.self (8 * n) (omega (arith, h)) (omega (arith, fits)) (c.fill.ensures.len ∙ part))
