-- The groups of a piece, or a run that begins with it.
use Rattle.cap_spec.proofs.Bytes.Plain.{words_exact}
use Rattle.cap_spec.proofs.ProofNames.{List, ap, arith, drop, drop_at, length, length-take-le, refl, sym, take, take_at}
use Rattle.cap_spec.proofs.ProofNames.{zero-add, ℕ, ◌*◌, ◌++◌, ◌∙◌, ◌≡◌, ◌≤◌, drop-append-le, post_of, pack_text}
use Rattle.cap_spec.proofs.ProofNames.{plain_words}
use Rattle.cap_pack.specs.GroupTexts.{front_text}
use Rattle.cap_pack.proofs.GroupTexts.{pack_step, words_parted}
use Rattle.cap_pack.proofs.in_parts.pack_part.Goals as goal

pub returns-then-piece-gt0-clause-text : goal.returns-then-piece-gt0-clause-text
returns-then-piece-gt0-clause-text c =
    let bs = c.args.bytes.now in
    let count = c.read_words-count.result in
    let own = take count c.read_words-count.new.words in
    let k = c.encode_groups-piece.result.words in
    let rest = plain_words (drop (8 * count) bs) in
    let within = c.read_words-count.ensures.within in
    let parted : plain_words bs ≡ own ++ rest =
    words_parted bs (8 * count) (omega arith) within ∙ ap (λ (ws : List ℕ). ws ++ rest) (sym c.read_words-count.ensures.words) in
    let few : k ≤ length own = c.encode_groups-piece.ensures.words in
    let long : length own ≡ count =
    omega (
      arith,
      ap length c.read_words-count.ensures.words,
      words_exact (take (8 * count) bs),
      length-take-le (8 * count) bs within,
    ) in
    let all = words_parted bs (8 * k) (omega arith) (omega (arith, few, long, within)) in
    let first : length (plain_words (take (8 * k) bs)) ≡ k =
    omega (arith, words_exact (take (8 * k) bs), length-take-le (8 * k) bs (omega (arith, few, long, within))) in
    let left : drop k own ++ rest ≡ plain_words (drop (8 * k) bs) =
    sym (drop-append-le k own rest few) ∙ (ap (drop k) (sym parted ∙ all)
    ∙ drop_at (plain_words (take (8 * k) bs)) (plain_words (drop (8 * k) bs)) k first) in
    ap pack_text parted ∙ (c.encode_groups-piece.ensures.encoded rest
    ∙ ap (λ (ws : List ℕ). take c.encode_groups-piece.result.bytes c.encode_groups-piece.new.text ++ pack_text ws) left)

pub returns-clause-text : goal.returns-clause-text
returns-clause-text c =
    let bs = c.args.bytes.now in
    let group = c.front_group-taken.ensures in
    let taken : ℕ = c.front_group-taken.result.0 in
    let n : ℕ = c.front_group-taken.result.1 in
    let new = c.write_group.new.text in
    let step = pack_step bs bs 0 taken refl group.size group.within.0 group.within.2 in
    let long : length new ≡ n = ap length c.write_group.ensures ∙ sym group.encoded in
    step ∙ (ap (λ (k : ℕ). front_text (plain_words (take taken bs)) ++ pack_text (plain_words (drop k bs))) (zero-add taken)
    ∙ ap (λ (t : List ℕ). t ++ pack_text (plain_words (drop taken bs)))
    (sym c.write_group.ensures ∙ sym (take_at new (post_of 0 n c.encode_groups-piece.new.text) n long)))
