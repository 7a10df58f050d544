use Rattle.cap_spec.proofs.ProofNames.{[], arith, ◌++◌, pack_text, rules, List, Option, length, length-take, refl, ℕ}
use Rattle.cap_spec.proofs.ProofNames.{◌<◌, ◌≡◌, length-replicate, Appends, Keeps, append_known, full_run, group_size}
use Rattle.cap_spec.proofs.ProofNames.{zero_run}
use Rattle.cap_words.proofs.PlainEncoding.{part_begins}
use Rattle.cap_pack.specs.Holding.{group_bytes, held, first_zeros}
use Rattle.cap_spec.proofs.Packed.Packing.{pack_text-plain, pack_text-zeros, plain_full}
use Rattle.cap_pack.specs.declared.group.Group.{Group}
use Rattle.cap_pack.specs.declared.group.Group.TheVariants.{Empty, Plain, Zeros}
use Rattle.cap_pack.proofs.packer.PackerWordSink.finish.Goals as goal

-- How the open group of a packer ends.
-- a run of zero words that the next word doesn't go on with
zeros_end : (g : Group) (words rest : List ℕ) (more : ℕ) → g ≡ Zeros more → group_size (held g words) ≡ length (held g words) →
    (more < 255 → zero_run rest ≡ 0) →
    pack_text (held g words ++ rest) ≡ group_bytes g words ++ pack_text rest
zeros_end g words rest more e one closes = search (rules, length-replicate, pack_text-zeros)

-- a run of words as they are that the next word doesn't go on with
plain_ends : (g : Group) (words rest : List ℕ) (first more : ℕ) → g ≡ Plain first more → group_size (held g words) ≡ length (held g words) →
    first_zeros g ≡ 0 → length words ≡ 255 →
    (more < 255 → full_run rest ≡ 0) → pack_text (held g words ++ rest) ≡ group_bytes g words ++ pack_text rest
plain_ends g words rest first more e one full long closes = search (rules, plain_full, length-take, pack_text-plain)

-- any group ends where there are no more words
no_more : (g : Group) (words : List ℕ) → group_size (held g words) ≡ length (held g words) → first_zeros g ≡ 0 → length words ≡ 255 →
    pack_text (held g words ++ []) ≡ group_bytes g words ++ []
no_more Empty words one full long = refl
no_more (Zeros more) words one full long = zeros_end (Zeros more) words [] more refl one (λ _. refl)
no_more (Plain first more) words one full long = plain_ends (Plain first more) words [] first more refl one full long (λ _. refl)

-- a group was written, all of it
group_written : (a b : Option (List ℕ)) (bytes : List ℕ) (all : List ℕ) → Appends a b bytes → all ≡ bytes ++ [] → Keeps (append_known a all) b
group_written a b bytes all p e = search rules

pub returns-in-Ok-clause-finished : goal.returns-in-Ok-clause-finished
returns-in-Ok-clause-finished g c =
    let s = c.args.self.now in
    group_written (g.O.ByteOut.written s.output) (g.O.ByteOut.written c.write_group.new.output) (group_bytes s.group s.words)
    (pack_text (held s.group s.words ++ [])) c.in-Ok.ensures.ok
    (no_more s.group s.words s.one_group s.full_first (omega arith))

pub returns-in-Err-clause-err : goal.returns-in-Err-clause-err
returns-in-Err-clause-err g c =
    let s = c.args.self.now in
    let part = c.in-Err.ensures.err in search (rules, part_begins, no_more s.group s.words s.one_group s.full_first (omega arith))
