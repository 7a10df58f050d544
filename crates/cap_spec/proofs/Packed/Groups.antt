-- Packed text as groups: bytes that are groups, or groups and the beginning of one, give just their words.
use Rattle.cap_spec.proofs.Bytes.Plain.{length_plain}
use Rattle.cap_spec.proofs.Packed.Unpacking.{cut_front, length_marked, plain_reads, spread_append, unpacked_front}
use Rattle.cap_spec.proofs.Packed.Unpacking.{unpacked_short, words_marked}
use Rattle.cap_spec.proofs.ProofNames.{List, [], ap, append-nil, append_assoc, arith, drop_at, false, length}
use Rattle.cap_spec.proofs.ProofNames.{length-append, refl, subst, sym, take_at, true, ℕ, ◌++◌, ◌<◌, ◌∙◌, ◌∷◌, ◌≡◌, ◌≢◌}
use Rattle.cap_spec.proofs.ProofNames.{cases_lt, get_or_append_left, AllByRecursion, plain_text, word_bytes, Cut}
use Rattle.cap_spec.proofs.ProofNames.{Groups, IsGroup, Unpacks, group_length, group_words, groups_text, groups_words}
use Rattle.cap_spec.proofs.ProofNames.{marked, packed_is_cut, plain, unpacked, zeros, IsWord, common_steps, rules}

-- a group, whatever is after it: it is as long as its head says, and represents its words
pub record IsBefore (bytes words rest : List ℕ) : Type 0 where
  pub some : 0 < length bytes
  pub long : group_length (bytes ++ rest) ≡ length bytes
  pub encodes : group_words (bytes ++ rest) ≡ words

-- the bytes of a plain group
abbrev pub plain_group : ℕ → List ℕ → List ℕ
plain_group x more = 255 ∷ (word_bytes x ++ length more ∷ plain_text more)

-- of a plain group
is_before_plain : (x : ℕ) (more rest : List ℕ) → IsWord x → AllByRecursion IsWord more
    → IsBefore (plain_group x more) (x ∷ more) rest
is_before_plain x more rest h a = search (rules, length_plain, take_at, plain_reads)

-- of any group
pub is_before : (bytes words rest : List ℕ) → IsGroup bytes words → IsBefore bytes words rest
is_before bytes words rest (zeros n h e w) = search rules
is_before bytes words rest (plain x more h a l e w) =
    subst (λ k. IsBefore k words rest) (sym e)
    (subst (λ k. IsBefore (plain_group x more) k rest) (sym w) (is_before_plain x more rest h a))
is_before bytes words rest (marked tag present p q a l e w) =
    subst (λ k. IsBefore k words rest) (sym e) (record {
      some = omega arith;
      long = (let k = length_marked tag (present ++ rest) p q in omega (arith, k, l));
      encodes =
          words_marked tag (present ++ rest) p q ∙ (ap (λ k. k ∷ []) (spread_append 8 tag present rest l) ∙ sym w);
    })

-- a group in front comes off: its words first, and then those of what is after it
pub group_off : (bytes words rest : List ℕ) → IsGroup bytes words → unpacked (bytes ++ rest) ≡ words ++ unpacked rest
group_off bytes words rest g =
    let f = is_before bytes words rest g in
    search (rules, length-append, unpacked_front, drop_at)

-- and the bytes are cut where those after it are
pub cut_off : (bytes words rest : List ℕ) → IsGroup bytes words → packed_is_cut (bytes ++ rest) ≡ packed_is_cut rest
cut_off bytes words rest g =
    let f = is_before bytes words rest g in
    search (rules, length-append, cut_front, drop_at)

-- so do groups one after the other
pub groups_off : (groups : Groups) (rest : List ℕ) → AllByRecursion (λ g. IsGroup g.0 g.1) groups
    → unpacked (groups_text groups ++ rest) ≡ groups_words groups ++ unpacked rest
groups_off [] rest a = refl
groups_off (g ∷ groups) rest a =
    ap unpacked (append_assoc g.0 (groups_text groups) rest)
    ∙ (group_off g.0 g.1 (groups_text groups ++ rest) a.0
    ∙ (ap (λ k. g.1 ++ k) (groups_off groups rest a.1) ∙ sym (append_assoc g.1 (groups_words groups) (unpacked rest))))

-- and the bytes are cut where those after them are
pub groups_cut_off : (groups : Groups) (rest : List ℕ) → AllByRecursion (λ g. IsGroup g.0 g.1) groups
    → packed_is_cut (groups_text groups ++ rest) ≡ packed_is_cut rest
groups_cut_off [] rest a = refl
groups_cut_off (g ∷ groups) rest a =
    ap packed_is_cut (append_assoc g.0 (groups_text groups) rest)
    ∙ (cut_off g.0 g.1 (groups_text groups ++ rest) a.0 ∙ groups_cut_off groups rest a.1)

-- bytes that unpack to words give just these words
pub unpacks_words : (bytes words : List ℕ) → Unpacks bytes words → words ≡ unpacked bytes
unpacks_words bytes words u =
    let t : unpacked (groups_text u.groups ++ []) ≡ groups_words u.groups ++ [] = groups_off u.groups [] u.each in
    search (rules, append-nil)

-- and aren't cut
pub unpacks_whole : (bytes words : List ℕ) → Unpacks bytes words → packed_is_cut bytes ≡ false
unpacks_whole bytes words u =
    let t : packed_is_cut (groups_text u.groups ++ []) ≡ false = groups_cut_off u.groups [] u.each in
    ap packed_is_cut (u.text ∙ sym (append-nil (groups_text u.groups))) ∙ t

-- the beginning of a group is shorter than its head says
pub part_short : (tag : ℕ) (part lacking encoded : List ℕ) → IsGroup (tag ∷ (part ++ lacking)) encoded
    → 0 < length lacking → length (tag ∷ part) < group_length (tag ∷ part)
part_short tag part lacking encoded (zeros n h e w) some =
    let l = ap length e in
    search (rules, length-append)
part_short tag part lacking encoded (plain x more h all few e w) some =
    let r : part ++ lacking ≡ word_bytes x ++ length more ∷ plain_text more = cc in
    let l = ap length r in
    search (rules, length-append, length_plain, cases_lt, get_or_append_left)
part_short tag part lacking encoded (marked mark present p q all l e w) some = grind (arith, common_steps)

-- a list that isn't empty has a member
some_member : (xs : List ℕ) → xs ≢ [] → 0 < length xs
some_member [] n = absurd (n refl)
some_member (x ∷ xs) n = omega arith

-- the beginning of a group that isn't the whole of it
pub part_is_short : (part lacking encoded : List ℕ) → part ≢ [] → lacking ≢ [] → IsGroup (part ++ lacking) encoded
    → length part < group_length part
part_is_short [] lacking encoded n m g = absurd (n refl)
part_is_short (tag ∷ part) lacking encoded n m g = part_short tag part lacking encoded g (some_member lacking m)

-- bytes that are cut with words given before give just these words
pub cut_words : (bytes words : List ℕ) → Cut bytes words → words ≡ unpacked bytes
cut_words bytes words c =
    let s = part_is_short c.part c.lacking c.encoded c.begun c.proper c.group in
    search (rules, groups_off, unpacked_short)

-- and are cut
pub cut_is_cut : (bytes words : List ℕ) → Cut bytes words → packed_is_cut bytes ≡ true
cut_is_cut bytes words c =
    let s = part_is_short c.part c.lacking c.encoded c.begun c.proper c.group in
    search (rules, groups_cut_off)
