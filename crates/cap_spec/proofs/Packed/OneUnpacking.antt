-- Every list of bytes either unpacks to words or is cut after words, and just to those that it gives.
use Rattle.cap_spec.proofs.ProofNames.{rules, List, [], ap, append_assoc, arith, drop, false, inl, inr, length}
use Rattle.cap_spec.proofs.ProofNames.{length-drop, refl, subst, suc, sym, take, take-append-drop, true, zero, ℕ, ◌++◌}
use Rattle.cap_spec.proofs.ProofNames.{◌<◌, ◌∙◌, ◌∷◌, ◌≡◌, ◌≤◌, ◌⊎◌, cases_lt, AllByRecursion, Cut, IsGroup, Unpacks}
use Rattle.cap_spec.proofs.ProofNames.{given_of, group_length, group_words, packed_is_cut, unpacked}
use Rattle.cap_spec.proofs.Bytes.Lists.{all_drop}
use Rattle.cap_spec.proofs.Packed.Groups.{cut_is_cut, cut_words, unpacks_whole, unpacks_words}
use Rattle.cap_spec.proofs.Packed.MakingGroups.{begins_group, whole_group}
use Rattle.cap_spec.proofs.Packed.Unpacking.{cut_front, cut_short, group_some, unpacked_front, unpacked_short}

-- what becomes of bytes: they unpack, or they are cut
pub data Becomes (bytes : List ℕ) : Type 0 where
  whole : packed_is_cut bytes ≡ false → Unpacks bytes (unpacked bytes) → Becomes bytes
  part : packed_is_cut bytes ≡ true → Cut bytes (unpacked bytes) → Becomes bytes

-- bytes that are shorter than their head says are cut
becomes_part : (tag : ℕ) (bytes : List ℕ) → AllByRecursion (λ b. b < 256) (tag ∷ bytes)
    → length (tag ∷ bytes) < group_length (tag ∷ bytes) → Becomes (tag ∷ bytes)
becomes_part tag bytes all h =
    let c = begins_group tag bytes all h in
    part (cut_short (tag ∷ bytes) h) (record {
      whole = [];
      before = [];
      unpacks = record { groups = []; each = tt; text = refl; encoded = refl };
      part = tag ∷ bytes;
      lacking = c.lacking;
      begun = (λ e. cc);
      proper = c.some;
      encoded = c.words;
      group = c.group;
      text = refl;
      given = unpacked_short (tag ∷ bytes) h;
    })

-- with a group before words that unpack, so do they together
pub unpacks_with : (own words rest more : List ℕ) → IsGroup own words → Unpacks rest more
    → Unpacks (own ++ rest) (words ++ more)
unpacks_with own words rest more g u = record {
  groups = (own, words) ∷ u.groups;
  each = (g, u.each);
  text = ap (λ k. own ++ k) u.text;
  encoded = ap (λ k. words ++ k) u.encoded;
}

-- with a group before words that are cut, so are they together
pub cut_with : (own words rest more : List ℕ) → IsGroup own words → Cut rest more → Cut (own ++ rest) (words ++ more)
cut_with own words rest more g c = record {
  whole = own ++ c.whole;
  before = words ++ c.before;
  unpacks = unpacks_with own words c.whole c.before g c.unpacks;
  part = c.part;
  lacking = c.lacking;
  begun = c.begun;
  proper = c.proper;
  encoded = c.encoded;
  group = c.group;
  text = ap (λ k. own ++ k) c.text ∙ sym (append_assoc own c.whole c.part);
  given = ap (λ k. words ++ k) c.given ∙ sym (append_assoc words c.before (given_of c.part));
}

-- with a whole group in front, bytes become what those after it do
becomes_with : (bytes own words rest : List ℕ) → IsGroup own words → own ++ rest ≡ bytes
    → unpacked bytes ≡ words ++ unpacked rest → packed_is_cut bytes ≡ packed_is_cut rest → Becomes rest → Becomes bytes
becomes_with bytes own words rest g e u c (whole k r) =
    whole (c ∙ k) (subst (λ b. Unpacks b (unpacked bytes)) e
    (subst (λ w. Unpacks (own ++ rest) w) (sym u) (unpacks_with own words rest (unpacked rest) g r)))
becomes_with bytes own words rest g e u c (part k r) =
    part (c ∙ k) (subst (λ b. Cut b (unpacked bytes)) e
    (subst (λ w. Cut (own ++ rest) w) (sym u) (cut_with own words rest (unpacked rest) g r)))

-- each list of bytes, in this many groups at most
becomes_in : (n : ℕ) (bytes : List ℕ) → length bytes ≤ n → AllByRecursion (λ b. b < 256) bytes → Becomes bytes
becomes_in n [] l all = whole refl (record { groups = []; each = tt; text = refl; encoded = refl })
becomes_in zero (tag ∷ bytes) l all = absurd (omega arith)
becomes_in (suc n) (tag ∷ bytes) l all = elim (cases_lt (length (tag ∷ bytes)) (group_length (tag ∷ bytes))) [
  | inl short ↦ becomes_part tag bytes all short
  | inr long ↦
      let k = group_length (tag ∷ bytes) in
      let s = group_some tag bytes in
      let d = length-drop k (tag ∷ bytes) in
      becomes_with (tag ∷ bytes) (take k (tag ∷ bytes)) (group_words (tag ∷ bytes)) (drop k (tag ∷ bytes))
      (whole_group tag bytes all long) (take-append-drop k (tag ∷ bytes))
      (unpacked_front (tag ∷ bytes) (omega arith) long) (cut_front (tag ∷ bytes) (omega arith) long)
      (becomes_in n (drop k (tag ∷ bytes)) (omega (arith, l, s, d)) (all_drop (λ b. b < 256) k (tag ∷ bytes) all))
]

-- each list of bytes
pub becomes : (bytes : List ℕ) → AllByRecursion (λ b. b < 256) bytes → Becomes bytes
becomes bytes all = becomes_in (length bytes) bytes (omega arith) all

-- bytes that aren't cut unpack to what they give
unpacks_from : (bytes : List ℕ) → packed_is_cut bytes ≡ false → Becomes bytes → Unpacks bytes (unpacked bytes)
unpacks_from bytes c b = search rules

-- bytes that are cut are so after what they give
cut_from : (bytes : List ℕ) → packed_is_cut bytes ≡ true → Becomes bytes → Cut bytes (unpacked bytes)
cut_from bytes c b = search rules

-- bytes that aren't cut unpack to what they give, for bytes below 256
pub unpacks_unless_cut : (bytes : List ℕ) → AllByRecursion (λ b. b < 256) bytes → packed_is_cut bytes ≡ false
    → Unpacks bytes (unpacked bytes)
unpacks_unless_cut bytes all c = unpacks_from bytes c (becomes bytes all)

-- bytes that are cut are so after what they give, for bytes below 256
pub cut_if_cut : (bytes : List ℕ) → AllByRecursion (λ b. b < 256) bytes → packed_is_cut bytes ≡ true
    → Cut bytes (unpacked bytes)
cut_if_cut bytes all c = cut_from bytes c (becomes bytes all)

-- bytes don't unpack and are cut
pub unpacks_not_cut : (bytes words other : List ℕ) → Unpacks bytes words → Cut bytes other → ⊥
unpacks_not_cut bytes words other u c = search (rules, cut_is_cut, unpacks_whole)

-- whether they unpack or are cut: the words are those that they give
pub words_of_either : (bytes words : List ℕ) → Unpacks bytes words ⊎ Cut bytes words → words ≡ unpacked bytes
words_of_either bytes words (inl u) = unpacks_words bytes words u
words_of_either bytes words (inr c) = cut_words bytes words c

-- they do one or the other
pub either : (bytes : List ℕ) → Becomes bytes → Unpacks bytes (unpacked bytes) ⊎ Cut bytes (unpacked bytes)
either bytes (whole k u) = inl u
either bytes (part k c) = inr c
