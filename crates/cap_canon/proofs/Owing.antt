-- What the runs of a walk owe, word by word.
use Rattle.cap_spec.proofs.Lemmas.{reverse-more, HasWord-inside, HasWord-segment, lead_word, Formed, formed}
use Rattle.cap_spec.proofs.ProofNames.{common_steps, List, Option, [], ap, arith, length, length-append, option_to_list}
use Rattle.cap_spec.proofs.ProofNames.{reverse, subst, suc, ℕ, ◌++◌, ◌+◌, ◌<◌, ◌^◌, ◌∙◌, ◌∷◌, ◌≡◌, ◌≤◌, length-reverse}
use Rattle.cap_spec.proofs.ProofNames.{reverse-append, Denotes, IsMessage, Tree, rules}
use Rattle.cap_canon.specs.Laying.{size_due}
use Rattle.cap_canon.specs.CanonNames.{AreShort, IsFull, IsCopyRest, OptionFull, first_place, option_places}
use Rattle.cap_canon.specs.CanonNames.{places_of, AreBefore, Due, AreOwed, IsNextToCopy, IsCopying, Stacked, longest_copy}
use Rattle.cap_canon.specs.CanonNames.{copy_work_left, CopyRun, PointerPlace}
use Rattle.cap_canon.specs.StillToLay.{RunOwes}
use Rattle.cap_canon.proofs.Runs.{count_more}

-- a word that denotes is a number of 32 bits
pub word_short : (m : List (List ℕ)) (s w : ℕ) (t : Tree) (c d : ℕ) → IsMessage m → Denotes m s w t c d → w < 2 ^ 32
word_short m s w t c d is h =
    let f : Formed m s w t = formed m s w t c d h in search (rules, lead_word, HasWord-segment, HasWord-inside)

-- the words that are owed are
pub owed_short : (m : List (List ℕ)) (depth n end : ℕ) (places : List PointerPlace) (due : List Due) → IsMessage m → end ≤ longest_copy → AreBefore end due
    → AreOwed m depth n places due → AreShort places
owed_short m depth n end (p ∷ places) (x ∷ due) is le b h = search (rules, word_short, owed_short m depth n end places due is le b.1 h.2)
owed_short m depth n end p due is le b h = search rules

-- as many words as trees
pub owed_count : (m : List (List ℕ)) (depth n : ℕ) (places : List PointerPlace) (due : List Due) → AreOwed m depth n places due → length places ≡ length due
owed_count m depth n (p ∷ places) (x ∷ due) h = ap suc (owed_count m depth n places due h.2)
owed_count m depth n p due h = search rules

-- the parts of what is before an end
before_parts : (end : ℕ) (xs ys : List Due) → AreBefore end (xs ++ ys) → AreBefore end xs × AreBefore end ys
before_parts end [] ys h = (tt, h)
before_parts end (x ∷ xs) ys h = let r = before_parts end xs ys h.1 in ((h.0, r.0), r.1)

pub before_join : (end : ℕ) (xs ys : List Due) → AreBefore end xs → AreBefore end ys → AreBefore end (xs ++ ys)
before_join end [] ys h k = k
before_join end (x ∷ xs) ys h k = (h.0, before_join end xs ys h.1 k)

pub before_more : (end now : ℕ) (xs : List Due) → end ≤ now → AreBefore end xs → AreBefore now xs
before_more end now [] le h = tt
before_more end now (x ∷ xs) le h = (omega (arith, h.0, le), before_more end now xs le h.1)

pub stacked_more : (m : List (List ℕ)) (depth n : ℕ) (r : Option CopyRun) (runs : List CopyRun) (own rest : List Due) → n ≡ length runs + 1 → OptionFull r
    → AreOwed m depth n (option_places r) own → Stacked m depth runs rest
    → Stacked m depth (option_to_list r ++ runs) (own ++ rest)
stacked_more m depth n k runs g rest e f h s = search rules

-- The topmost run of a walk: its first word, and the others.
pub record Topmost (m : List (List ℕ)) (depth end : ℕ) (f : CopyRun) (runs : List CopyRun) (due : List Due) : Type 0 where
  pub own : List Due
  pub rest : List Due
  pub all : due ≡ own ++ rest
  pub owes : RunOwes m depth (length (reverse runs) + 1) f own
  pub stacked : Stacked m depth (reverse runs) rest
  pub before : AreBefore end own
  pub near : end ≤ longest_copy

pub topmost : {m : List (List ℕ)} {depth end : ℕ} {runs : List CopyRun} {f : CopyRun} {due : List Due} → IsCopying m depth (runs ++ f ∷ []) end due
    → Topmost m depth end f runs due
topmost {m} {depth} {end} {runs} {f} {due} w =
    let e : reverse (runs ++ f ∷ []) ≡ f ∷ reverse runs = reverse-append runs (f ∷ []) in
    let s : Stacked m depth (f ∷ reverse runs) due = subst (λ fs. Stacked m depth fs due) e w.stacked in
    let b : AreBefore end (s.0 ++ s.1) = subst (AreBefore end) s.2 w.before in record {
      own = s.0;
      rest = s.1;
      all = s.2;
      owes = s.3;
      stacked = s.4;
      before = (before_parts end s.0 s.1 b).0;
      near = omega (arith, w.small);
    }

-- its words are numbers of 32 bits
pub top_short : (m : List (List ℕ)) (depth end : ℕ) (runs : List CopyRun) (f : CopyRun) (due : List Due) → IsCopying m depth (runs ++ f ∷ []) end due
    → IsFull f × AreShort (places_of f)
top_short m depth end runs f due w =
    let k = topmost w in
    (k.owes.full, owed_short m depth (length (reverse runs) + 1) end (places_of f) k.own w.message k.near k.before k.owes.owed)

-- The first of the words that are due is at p, and is the next.
abbrev pub Takes : List (List ℕ) → ℕ → PointerPlace → List CopyRun → ℕ → List Due → Type 0
Takes m depth p runs end due = (tree : Tree) × (rest : List Due) × (due ≡ record { slot = p.slot; tree = tree } ∷ rest) × IsNextToCopy m depth p runs end tree rest

-- The first word of the topmost run is the next to look at.
first_owed : {m : List (List ℕ)} {depth n end : ℕ} {f : CopyRun} {r : Option CopyRun} (runs : List CopyRun) (own rest : List Due) → n ≡ length runs + 1
    → IsCopyRest f r → IsMessage m
    → AreOwed m depth n (first_place f ∷ option_places r) own → Stacked m depth (reverse runs) rest → AreBefore end (own ++ rest)
    → end + size_due (own ++ rest) ≤ longest_copy
    → Takes m depth (first_place f) (runs ++ option_to_list r) end (own ++ rest)
first_owed runs [] rest e is_rest is h s b small = absurd h
first_owed runs (x ∷ own) rest e is_rest is h s b small =
    search (rules, reverse-more, stacked_more, length-reverse, option_to_list, length-append)

pub next_of : (m : List (List ℕ)) (depth end : ℕ) (runs : List CopyRun) (f : CopyRun) (r : Option CopyRun) (due : List Due)
    → IsCopying m depth (runs ++ f ∷ []) end due → IsCopyRest f r → Takes m depth (first_place f) (runs ++ option_to_list r) end due
next_of m depth end runs f r due w is_rest =
    let k = topmost w in
    let owed : AreOwed m depth (length (reverse runs) + 1) (first_place f ∷ option_places r) k.own = search rules in
    let n = first_owed runs k.own k.rest (omega (arith, length-reverse runs)) is_rest w.message owed k.stacked
    (subst (AreBefore end) k.all w.before) (subst (λ ds. end + size_due ds ≤ longest_copy) k.all w.small) in
    (n.0, n.1, k.all ∙ n.2, n.3)

-- one word fewer is left
pub next_work : (runs : List CopyRun) (f : CopyRun) (r : Option CopyRun) → IsCopyRest f r → copy_work_left (runs ++ option_to_list r) + 1 ≡ copy_work_left (runs ++ f ∷ [])
next_work runs f r is_rest = grind (arith, common_steps, count_more)
