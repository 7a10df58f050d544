-- The pointer words of an object, and how many words it has of its own.
use Rattle.cap_spec.specs.Tree.{none}
use Rattle.cap_spec.proofs.Lemmas.{reverse-more, short_segment, range_length}
use Rattle.cap_spec.proofs.ProofNames.{IfSome, List, Option, [], ap, arith, inl, inr, length, length-append}
use Rattle.cap_spec.proofs.ProofNames.{option_to_list, refl, reverse, subst, suc, sym, zero, ℕ, ◌*◌, ◌++◌, ◌+◌, ◌-◌}
use Rattle.cap_spec.proofs.ProofNames.{◌<◌, ◌^◌, ◌∙◌, ◌∷◌, ◌≡◌, ◌≤◌, ◌⊎◌, length-reverse, IsMessage, Tree, Trees, more}
use Rattle.cap_spec.proofs.ProofNames.{struct, tree_count, rules}
use Rattle.cap_canon.specs.Objects.{IsPointersObject, IsStructObject, IsStructsObject}
use Rattle.cap_canon.specs.CanonNames.{OptionFull, further_places, option_places, places_of, copy_row_places, AreBefore}
use Rattle.cap_canon.specs.CanonNames.{Due, below, element_slots, own_size, slots, AreElementsLeft, AreLeft, IsObject}
use Rattle.cap_canon.specs.CanonNames.{AreOwed, IsCopying, NextLeadsTo, Stacked, copy_work_left, Object, Part, CopyRun}
use Rattle.cap_canon.specs.CanonNames.{PointerPlace}
use Rattle.cap_canon.proofs.Lengths.{size_below, size_due-append}
use Rattle.cap_canon.proofs.Owing.{before_join, before_more, owed_count, stacked_more}
use Rattle.cap_canon.proofs.Runs.{count_more}

-- the run of the pointers of structs in a row
abbrev pub structs_run_of : Part → ℕ → ℕ → CopyRun
structs_run_of x count end = record {
  segment = x.segment;
  at = x.start + x.data_words;
  slot = end + 1 + x.data_left;
  left = x.pointers_left;
  more = count - 1;
  skip = x.pointers - x.pointers_left + x.data_words;
  gap = x.data_left;
  pointers = x.pointers_left;
}

-- a row of words, of which each child is left
pub row_owed : (m : List (List ℕ)) (deeper depth n t b a p : ℕ) (us : Trees) → deeper + n ≤ depth → tree_count us ≡ p → AreLeft m deeper t b us
    → AreOwed m depth n (copy_row_places t b a p) (slots a us)
row_owed m deeper depth n t b a zero none le e h = tt
row_owed m deeper depth n t b a (suc p) (more u us) le e h =
    search (rules, row_owed m deeper depth n t (b + 1) (a + 1) p us le (omega (arith, e)) h.1)
row_owed m deeper depth n t b a p us le e h = search rules

-- words that are owed, one after the other
owed_join : (m : List (List ℕ)) (depth n : ℕ) (ps qs : List PointerPlace) (xs ys : List Due) → AreOwed m depth n ps xs → AreOwed m depth n qs ys
    → AreOwed m depth n (ps ++ qs) (xs ++ ys)
owed_join m depth n (p ∷ ps) qs (x ∷ xs) ys h k = (h.0, h.1, owed_join m depth n ps qs xs ys h.2 k)
owed_join m depth n ps qs xs ys h k = search rules

-- the words of further elements
further_owed : (m : List (List ℕ)) (deeper depth n t x b a skip ds ps d p : ℕ) (es : Trees) → deeper + n ≤ depth → x + skip ≡ b + ds → p + skip ≡ ps + ds
    → AreElementsLeft m deeper t b ds ps d p es
    → AreOwed m depth n (further_places t x a skip d p (tree_count es)) (element_slots d p a es)
further_owed m deeper depth n t x b a skip ds ps d p (more (struct ws us) es) le e f h =
    search (rules, row_owed, owed_join, further_owed m deeper depth n t (x + skip + p) (b + ds + ps) (a + d + p) skip ds ps d p es le (omega (arith, e, f)) f h.3)
further_owed m deeper depth n t x b a skip ds ps d p es le e f h = search rules

-- and of the first and the others
elements_owed : (m : List (List ℕ)) (deeper depth n t b a skip ds ps d p others : ℕ) (es : Trees) → deeper + n ≤ depth → p + skip ≡ ps + ds
    → tree_count es ≡ suc others → AreElementsLeft m deeper t b ds ps d p es
    → AreOwed m depth n (copy_row_places t (b + ds) (a + d) p ++ further_places t (b + ds + p) (a + d + p) skip d p others) (element_slots d p a es)
elements_owed m deeper depth n t b a skip ds ps d p others (more (struct ws us) es) le f e h =
    let many : tree_count es ≡ others = omega (arith, e) in search (rules, owed_join, row_owed, further_owed)
elements_owed m deeper depth n t b a skip ds ps d p others es le f e h = search rules

-- elements that aren't there, or have no pointers
none_owed : (m : List (List ℕ)) (deeper depth n t b a ds ps d p : ℕ) (es : Trees) → (tree_count es ≡ 0) ⊎ (p ≡ 0) → AreElementsLeft m deeper t b ds ps d p es
    → AreOwed m depth n [] (element_slots d p a es)
none_owed m deeper depth n t b a ds ps d p none e h = tt
none_owed m deeper depth n t b a ds ps d p (more (struct ws us) es) (inl e) h = absurd (omega (arith, e))
none_owed m deeper depth n t b a ds ps d p (more (struct ws none) es) (inr e) h =
    none_owed m deeper depth n t (b + ds + ps) (a + d + p) ds ps d p es (inr e) h.3
none_owed m deeper depth n t b a ds ps d p (more (struct ws (more u us)) es) (inr e) h = absurd (omega (arith, e, h.1))
none_owed m deeper depth n t b a ds ps d p (more _ es) e h = absurd h

-- how many data words are left of a struct
kept_words : (m : List (List ℕ)) (deeper s w : ℕ) (x : Part) (u : Tree) → (k : IsStructObject m deeper s w u x) → length k.words ≡ x.data_left
kept_words m deeper s w x u k = ap length k.data_words ∙ range_length m x.segment x.start x.data_left (omega (arith, k.found.inside, k.fewer.0))

pub struct_owed : (m : List (List ℕ)) (deeper depth n end s w : ℕ) (x : Part) (u : Tree) (places : List PointerPlace) → IsStructObject m deeper s w u x
    → deeper + n ≤ depth
    → places ≡ copy_row_places x.segment (x.start + x.data_words) (end + x.data_left) x.pointers_left → AreOwed m depth n places (below end u)
struct_owed m deeper depth n end s w x u places k le e =
    let own = copy_row_places x.segment (x.start + x.data_words) (end + x.data_left) x.pointers_left in
    let row : AreOwed m depth n own (slots (end + x.data_left) k.children) = search (rules, row_owed) in
    let all : AreOwed m depth n own (slots (end + length k.words) k.children) = search (rules, kept_words) in
    subst (λ v. AreOwed m depth n places (below end v)) (sym k.tree) (subst (λ ps. AreOwed m depth n ps (slots (end + length k.words) k.children)) (sym e) all)

pub pointers_owed : (m : List (List ℕ)) (deeper depth n end s w t b count : ℕ) (u : Tree) (places : List PointerPlace)
    → IsPointersObject m deeper s w u t b count → deeper + n ≤ depth
    → places ≡ copy_row_places t b end count → AreOwed m depth n places (below end u)
pointers_owed m deeper depth n end s w t b count u places k le e = search (rules, row_owed)

pub structs_none_owed : (m : List (List ℕ)) (deeper depth n end s w count : ℕ) (x : Part) (u : Tree) → IsStructsObject m deeper s w u count x
    → (count ≡ 0) ⊎ (x.pointers_left ≡ 0)
    → AreOwed m depth n [] (below end u)
structs_none_owed m deeper depth n end s w count x u k z =
    subst (λ v. AreOwed m depth n [] (below end v)) (sym k.tree)
    (none_owed m deeper depth n x.segment x.start (end + 1) x.data_words x.pointers x.data_left x.pointers_left k.elements (either z) k.below)
  where
    either : (count ≡ 0) ⊎ (x.pointers_left ≡ 0) → (tree_count k.elements ≡ 0) ⊎ (x.pointers_left ≡ 0)
    either y1 = search rules

pub structs_owed : (m : List (List ℕ)) (deeper depth n end s w count : ℕ) (x : Part) (r : CopyRun) (u : Tree) → IsStructsObject m deeper s w u count x
    → deeper + n ≤ depth → 0 < count
    → r ≡ structs_run_of x count end → AreOwed m depth n (places_of r) (below end u)
structs_owed m deeper depth n end s w count x r u k le some e = search (rules, elements_owed)

-- what becomes due is before the end of the own words
slots_before : (a end : ℕ) (ts : Trees) → a + tree_count ts ≤ end → AreBefore end (slots a ts)
slots_before a end none le = tt
slots_before a end (more t ts) le = (omega (arith, le), slots_before (a + 1) end ts (omega (arith, le)))

elements_before : (m : List (List ℕ)) (deeper t b a ds ps d p end : ℕ) (es : Trees) → AreElementsLeft m deeper t b ds ps d p es
    → a + tree_count es * (d + p) ≤ end → AreBefore end (element_slots d p a es)
elements_before m deeper t b a ds ps d p end (more (struct ws us) es) h le =
    before_join end (slots (a + d) us) (element_slots d p (a + d + p) es) (slots_before (a + d) end us (omega (arith, le, h.1)))
    (elements_before m deeper t (b + ds + ps) (a + d + p) ds ps d p end es h.3 (omega (arith, le)))
elements_before m deeper t b a ds ps d p end es h le = search rules

pub below_before : (m : List (List ℕ)) (d s w end : ℕ) (u : Tree) (o : Object) → IsObject m d s w u o → AreBefore (end + own_size u) (below end u)
below_before m d s w end u h k = search (rules, slots_before, elements_before)

-- The walk goes on with an object's pointer words.
pub entered : (m : List (List ℕ)) (depth end now : ℕ) (p : PointerPlace) (tree : Tree) (due : List Due) (runs : List CopyRun) (r : Option CopyRun)
    (o : Object) → NextLeadsTo m depth p runs end tree due o
    → now ≡ end + own_size tree → OptionFull r → AreOwed m depth (length runs + 1) (option_places r) (below end tree)
    → IsCopying m depth (runs ++ option_to_list r) now (below end tree ++ due)
entered m depth end now p tree due runs r o k e full owed =
    let l : length runs + 1 ≡ length (reverse runs) + 1 = omega (arith, length-reverse runs) in
    let all = stacked_more m depth (length runs + 1) r (reverse runs) (below end tree) due l full owed k.next.stacked in
    let own = subst (λ n. AreBefore n (below end tree)) (sym e) (below_before m k.d p.segment p.word end tree o k.is) in record {
      message = k.next.message;
      stacked = subst (λ fs. Stacked m depth fs (below end tree ++ due)) (sym (reverse-more runs r)) all;
      before = before_join now (below end tree) due own (before_more end now due (omega (arith, e)) k.next.before);
      small = let x = size_due-append (below end tree) due in let y = size_below end tree in omega (arith, e, x, y, k.next.small);
    }

-- its stack has capacity for them
row_deep : (m : List (List ℕ)) (depth n t b a left : ℕ) (others : List PointerPlace) (due : List Due) → 0 < left
    → AreOwed m depth n (copy_row_places t b a left ++ others) due → n ≤ depth
row_deep m depth n t b a k others e some h = search rules

pub capacity_above : (capacity : ℕ) (m : List (List ℕ)) (depth : ℕ) (due : List Due) (runs : List CopyRun) (rest below : Option CopyRun) → depth ≤ capacity
    → OptionFull below → AreOwed m depth (length (runs ++ option_to_list rest) + 1) (option_places below) due → IfSome below (λ _. length runs < capacity)
capacity_above capacity m depth due runs rest k le full h = search (rules, length-append, row_deep)

-- the work grows by no more than the own words
slots_count : (a : ℕ) (ts : Trees) → length (slots a ts) ≡ tree_count ts
slots_count a none = refl
slots_count a (more t ts) = ap suc (slots_count (a + 1) ts)

elements_count : (m : List (List ℕ)) (deeper t b a ds ps d p : ℕ) (es : Trees) → AreElementsLeft m deeper t b ds ps d p es
    → length (element_slots d p a es) ≤ tree_count es * (d + p)
elements_count m deeper t b a ds ps d p (more (struct ws us) es) h =
    search (rules, length-append, slots_count, elements_count m deeper t (b + ds + ps) (a + d + p) ds ps d p es h.3)
elements_count m deeper t b a ds ps d p es h = search rules

below_count : (m : List (List ℕ)) (d s w end : ℕ) (u : Tree) (o : Object) → IsObject m d s w u o → length (below end u) ≤ own_size u
below_count m d s w end u h k = search (rules, slots_count, elements_count)

pub work_more : (m : List (List ℕ)) (d s w end : ℕ) (u : Tree) (o : Object) (runs : List CopyRun) (r : Option CopyRun) → IsObject m d s w u o
    → AreOwed m d 1 (option_places r) (below end u)
    → copy_work_left (runs ++ option_to_list r) ≤ copy_work_left runs + own_size u
work_more m d s w end u o runs r k owed = search (rules, count_more, owed_count, below_count)

-- the first pointer of the elements is a number of 32 bits
pub structs_start : (m : List (List ℕ)) (deeper s w count : ℕ) (x : Part) (u : Tree) → IsMessage m → IsStructsObject m deeper s w u count x → 0 < count
    → x.start + x.data_words < 2 ^ 32
structs_start m deeper s w zero x u is k some = absurd (omega (arith, some))
structs_start m deeper s w (suc count) x u is k some = omega (arith, k.start, k.found.inside, short_segment m x.segment is k.found.exists)
