-- A walk that goes past null words in a row.
use Rattle.cap_spec.proofs.Lemmas.{HasWord-inside, HasWord-segment, formed, lead_word, one_tree, short_segment}
use Rattle.cap_spec.proofs.ProofNames.{List, None, Option, Some, [], ap, append-nil, arith, inl, inr, length, option_to_list}
use Rattle.cap_spec.proofs.ProofNames.{refl, reverse, slice_get, subst, suc, sym, zero, ℕ, ◌++◌, ◌+◌, ◌-◌, ◌<◌, ◌∙◌, ◌∷◌}
use Rattle.cap_spec.proofs.ProofNames.{◌^◌, ◌≡◌, ◌≤◌, cases_lt, reverse-append, layout, trim, Denotes}
use Rattle.cap_spec.proofs.ProofNames.{pointer_to, HasWord, segment_of, Tree, rules}
use Rattle.cap_spec.specs.Tree.{null}
use Rattle.cap_canon.specs.AtRuns.{AtRun}
use Rattle.cap_canon.specs.CanonNames.{AreOwed, Due, IsCopyRest, IsCopying, Stacked, first_place, own_size}
use Rattle.cap_canon.specs.CanonNames.{below, longest_copy, copy_row_places, copy_work_left, CopyRun, PointerPlace}
use Rattle.cap_canon.specs.NullTurns.{AreNullTurns, null_slots, with_first}
use Rattle.cap_canon.specs.Roots.{ForTrimmed}
use Rattle.cap_canon.specs.NullsInOrder.{zero_null}
use Rattle.cap_canon.specs.declared.objects.Object.TheVariants as object
use Rattle.cap_canon.proofs.Entering.{entered}
use Rattle.cap_canon.proofs.Owing.{next_work}
use Rattle.cap_canon.proofs.Runs.{has_rest, rest_of_row}
use Rattle.cap_canon.proofs.Walks.{TurnHere, next_run, turn_here}

-- after the first n of several words in a row
abbrev pub onward : CopyRun → ℕ → CopyRun
onward f n = record {
  segment = f.segment;
  at = f.at + n;
  slot = f.slot + n;
  left = f.left - n;
  more = f.more;
  skip = f.skip;
  gap = f.gap;
  pointers = f.pointers;
}

-- the state after the turns at n null words from a on, seen from before these turns
abbrev pub after_nulls : (List (List ℕ) → Tree → ℕ → List Due → Type 0) → ℕ → ℕ → List (List ℕ) → Tree → ℕ → List Due → Type 0
after_nulls state a n m u end due = ((k : ℕ) → k < n → slice_get (layout u) (a + k) ≡ Some 0) × state m u end (null_slots a n ++ due)

-- one more null pointer word is due after them
slots_more : (a n : ℕ) (due : List Due) → null_slots a n ++ record { slot = a + n; tree = null } ∷ due ≡ null_slots a (suc n) ++ due
slots_more a zero due =
    let e : a + 0 ≡ a = omega arith in ap (λ i. record { slot = i; tree = null } ∷ due) e
slots_more a (suc n) due =
    let e : a + suc n ≡ a + 1 + n = omega arith in
    ap (λ ds. record { slot = a; tree = null } ∷ ds)
    (ap (λ i. null_slots (a + 1) n ++ record { slot = i; tree = null } ∷ due) e ∙ slots_more (a + 1) n due)

-- nothing is laid at null
pub at_null : (Q : ℕ → List Due → Type 0) (tree : Tree) (end : ℕ) (due : List Due) → tree ≡ null → Q end due → Q (end + own_size tree) (below end tree ++ due)
at_null Q tree end due e q =
    let z : end ≡ end + 0 = omega arith in
    subst (λ t. Q (end + own_size t) (below end t ++ due)) (sym e) (subst (λ n. Q n due) z q)

-- the turn at a null word
pub null_turn : {m : List (List ℕ)} {state : List (List ℕ) → Tree → ℕ → List Due → Type 0} {depth : ℕ} {runs : List CopyRun} {f : CopyRun} {end : ℕ}
    → AtRun m state depth runs f end → HasWord m f.segment f.at 0 → (rest : Option CopyRun) → IsCopyRest f rest
    → TurnHere m state depth (runs ++ option_to_list rest) (first_place f) end object.Null
null_turn {m} {state} {depth} {runs} {f} {end} k is_null rest is_rest =
    turn_here object.Null k rest is_rest (λ t c d h. ap trim (zero_null m f.segment f.at t c d h is_null))

-- With the turn at one more null word, the zeros are one more, and so are the null pointer words that are due.
one_due : {m : List (List ℕ)} (state : List (List ℕ) → Tree → ℕ → List Due → Type 0) {depth : ℕ} {runs : List CopyRun} (f : CopyRun) {end : ℕ} (n : ℕ)
    → (h : TurnHere m (after_nulls state f.slot n) depth runs (first_place (onward f n)) end object.Null)
    → after_nulls state f.slot (suc n) m (trim h.at.root) end h.at.due
one_due {m} state {depth} {runs} f {end} n h =
    let u = trim h.at.root in
    let here : slice_get (layout u) (f.slot + n) ≡ Some 0 =
    h.turn.pointed.2 ∙ ap (λ t. Some (pointer_to h.turn.pointed.0 t)) h.met.is in
    let zeros : (i : ℕ) → i < suc n → slice_get (layout u) (f.slot + i) ≡ Some 0 = λ i less. elim (cases_lt i n) [
      | inl early ↦ h.at.so_far.0 i early
      | inr late ↦ let same : n ≡ i = omega (arith, late, less) in subst (λ j. slice_get (layout u) (f.slot + j) ≡ Some 0) same here
    ] in
    let due : state m u end (null_slots f.slot (suc n) ++ h.at.due) =
    subst (λ ds. state m u end ds) (slots_more f.slot n h.at.due)
    (subst (λ t. state m u end (null_slots f.slot n ++ record { slot = f.slot + n; tree = t } ∷ h.at.due)) h.met.is h.at.so_far.1) in (zeros, due)

-- one more null word that isn't the last of its row
one_on : {m : List (List ℕ)} (state : List (List ℕ) → Tree → ℕ → List Due → Type 0) {depth : ℕ} {runs : List CopyRun} (f : CopyRun) {end : ℕ} (n : ℕ)
    → n + 1 < f.left → HasWord m f.segment (f.at + n) 0 → AtRun m (after_nulls state f.slot n) depth runs (onward f n) end
    → AtRun m (after_nulls state f.slot (suc n)) depth runs (onward (onward f n) 1) end
    × (copy_work_left (runs ++ onward (onward f n) 1 ∷ []) + 1 ≡ copy_work_left (runs ++ onward f n ∷ []))
one_on {m} state {depth} {runs} f {end} n lt is_null k =
    let g = onward f n in
    let r : IsCopyRest g (Some (onward g 1)) = rest_of_row f.segment g.at g.slot f.more f.skip f.gap f.pointers (omega (arith, lt)) k.full in
    let h = null_turn k is_null (Some (onward g 1)) r in
    let e : end ≡ end + own_size h.at.tree = omega (arith, ap own_size h.met.is) in
    let all = runs ++ onward g 1 ∷ [] in
    let walking : IsCopying m depth all end (below end h.at.tree ++ h.at.due) =
    subst (λ fs. IsCopying m depth fs end (below end h.at.tree ++ h.at.due)) (append-nil all)
    (entered m depth end end (first_place g) h.at.tree h.at.due all None object.Null h.met e tt (rw h.met.is tt)) in
    let so_far = at_null (λ x ds. after_nulls state f.slot (suc n) m (trim h.at.root) x ds) h.at.tree end h.at.due h.met.is (one_due state f n h) in (
      next_run m (after_nulls state f.slot n) (after_nulls state f.slot (suc n)) depth all runs (first_place g) end end (onward g 1) h.at e walking so_far,
      next_work runs g (Some (onward g 1)) r,
    )

-- the same walk with a state that follows from the one before
restated : {m : List (List ℕ)} {before after : List (List ℕ) → Tree → ℕ → List Due → Type 0} {depth : ℕ} {runs : List CopyRun} {f : CopyRun} {end : ℕ}
    → AtRun m before depth runs f end → ((u : Tree) (due : List Due) → before m u end due → after m u end due) → AtRun m after depth runs f end
restated {m} {before} {after} {depth} {runs} {f} {end} k go = record {
  full = k.full;
  short = k.short;
  turn = λ rest is_rest.
      let t = k.turn rest is_rest in record {
        root = t.root;
        charge = t.charge;
        denotes = t.denotes;
        tree = t.tree;
        due = t.due;
        next = t.next;
        laid = t.laid;
        so_far = go (trim t.root) (record { slot = f.slot; tree = t.tree } ∷ t.due) t.so_far;
      };
}

onward_none : (f : CopyRun) → onward f 0 ≡ f
onward_none f =
    let at : f.at + 0 ≡ f.at = omega arith in
    let slot : f.slot + 0 ≡ f.slot = omega arith in
    let left : f.left - 0 ≡ f.left = omega arith in rw (at, slot, left) refl

onward_more : (f : CopyRun) (n : ℕ) → onward (onward f n) 1 ≡ onward f (suc n)
onward_more f n =
    let at : f.at + n + 1 ≡ f.at + suc n = omega arith in
    let slot : f.slot + n + 1 ≡ f.slot + suc n = omega arith in
    let left : f.left - n - 1 ≡ f.left - suc n = omega arith in rw (at, slot, left) refl

-- Several null words in a row are one turn each.
abbrev pub GoesOn : List (List ℕ) → (List (List ℕ) → Tree → ℕ → List Due → Type 0) → ℕ → List CopyRun → CopyRun → ℕ → ℕ → CopyRun → Type 0
GoesOn m state depth runs f end n g = AtRun m (after_nulls state f.slot n) depth runs g end × (copy_work_left (runs ++ g ∷ []) ≤ copy_work_left (runs ++ f ∷ []))

pub nulls_on : {m : List (List ℕ)} (state : List (List ℕ) → Tree → ℕ → List Due → Type 0) {depth : ℕ} {runs : List CopyRun} (f : CopyRun) {end : ℕ} (n : ℕ)
    → n < f.left → ((k : ℕ) → k < n → HasWord m f.segment (f.at + k) 0) → AtRun m state depth runs f end
    → GoesOn m state depth runs f end n (onward f n)
nulls_on {m} state {depth} {runs} f {end} zero lt are_null k =
    let first : AtRun m (after_nulls state f.slot 0) depth runs f end = restated k (λ u due s. ((λ i less. absurd (omega (arith, less))), s)) in
    let here : GoesOn m state depth runs f end 0 f = (first, omega arith) in
    subst (λ g. GoesOn m state depth runs f end 0 g) (sym (onward_none f)) here
nulls_on {m} state {depth} {runs} f {end} (suc n) lt are_null k =
    let before = nulls_on state f n (omega (arith, lt)) (λ i less. are_null i (omega (arith, less))) k in
    let next = one_on state f n (omega (arith, lt)) (are_null n (omega arith)) before.0 in
    let here : GoesOn m state depth runs f end (suc n) (onward (onward f n) 1) = (next.0, omega (arith, next.1, before.1)) in
    subst (λ g. GoesOn m state depth runs f end (suc n) g) (onward_more f n) here

-- What is due then, of which the null words come first.
pub record NullsDue (m : List (List ℕ)) (state : List (List ℕ) → Tree → ℕ → List Due → Type 0) (depth a n end : ℕ) : Type 0 where
  pub root : Tree
  pub charge : ℕ
  pub denotes : Denotes m 0 0 root charge depth
  pub due : List Due
  pub turns : AreNullTurns (trim root) a n end
  pub so_far : state m (trim root) end (null_slots a n ++ due)
  pub near : a + n ≤ longest_copy

pub nulls_due : {m : List (List ℕ)} (state : List (List ℕ) → Tree → ℕ → List Due → Type 0) {depth : ℕ} {runs : List CopyRun} (f : CopyRun) {end : ℕ} (n c : ℕ)
    → c ≡ suc n → HasWord m f.segment (f.at + n) 0 → AtRun m (after_nulls state f.slot n) depth runs (onward f n) end → NullsDue m state depth f.slot c end
nulls_due {m} state {depth} {runs} f {end} n c e is_null k =
    let r = has_rest (onward f n) k.full in
    let h = null_turn k is_null r.0 r.1 in
    let t = h.at in
    let one = one_due state f n h in
    subst (λ i. NullsDue m state depth f.slot i end) (sym e) (record {
      root = t.root;
      charge = t.charge;
      denotes = t.denotes;
      due = t.due;
      turns = record { zeros = one.0; before = omega (arith, t.next.inside); inside = omega (arith, h.turn.inside) };
      so_far = one.1;
      near = omega (arith, t.next.inside, t.next.small);
    })

-- and the walk after the turns there
pub nulls_passed : {m : List (List ℕ)} (state : List (List ℕ) → Tree → ℕ → List Due → Type 0) (new : List (List ℕ) → Tree → ℕ → List Due → Type 0) {depth : ℕ}
    {runs : List CopyRun} (f : CopyRun) {end : ℕ} (n c : ℕ) → c ≡ suc n → HasWord m f.segment (f.at + n) 0
    → ((u : Tree) (due : List Due) → AreNullTurns u f.slot c end → state m u end (null_slots f.slot c ++ due) → new m u end due)
    → AtRun m (after_nulls state f.slot n) depth runs (onward f n) end → AtRun m (with_first new) depth runs (onward f n) end
nulls_passed {m} state new {depth} {runs} f {end} n c e is_null go k = record {
  full = k.full;
  short = k.short;
  turn = λ rest is_rest.
      let h = null_turn k is_null rest is_rest in
      let t = h.at in
      let one = one_due state f n h in
      let turns : AreNullTurns (trim t.root) f.slot (suc n) end =
      record { zeros = one.0; before = omega (arith, t.next.inside); inside = omega (arith, h.turn.inside) } in record {
        root = t.root;
        charge = t.charge;
        denotes = t.denotes;
        tree = t.tree;
        due = t.due;
        next = t.next;
        laid = t.laid;
        so_far = go (trim t.root) t.due (subst (λ i. AreNullTurns (trim t.root) f.slot i end) (sym e) turns)
            (subst (λ i. state m (trim t.root) end (null_slots f.slot i ++ t.due)) (sym e) one.1);
      };
}

-- words in a row that are owed are inside their segment
word_in : (m : List (List ℕ)) (s w : ℕ) (t : Tree) (c d : ℕ) → Denotes m s w t c d → (s < length m) × (w < length (segment_of m s))
word_in m s w t c d h = let f = formed m s w t c d h in search (rules, lead_word, HasWord-segment, HasWord-inside)

row_in : (m : List (List ℕ)) (depth n s b a p : ℕ) (others : List PointerPlace) (due : List Due) → 0 < p → AreOwed m depth n (copy_row_places s b a p ++ others) due
    → (s < length m) × (b + p ≤ length (segment_of m s))
row_in m depth n s b a zero others due some h = absurd (omega (arith, some))
row_in m depth n s b a (suc p) others [] some h = absurd h
row_in m depth n s b a (suc zero) others (x ∷ due) some h =
    let i = word_in m s b h.1.0 h.1.1 h.1.2 h.1.3 in (i.0, omega (arith, i.1))
row_in m depth n s b a (suc (suc p)) others (x ∷ due) some h =
    let i = row_in m depth n s (b + 1) (a + 1) (suc p) others due (omega arith) h.2 in (i.0, omega (arith, i.1))

pub rest_in : {m : List (List ℕ)} {state : List (List ℕ) → Tree → ℕ → List Due → Type 0} {depth : ℕ} {runs : List CopyRun} (f : CopyRun) {end : ℕ} → 1 < f.left
    → AtRun m state depth runs f end → (f.segment < length m) × (f.at + f.left ≤ length (segment_of m f.segment))
rest_in {m} {state} {depth} {runs} f {end} lt k =
    let g = onward f 1 in
    let r : IsCopyRest f (Some g) = rest_of_row f.segment f.at f.slot f.more f.skip f.gap f.pointers lt k.full in
    let t = k.turn (Some g) r in
    let e : reverse (runs ++ g ∷ []) ≡ g ∷ reverse runs = reverse-append runs (g ∷ []) in
    let s : Stacked m depth (g ∷ reverse runs) t.due = subst (λ fs. Stacked m depth fs t.due) e t.next.stacked in
    let i = row_in m depth (length (reverse runs) + 1) f.segment (f.at + 1) (f.slot + 1) (f.left - 1) _ s.0 (omega (arith, lt)) s.3.owed in
    (i.0, omega (arith, i.1, lt))

-- The null words are the first and those that come after it.
pub null_each : (m : List (List ℕ)) (s b n : ℕ) → HasWord m s b 0 → ((k : ℕ) → k < n → HasWord m s (b + 1 + k) 0) → (k : ℕ) → k < suc n → HasWord m s (b + k) 0
null_each m s b n first more zero lt = let e : b ≡ b + 0 = omega arith in subst (λ i. HasWord m s i 0) e first
null_each m s b n first more (suc k) lt = let e : b + 1 + k ≡ b + suc k = omega arith in subst (λ i. HasWord m s i 0) e (more k (omega (arith, lt)))

-- what stays as it is at the root, stays so whatever tree the root denotes
pub kept_each : {K : Type 0} (m : List (List ℕ)) (new old : Tree → K) (root : Tree) (charge depth : ℕ) → Denotes m 0 0 root charge depth
    → new (trim root) ≡ old (trim root) → ForTrimmed m (λ u. new u ≡ old u)
kept_each m new old root charge depth h e t c d n =
    subst (λ u. new (trim u) ≡ old (trim u)) (one_tree m 0 0 root t charge depth c d h n).part e

-- a word of the message is a number of 32 bits
pub word_near : {m : List (List ℕ)} {state : List (List ℕ) → Tree → ℕ → List Due → Type 0} {depth : ℕ} {runs : List CopyRun} {f : CopyRun} {end : ℕ} (w x : ℕ)
    → AtRun m state depth runs f end → HasWord m f.segment w x → w < 2 ^ 32
word_near {m} {state} {depth} {runs} {f} {end} w x k has =
    let r = has_rest f k.full in
    let inside = HasWord-inside m f.segment w x has in
    let short = short_segment m f.segment (k.turn r.0 r.1).next.message (HasWord-segment m f.segment w x has) in omega (arith, inside, short)

-- the first null word alone
pub nulls_first : {m : List (List ℕ)} (state : List (List ℕ) → Tree → ℕ → List Due → Type 0) {depth : ℕ} {runs : List CopyRun} (f : CopyRun) {end : ℕ}
    → AtRun m state depth runs f end → GoesOn m state depth runs f end 0 (onward f 0)
nulls_first state f k = nulls_on state f 0 (omega (arith, k.full.some)) (λ i less. absurd (omega (arith, less))) k

pub first_passed : {m : List (List ℕ)} (state : List (List ℕ) → Tree → ℕ → List Due → Type 0) (new : List (List ℕ) → Tree → ℕ → List Due → Type 0) {depth : ℕ}
    {runs : List CopyRun} (f : CopyRun) {end : ℕ} → HasWord m f.segment f.at 0
    → ((u : Tree) (due : List Due) → AreNullTurns u f.slot 1 end → state m u end (null_slots f.slot 1 ++ due) → new m u end due)
    → AtRun m state depth runs f end → AtRun m (with_first new) depth runs f end × (copy_work_left (runs ++ f ∷ []) ≤ copy_work_left (runs ++ f ∷ []))
first_passed {m} state new {depth} {runs} f {end} is_null go k =
    let at : HasWord m f.segment (f.at + 0) 0 = subst (λ i. HasWord m f.segment i 0) (omega arith) is_null in (
      subst (λ g. AtRun m (with_first new) depth runs g end) (onward_none f) (nulls_passed state new f 0 1 refl at go (nulls_first state f k).0),
      omega arith,
    )

pub first_due : {m : List (List ℕ)} (state : List (List ℕ) → Tree → ℕ → List Due → Type 0) {depth : ℕ} {runs : List CopyRun} (f : CopyRun) {end : ℕ}
    → HasWord m f.segment f.at 0 → AtRun m state depth runs f end → NullsDue m state depth f.slot 1 end
first_due {m} state {depth} {runs} f {end} is_null k =
    let at : HasWord m f.segment (f.at + 0) 0 = subst (λ i. HasWord m f.segment i 0) (omega arith) is_null in
    nulls_due state f 0 1 refl at (nulls_first state f k).0
