-- What a walk finds of the copy of a message while it looks for the first difference.
use Rattle.std.proofs.lemmas.Bool.{cases_lt}
use Rattle.cap_spec.specs.declared.Step.{Step}
use Rattle.cap_spec.proofs.Lemmas.{Before-irreflexive, HasWord-inside, formed, lead_word, one_lead, paths_cost_charge}
use Rattle.cap_spec.proofs.Paths.PathCounts.{caps_counted}
use Rattle.cap_spec.proofs.ProofNames.{AreDistinct, Costs, Denotes, HasWord, IsCanonical, IsOneOf, List, None}
use Rattle.cap_spec.proofs.ProofNames.{Option, ReachesCap, Reaches, Some, Tree, [], ap, arith, inl, inr, length}
use Rattle.cap_spec.proofs.ProofNames.{refl, segment_of, subst, sym, ℕ, ◌+◌, ◌<◌, ◌∷◌, ◌≡◌, ◌≤◌, ◌↔◌}
use Rattle.cap_walk.specs.Reports.{IsVetted}
use Rattle.cap_walk.specs.Trails.{Ahead, Falls, IsTrail}
use Rattle.cap_walk.specs.Walking.{IsLookedAt}
use Rattle.cap_walk.specs.declared.report.Report.{Report}
use Rattle.cap_canon.specs.InOrder.{AreDue, Differs, IsAsInCopy, IsInOrder, IsLaidSoFar, IsNotCanonical, MayStartAt}
use Rattle.cap_canon.specs.Laying.{AreBefore, Due}
use Rattle.cap_canon.specs.NullsInOrder.{null_in_order}
use Rattle.cap_canon.specs.StillToLay.{longest_copy}
use Rattle.cap_canon.proofs.Copies.{copy_charged}
use Rattle.cap_canon.proofs.InOrder.{canonical_at_end, differs_here, first_in_order, long_differs, next_in_order}
use Rattle.cap_difference.specs.Differences.{HasWordsBelow, words_of_lead}
use Rattle.cap_difference.specs.Reasons.{PointerDiffers, is_capability}
use Rattle.cap_difference.specs.Searching.{IsCopiedSoFar, IsSearched, no_caps_on}
use Rattle.cap_difference.specs.declared.difference.Difference.{Difference}
use Rattle.cap_difference.specs.declared.reason.DifferenceReason.{DifferenceReason}
use Rattle.cap_difference.specs.declared.reason.DifferenceReason.TheVariants.{Capability}
use Rattle.cap_difference.proofs.Found.{TellsNone, TellsSome, same_here}
use Rattle.cap_difference.proofs.Preorders.{falls_rest, seen_before}

-- a message that denotes a tree has a root word
has_root : (m : List (List ℕ)) (t : Tree) (c d : ℕ) → Denotes m 0 0 t c d → 0 < length (segment_of m 0)
has_root m t c d h =
    let f = formed m 0 0 t c d h in
    let p = lead_word m 0 0 f.k f.r f.leads in
    let e = HasWord-inside m 0 0 p.0 p.1 in omega (arith, e)

-- before the first pointer word
pub first_searched : (m : List (List ℕ)) → length m ≡ 1 → IsSearched m 1 []
first_searched m one = record {
  same = record { one = one; words = 0; have = refl; ends = omega arith; same = λ path i. absurd i };
  no_caps = λ path i. absurd i;
  cost = 0;
  costs = refl;
  few = omega arith;
  copied = λ t c d h few. first_in_order m one (has_root m t c d h) few;
}

-- an object has no more words than following its pointer costs
words_cost : (m : List (List ℕ)) (s w n cost : ℕ) → HasWordsBelow m s w n → Costs m s w cost → n ≤ cost
words_cost m s w n cost (k, r, lead, e) (inl h) =
    let o = one_lead m s w k cost _ _ lead h in let z = ap words_of_lead o.1 in omega (arith, e, z)
words_cost m s w n cost (k, r, lead, e) (inr (inl (i, h))) =
    let o = one_lead m s w k cost _ _ lead h in let z = ap words_of_lead o.1 in omega (arith, e, z)
words_cost m s w n cost (k, r, lead, e) (inr (inr (j, t, b, q, tag, f, has, sum))) =
    let o = one_lead m s w k j _ _ lead f.leads in let z = ap words_of_lead o.1 in omega (arith, e, z, sum)

-- the next word is before the end of the copy
next_before : (m : List (List ℕ)) (a : Ahead) (later : List Ahead) (end : ℕ) (whole : Tree) → IsLaidSoFar m end (a ∷ later) whole → a.word < end
next_before m a later end whole k = go k.due k.are_due k.before
  where
    go : (due : List Due) → AreDue m (a ∷ later) due → AreBefore end due → a.word < end
    go [] h before = absurd h
    go (x ∷ due) h before = omega (arith, h.1, before.0)

-- The walk has looked at the word s:w, number n.
module _ (m : List (List ℕ)) (seen : List (List Step)) (a : Ahead) (s w n cost end : ℕ) (l : IsLookedAt m seen a s w n cost)
    (k : IsSearched m end seen) where
  reached : Reaches m a.path a.level s w
  reached = rw (l.segment, l.word) at l.trail.ahead_reached.0

  pub first : s ≡ 0
  first = omega (arith, l.exists, k.same.one)

  -- If a copy has its object as it is, it has all so far.
  copied_on : (now : ℕ) → (MayStartAt m w end → IsAsInCopy m w end now) → IsCopiedSoFar m now (a.path ∷ seen)
  copied_on now same t c d h few =
      let o = k.copied t c d h few in
      let before = next_before m a l.later end _ (o.so_far (a ∷ l.later) l.trail t c d h) in
      go o (same record { after = omega (arith, before, l.word); inside = o.inside; few = few })
    where
      go : IsInOrder m end seen → IsAsInCopy m w end now → IsInOrder m now (a.path ∷ seen)
      go o (inl (null, e)) =
          subst (λ i. IsInOrder m i (a.path ∷ seen)) (sym e)
          (null_in_order m end seen a.path a.level s w reached (subst (λ v. HasWord m v w 0) (sym first) null) o)
      go o (inr x) = next_in_order m seen a s w n cost end now l x o

  -- If it doesn't differ, all is known with one path more.
  pub searched_here : (now : ℕ) → ((n' : ℕ) × HasWordsBelow m s w n' × (now ≡ end + n')) → ((v : DifferenceReason) → ¬ PointerDiffers m s w end v)
      → (s ≡ 0 → MayStartAt m w end → IsAsInCopy m w end now) → IsSearched m now (a.path ∷ seen)
  searched_here now (n', below, e) none same =
      let less = words_cost m s w n' cost below l.costs in record {
        same = same_here m seen a s w n cost end l k.same now (n', below, e) none;
        no_caps = no_caps_on m seen a.path a.level s w reached (λ j i x. none Capability (is_capability refl j i x)) k.no_caps;
        cost = cost + k.cost;
        costs = (a.level, s, w, cost, k.cost, reached, l.costs, k.costs, refl);
        few = omega (arith, e, less, k.few);
        copied = copied_on now (same first);
      }

  -- If no copy has it, the message isn't canonical.
  pub differs_so : (s ≡ 0 → Differs m w end) → IsNotCanonical m
  differs_so unlike t c d h few canon = elim (cases_lt longest_copy (length (segment_of m 0))) [
    | inl long ↦ long_differs m long t c d h few canon
    | inr short ↦ differs_here seen a end l (unlike first) (inl (k.copied t c d h short)) t c d h few canon
  ]

-- the paths looked at are distinct
falls_distinct : (seen : List (List Step)) → Falls seen → AreDistinct seen
falls_distinct [] h = tt
falls_distinct (p ∷ seen) h = (λ i. Before-irreflexive p (seen_before p p seen h i), falls_distinct seen (falls_rest p seen h))

-- A whole walk found no difference at any path.
module _ (m : List (List ℕ)) (end : ℕ) (report : Report) (vetted : IsVetted m report) (seen : List (List Step)) (trail : IsTrail m seen [])
    (k : IsSearched m end seen) where
  -- no path leads to a capability
  no_caps : report.caps ≡ 0
  no_caps =
      let (paths, _, count, exact) = caps_counted m vetted.0 report.charge report.depth vetted.1.within.denotes in
      let none = go paths (λ q i. (exact q).0 i) in omega (arith, vetted.1.caps, count, none)
    where
      go : (paths : List (List Step)) → ((q : List Step) → IsOneOf q paths → ReachesCap m q) → length paths ≡ 0
      go [] h = refl
      go (q ∷ paths) h =
          let (level, s, w, j, i, r, leads) = h q (inl refl) in
          elim (trail.complete q level s w r) [
            | inl one ↦ absurd (k.no_caps q one (level, s, w, j, i, r, leads))
            | inr under ↦ absurd under
          ]

  -- the copy isn't longer than the charge
  end_few : end ≤ longest_copy
  end_few =
      let within = vetted.1.within in
      let less = paths_cost_charge m vetted.0 report.charge report.depth within.denotes seen k.cost (falls_distinct seen trail.falls) k.costs in
      omega (arith, k.few, less, within.few_words)

  whole : length (segment_of m 0) ≤ longest_copy → (end ≡ length (segment_of m 0)) ↔ IsCanonical m
  whole few =
      canonical_at_end m seen end report vetted.0 trail (k.copied vetted.0 report.charge report.depth vetted.1.within.denotes few) vetted.1 no_caps

  inside : length (segment_of m 0) ≤ longest_copy → end ≤ length (segment_of m 0)
  inside few = (k.copied vetted.0 report.charge report.depth vetted.1.within.denotes few).inside

  -- a canonical message isn't longer than its copy
  short : IsCanonical m → length (segment_of m 0) ≤ longest_copy
  short (words, h, e) =
      let within = vetted.1.within in
      let less = copy_charged m vetted.0 report.charge report.depth words within.denotes h in
      let same : length (segment_of m 0) ≡ length words = ap (λ u. length (segment_of u 0)) e in
      omega (arith, less, same, within.few_words)

  -- It is canonical exactly if no words come after its objects.
  pub found_canonical : (r : Option Difference) → TellsSome m end report r → TellsNone m end r → (r ≡ None) ↔ IsCanonical m
  found_canonical None some less =
      let few : length (segment_of m 0) ≤ longest_copy = omega (arith, less, end_few) in
      (λ _. (whole few).0 (omega (arith, less, inside few)), λ _. refl)
  found_canonical (Some x) more none =
      (λ e. absurd (cc e), λ canon. let e = (whole (short canon)).1 canon in absurd (omega (arith, e, more.5)))
