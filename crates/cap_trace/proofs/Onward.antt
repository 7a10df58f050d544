-- How a search goes on from one pointer word to the next.
use Rattle.cap_spec.proofs.Lemmas.{HasWord-at, Before-asymmetric, Before-irreflexive, Before-trans, comes_beyond}
use Rattle.cap_spec.proofs.Lemmas.{one_lead, one_of_last}
use Rattle.cap_spec.proofs.Paths.Preorder.{Before-longer}
use Rattle.cap_spec.proofs.ProofNames.{List, [], append-nil, inl, inr, length, pos, refl, subst, sym, ℕ, ◌++◌, ◌<◌, ◌∙◌}
use Rattle.cap_spec.proofs.ProofNames.{◌∷◌, ◌≡◌, ◌⊎◌, Finds, Leads, to_cap, to_null, to_object, IsOneOf, segment_of}
use Rattle.cap_spec.proofs.ProofNames.{Before, IsTour, Reaches, Spot, StepsTo, word}
use Rattle.cap_spec.proofs.Verdicts.OneFault.{last_is_one}
use Rattle.cap_walk.specs.Trails.{Ahead, Apart, EachApart, Falls, IsTrail, IsUnder, Precedes}
use Rattle.cap_trace.specs.TraceNames.{Step, Item, Ptr}
use Rattle.cap_trace.proofs.Numbering.{Rises-last, before_later}

-- paths that are apart are in order
pub apart_in_order : (p q : List Step) → Apart p q → Before p q
apart_in_order [] q h = absurd h
apart_in_order (x ∷ xs) [] h = absurd h
apart_in_order (x ∷ xs) (y ∷ ys) (inl h) = inl h
apart_in_order (x ∷ xs) (y ∷ ys) (inr h) = inr (h.0, apart_in_order xs ys h.1)

-- what is under the words ahead is the first of them, or comes after it
under_after : (b : Ahead) (ahead : List Ahead) (q : List Step) → EachApart (b ∷ ahead) → IsUnder q (b ∷ ahead)
    → (b.path ≡ q) ⊎ Before b.path q
under_after b ahead q h (inl ([], e)) = inl (sym (e ∙ append-nil b.path))
under_after b ahead q h (inl (x ∷ v, e)) =
    inr (subst (λ (u : List Step). Before b.path u) (sym e) (Before-longer b.path x v))
under_after b [] q h (inr u) = absurd u
under_after b (c ∷ ahead) q h (inr u) =
    let k : Before b.path c.path = apart_in_order b.path c.path h.0 in
    inr (elim (under_after c ahead q h.1 u) [
      | inl e ↦ subst (λ (u : List Step). Before b.path u) e k
      | inr after ↦ Before-trans b.path c.path q k after
    ])

-- the last path that was looked at comes after the others
seen_before : (p q : List Step) (seen : List (List Step)) → Falls (p ∷ seen) → IsOneOf q seen → Before q p
seen_before p q [] h i = absurd i
seen_before p q (r ∷ seen) h (inl e) = subst (λ (u : List Step). Before u p) (sym e) h.0
seen_before p q (r ∷ seen) h (inr i) = Before-trans q r p (seen_before r q seen h.1 i) h.0

-- what was looked at is the last path, or comes before it
pub up_to_last : (p q : List Step) (seen : List (List Step)) → Falls (p ∷ seen) → IsOneOf q (p ∷ seen)
    → (q ≡ p) ⊎ Before q p
up_to_last p q seen h (inl e) = inl e
up_to_last p q seen h (inr i) = inr (seen_before p q seen h i)

is_last : (p : List Step) (ps : List (List Step)) → IsOneOf p (ps ++ p ∷ [])
is_last p [] = inl refl
is_last p (q ∷ ps) = inr (is_last p ps)

-- The tour of the next word ahead has one path more.
pub next_tour : (m : List (List ℕ)) (p : List Step) (seen : List (List Step)) (b : Ahead) (ahead : List Ahead)
    (tour : List (List Step)) → IsTrail m (p ∷ seen) (b ∷ ahead) → IsTour m p tour
    → IsTour m b.path (tour ++ b.path ∷ [])
next_tour m p seen b ahead tour t k = record {
  rising = Rises-last tour b.path k.rising (λ x i. before_later x p b.path t.precedes (k.none_after x i));
  reached = λ q i. reached q (one_of_last q b.path tour i);
  all = λ q level s w r h. all q level s w r h;
  none_after = λ q i. none q (one_of_last q b.path tour i);
}
  where
    reached : (q : List Step) → (q ≡ b.path) ⊎ IsOneOf q tour → (level s w : ℕ) × Reaches m q level s w
    reached q (inl e) = (
      b.level,
      b.segment,
      b.word,
      subst (λ (u : List Step). Reaches m u b.level b.segment b.word) (sym e) t.ahead_reached.0,
    )
    reached q (inr i) = k.reached q i

    none : (q : List Step) → (q ≡ b.path) ⊎ IsOneOf q tour → (q ≡ b.path) ⊎ Before q b.path
    none q (inl e) = inl e
    none q (inr i) = inr (before_later q p b.path t.precedes (k.none_after q i))

    not_after : (q : List Step) → Before q b.path → (b.path ≡ q) ⊎ Before b.path q → ⊥
    not_after q h (inl e) = Before-irreflexive q (subst (λ (u : List Step). Before q u) e h)
    not_after q h (inr after) = Before-asymmetric q b.path h after

    all : (q : List Step) (level s w : ℕ) → Reaches m q level s w → (q ≡ b.path) ⊎ Before q b.path
        → IsOneOf q (tour ++ b.path ∷ [])
    all q level s w r (inl e) =
        subst (λ (u : List Step). IsOneOf u (tour ++ b.path ∷ [])) (sym e) (is_last b.path tour)
    all q level s w r (inr h) = elim (t.complete q level s w r) [
      | inl i ↦ last_is_one b.path q tour (k.all q level s w r (up_to_last p q seen t.falls i))
      | inr u ↦ absurd (not_after q h (under_after b ahead q t.apart u))
    ]

-- The tour of the root word is its path alone.
pub root_tour : (m : List (List ℕ)) → 0 < length (segment_of m 0) → IsTour m [] ([] ∷ [])
root_tour m some =
    let x = HasWord-at m 0 0 some in
    let r : Reaches m [] 1 0 0 = (x.0, 0, x.1, (refl, refl), refl) in record {
      rising = tt;
      reached = λ q i. (1, 0, 0, subst (λ (u : List Step). Reaches m u 1 0 0) (sym (empty q i)) r);
      all = λ q level s w r h. inl (elim h [ inl e ↦ e | inr b ↦ absurd b ]);
      none_after = λ q i. inl (empty q i);
    }
  where
    empty : (q : List Step) → IsOneOf q ([] ∷ []) → q ≡ []
    empty q (inl e) = e
    empty q (inr i) = absurd i

-- a step leads on only from a word that finds an object
step_finds : (m : List (List ℕ)) (s w : ℕ) (x : Step) (mid : Spot) → StepsTo m (word s w) x mid
    → (k t b q : ℕ) × Finds m s w k t b q
step_finds m s w (Ptr i) mid (k, t, b, q, tag, ds, ps, found, less, ends) = (k, t, b, q, found.finds)
step_finds m s w (Item i) mid (inl (k, t, b, q, tag, n, found, less, ends)) = (k, t, b, q, found.finds)
step_finds m s w (Item i) mid (inr (k, t, b, q, tag, n, ds, ps, found, less, ends)) = (k, t, b, q, found.finds)

-- no path goes on from a word that finds no object
ends_there : (m : List (List ℕ)) (p : List Step) (level s w : ℕ) (x : Step) (v : List Step) (l s' w' : ℕ)
    → Reaches m p level s w → ((k t b q : ℕ) → Finds m s w k t b q → ⊥) → Reaches m (p ++ x ∷ v) l s' w' → ⊥
ends_there m p level s w x v l s' w' r none h =
    let on = (comes_beyond m p (x ∷ v) level l (word s w) (word s' w') r h).1 in
    let f = step_finds m s w x on.0 on.2 in
    none f.0 f.1 f.2 f.3 f.4

-- After a word that finds no object the others are ahead.
pub leaf_trail : (m : List (List ℕ)) (seen : List (List Step)) (a : Ahead) (ahead : List Ahead)
    → IsTrail m seen (a ∷ ahead) → ((k t b q : ℕ) → Finds m a.segment a.word k t b q → ⊥)
    → IsTrail m (a.path ∷ seen) ahead
leaf_trail m seen a ahead t none = record {
  falls = falls seen t.falls t.precedes;
  precedes = precedes ahead t.apart;
  apart = apart ahead t.apart;
  seen_reached = λ q i. reached q i;
  ahead_reached = t.ahead_reached.1;
  complete = λ q level s w r. complete q level s w r (t.complete q level s w r);
}
  where
    falls : (seen : List (List Step)) → Falls seen → Precedes seen (a ∷ ahead) → Falls (a.path ∷ seen)
    falls [] h k = tt
    falls (p ∷ seen) h k = (k, h)

    precedes : (ahead : List Ahead) → EachApart (a ∷ ahead) → Precedes (a.path ∷ seen) ahead
    precedes [] h = tt
    precedes (b ∷ ahead) h = apart_in_order a.path b.path h.0

    apart : (ahead : List Ahead) → EachApart (a ∷ ahead) → EachApart ahead
    apart [] h = tt
    apart (b ∷ ahead) h = h.1

    reached : (q : List Step) → IsOneOf q (a.path ∷ seen) → (level s w : ℕ) × Reaches m q level s w
    reached q (inl e) = (
      a.level,
      a.segment,
      a.word,
      subst (λ (u : List Step). Reaches m u a.level a.segment a.word) (sym e) t.ahead_reached.0,
    )
    reached q (inr i) = t.seen_reached q i

    complete : (q : List Step) (level s w : ℕ) → Reaches m q level s w → IsOneOf q seen ⊎ IsUnder q (a ∷ ahead)
        → IsOneOf q (a.path ∷ seen) ⊎ IsUnder q ahead
    complete q level s w r (inl i) = inl (inr i)
    complete q level s w r (inr (inl ([], e))) = inl (inl (e ∙ append-nil a.path))
    complete q level s w r (inr (inl (x ∷ v, e))) =
        absurd (ends_there m a.path a.level a.segment a.word x v level s w t.ahead_reached.0 none
        (subst (λ (u : List Step). Reaches m u level s w) e r))
    complete q level s w r (inr (inr u)) = inr u

-- null and capabilities are no objects
pub null_finds_none : (m : List (List ℕ)) (s w n : ℕ) → Leads m s w n to_null → (k t b q : ℕ) → Finds m s w k t b q → ⊥
null_finds_none m s w n h k t b q f =
    let e : to_null ≡ to_object t (pos b) q = (one_lead m s w n k to_null (to_object t (pos b) q) h f.leads).1 in cc

pub cap_finds_none : (m : List (List ℕ)) {s w n : ℕ} (i : ℕ) → Leads m s w n (to_cap i) → (k t b q : ℕ)
    → Finds m s w k t b q → ⊥
cap_finds_none m {s} {w} {n} i h k t b q f =
    let e : to_cap i ≡ to_object t (pos b) q = (one_lead m s w n k (to_cap i) (to_object t (pos b) q) h f.leads).1 in cc
