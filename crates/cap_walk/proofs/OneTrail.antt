-- What is ahead of a walk follows from the paths that it has looked at.
use Rattle.cap_spec.proofs.Lemmas.{HasWord-at, Before-trans, one_reached}
use Rattle.cap_spec.proofs.ProofNames.{List, [], append-nil, append_assoc, ap₂, arith, inl, inr, length, refl, subst}
use Rattle.cap_spec.proofs.ProofNames.{sym, ℕ, ◌++◌, ◌<◌, ◌∙◌, ◌∷◌, ◌≡◌, Finds, IsComposite, near, IsOneOf, HasWord}
use Rattle.cap_spec.proofs.ProofNames.{segment_of, Before, Reaches, rules}
use Rattle.cap_walk.specs.WalkNames.{Step, object_children, Ahead, Apart, AreReached, EachApart, Falls, IsTrail}
use Rattle.cap_walk.specs.WalkNames.{IsUnder}
use Rattle.cap_walk.specs.Trails.{Precedes}
use Rattle.cap_walk.proofs.Apart.{apart-before, longer-differs, not_before-apart, not_before-self}
use Rattle.cap_walk.proofs.Children.{beyond}
use Rattle.cap_walk.proofs.Objects.{object-brings}
use Rattle.cap_walk.proofs.Tours.{Apart-under, Falls-before}
use Rattle.cap_walk.proofs.Trails.{trail-step}
use Rattle.cap_walk.proofs.Turning.{null_ends}

-- no path is apart from what goes on from it
not_apart-longer : (p v : List Step) → Apart p (p ++ v) → ⊥
not_apart-longer [] v h = h
not_apart-longer (x ∷ p) v (inl h) = omega arith
not_apart-longer (x ∷ p) v (inr h) = not_apart-longer p v h.1

rest_apart : (a : Ahead) (xs : List Ahead) → EachApart (a ∷ xs) → EachApart xs
rest_apart a xs h = search rules

-- What is under a word ahead wasn't looked at.
not_seen : (m : List (List ℕ)) (seen : List (List Step)) (ahead : List Ahead) (q : List Step) → IsTrail m seen ahead
    → IsUnder q ahead → IsOneOf q seen → ⊥
not_seen m (p ∷ seen) (a ∷ ahead) q t u one = under u
  where
    earlier : IsOneOf q (p ∷ seen) → Before q a.path
    earlier (inl e) = subst (λ (v : List Step). Before v a.path) (sym e) t.precedes
    earlier (inr k) = Before-trans q p a.path (Falls-before p q seen t.falls k) t.precedes

    under : IsUnder q (a ∷ ahead) → ⊥
    under (inl (rest, e)) = not_before-self a.path rest (subst (λ (v : List Step). Before v a.path) e (earlier one))
    under (inr k) = not_before-apart a.path q (Apart-under a q ahead t.apart k) (earlier one)
not_seen m seen ahead q t u one = search rules

-- what paths reach under the first is under the second
abbrev Covers : List (List ℕ) → List Ahead → List Ahead → Type 0
Covers m xs ys = (q : List Step) (level s w : ℕ) → Reaches m q level s w → IsUnder q xs → IsUnder q ys

trail_covers : (m : List (List ℕ)) (seen : List (List Step)) (xs ys : List Ahead) → IsTrail m seen xs → IsTrail m seen ys
    → Covers m xs ys
trail_covers m seen xs ys t k = λ q level s w r u. elim (k.complete q level s w r) [
  | inl one ↦ absurd (not_seen m seen xs q t u one)
  | inr h ↦ h
]

self_under : (a : Ahead) (xs : List Ahead) → IsUnder a.path (a ∷ xs)
self_under a xs = inl ([], sym (append-nil a.path))

-- Two heads that are under each other have one path.
one_path : (a b : Ahead) (xs ys : List Ahead) → EachApart (a ∷ xs) → EachApart (b ∷ ys) → IsUnder a.path (b ∷ ys)
    → IsUnder b.path (a ∷ xs) → a.path ≡ b.path
one_path a b xs ys p q (inl (r, e)) (inl ([], f)) = sym (f ∙ append-nil a.path)
one_path a b xs ys p q (inl (r, e)) (inl (x ∷ v, f)) = search (rules, append_assoc, longer-differs)
one_path a b xs ys p q (inl (r, e)) (inr k) =
    let first : Apart (b.path ++ r) b.path = rw (← e) (Apart-under a b.path xs p k) in
    absurd (not_before-self b.path r (apart-before (b.path ++ r) b.path first))
one_path a b xs ys p q (inr k) (inl (r, f)) =
    let first : Apart (a.path ++ r) a.path = rw (← f) (Apart-under b a.path ys q k) in
    absurd (not_before-self a.path r (apart-before (a.path ++ r) a.path first))
one_path a b xs ys p q (inr k) (inr l) =
    absurd (not_before-apart a.path b.path (Apart-under a b.path xs p l) (search (rules, apart-before, Apart-under)))

same_ahead : (m : List (List ℕ)) (a b : Ahead) → a.path ≡ b.path → Reaches m a.path a.level a.segment a.word
    → Reaches m b.path b.level b.segment b.word → a ≡ b
same_ahead m a b e r k =
    let o = one_reached m a.path a.level b.level a.segment a.word b.segment b.word r (rw e k) in
    λ i. record { path = e i; segment = o.1 i; word = o.2 i; level = o.0 i }

-- and what is under the others of the first is under the others of the second
rest_covers : (m : List (List ℕ)) (a b : Ahead) (xs ys : List Ahead) → a.path ≡ b.path → EachApart (a ∷ xs)
    → Covers m (a ∷ xs) (b ∷ ys) → Covers m xs ys
rest_covers m a b xs ys e p f = λ q level s w r u. elim (f q level s w r (inr u)) [
  | inl (rest, g) ↦ absurd (not_apart-longer b.path rest (search (rules, Apart-under)))
  | inr h ↦ h
]

one_list : (m : List (List ℕ)) (xs ys : List Ahead) → EachApart xs → EachApart ys → AreReached m xs → AreReached m ys
    → Covers m xs ys → Covers m ys xs → xs ≡ ys
one_list m [] [] p q r k f g = refl
one_list m (a ∷ xs) (b ∷ ys) p q r k f g =
    let e : a.path ≡ b.path = one_path a b xs ys p q (f a.path a.level a.segment a.word r.0 (self_under a xs))
    (g b.path b.level b.segment b.word k.0 (self_under b ys)) in
    ap₂ (λ (x : Ahead) (zs : List Ahead). x ∷ zs) (same_ahead m a b e r.0 k.0)
    (one_list m xs ys (rest_apart a xs p) (rest_apart b ys q) r.1 k.1 (rest_covers m a b xs ys e p f)
    (rest_covers m b a ys xs (sym e) q g))
one_list m xs ys p q r k f g = search (rules, self_under)

-- So after the same paths the same words are ahead.
pub one_trail : (m : List (List ℕ)) (seen : List (List Step)) (xs ys : List Ahead) → IsTrail m seen xs → IsTrail m seen ys
    → xs ≡ ys
one_trail m seen xs ys t k = search (rules, one_list, trail_covers)

-- At first the root word is ahead.
pub root_trail : (m : List (List ℕ)) → 0 < length (segment_of m 0)
    → IsTrail m [] (record { path = []; segment = 0; word = 0; level = 1 } ∷ [])
root_trail m some =
    let x = HasWord-at m 0 0 some in
    search rules

-- After a word that finds an object its pointer words are.
pub object_trail : (m : List (List ℕ)) (seen : List (List Step)) (a : Ahead) (ahead : List Ahead) (k t b q tag : ℕ)
    → IsTrail m seen (a ∷ ahead) → Finds m a.segment a.word k t b q → (IsComposite q → HasWord m t b tag)
    → IsTrail m (a.path ∷ seen) (object_children a.path q tag t b a.level ++ ahead)
object_trail m seen a ahead k t b q tag trail f tagged =
    trail-step trail (object-brings m a k t b q tag 0 trail.ahead_reached.0 f tagged).children

-- the first of two paths is apart from the second, which it comes before and which doesn't go on from it
before_apart : (p q : List Step) → Before p q → ((x : Step) (v : List Step) → q ≡ p ++ x ∷ v → ⊥) → Apart p q
before_apart p [] h none = absurd h
before_apart [] (y ∷ ys) h none = absurd (none y ys refl)
before_apart (x ∷ xs) (y ∷ ys) (inl h) none = inl h
before_apart (x ∷ xs) (y ∷ ys) (inr h) none =
    inr (h.0, before_apart xs ys h.1 (λ z v e. none z v (ap₂ (λ (u : Step) (us : List Step). u ∷ us) (sym h.0) e)))

-- the order of the paths without the last one
first_falls : (p : List Step) (seen : List (List Step)) (a : Ahead) (ahead : List Ahead) → a.path ≡ p → Falls (p ∷ seen)
    → Falls seen × Precedes seen (a ∷ ahead)
first_falls p seen a ahead e h = search rules

-- Before a null word that word was ahead too.
pub null_trail : (m : List (List ℕ)) (seen : List (List Step)) (p : List Step) (level s w : ℕ) (ahead : List Ahead)
    → IsTrail m (p ∷ seen) ahead → Reaches m p level s w → HasWord m s w 0
    → IsTrail m seen (record { path = p; segment = s; word = w; level = level } ∷ ahead)
null_trail m seen p level s w ahead t r null =
    let order = first_falls p seen (record { path = p; segment = s; word = w; level = level }) ahead refl t.falls in record {
      falls = order.0;
      precedes = order.1;
      apart = apart ahead t.apart t.precedes t.ahead_reached;
      seen_reached = λ q h. t.seen_reached q (inr h);
      ahead_reached = (r, t.ahead_reached);
      complete = λ q l s' w' k. elim (t.complete q l s' w' k) [
        | inl (inl e) ↦ inr (inl ([], e ∙ sym (append-nil p)))
        | inl (inr h) ↦ inl h
        | inr h ↦ inr (inr h)
      ];
    }
  where
    ends : (x : Step) (v : List Step) (l s' w' : ℕ) → Reaches m (p ++ x ∷ v) l s' w' → ⊥
    ends x v l s' w' k =
        let (mid, n, goes, walks) = beyond m p x v s w s' w' r k in
        null_ends m s w 0 (near 0 null (omega arith) refl refl) x v mid n s' w' goes walks

    apart : (ahead : List Ahead) → EachApart ahead → Precedes (p ∷ seen) ahead → AreReached m ahead
        → EachApart (record { path = p; segment = s; word = w; level = level } ∷ ahead)
    apart [] h before k = tt
    apart (b ∷ ahead) h before k = (
      before_apart p b.path before (λ x v e. ends x v b.level b.segment b.word (search rules)),
      h,
    )
