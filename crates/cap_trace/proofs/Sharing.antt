-- The first pointer that uses a word which a later one uses too.
use Rattle.cap_spec.proofs.Lemmas.{Before-trans, one_of_last, one_reached, one_used}
use Rattle.cap_spec.proofs.Paths.Preorder.{Before-total_coming, one_first, one_number}
use Rattle.cap_spec.proofs.ProofNames.{List, None, Option, Some, [], arith, inl, inr, length, length-append, refl, subst, sym, ℕ}
use Rattle.cap_spec.proofs.ProofNames.{◌++◌, ◌+◌, ◌<◌, ◌∷◌, ◌≡◌, ◌⊎◌, IsOneOf, Occupies, Uses, Before, IsNumbered}
use Rattle.cap_spec.proofs.ProofNames.{Reaches, word, ap}
use Rattle.cap_trace.specs.EarlierPointers.{IsEarlier, IsEarlierOf, IsFirstUsing, NoneUses, SharesBefore, ReportsEarlier}
use Rattle.cap_trace.specs.EarlierPointers.{UsesOneAt}
use Rattle.cap_trace.specs.NamedPaths.{IsTraced}
use Rattle.cap_trace.specs.TraceNames.{Step, IsTraceable, HasCome, Branch, WordPlace, path_of}
use Rattle.cap_trace.specs.declared.earlier.EarlierPointer.{EarlierPointer}
use Rattle.cap_trace.proofs.Coming.{numbered_here, traceable_here}
use Rattle.cap_trace.proofs.Numbering.{Rises-last, number_order, one_numbered, rises_fewer}

-- A path reaches one place, so what it uses is used there.
used_there : (m : List (List ℕ)) (p : List Step) (level s w : ℕ) (x : ℕ × ℕ) → Reaches m p level s w → Uses m p x
    → (used : List (ℕ × ℕ)) × Occupies m s w used × IsOneOf x used
used_there m p level s w x r (level', s', w', used, r', o, i) =
    let e = one_reached m p level level' s w s' w' r r' in (
      used,
      subst (λ (u : ℕ). Occupies m u w used) (sym e.1) (subst (λ (u : ℕ). Occupies m s' u used) (sym e.2) o),
      i,
    )

one_of_used : (m : List (List ℕ)) (s w : ℕ) (places : List (ℕ × ℕ)) (x : ℕ × ℕ) → Occupies m s w places
    → (used : List (ℕ × ℕ)) × Occupies m s w used × IsOneOf x used → IsOneOf x places
one_of_used m s w places x o (used, o', i) = subst (λ (v : List (ℕ × ℕ)). IsOneOf x v) (one_used m s w used places o' o) i

-- No path that reaches a word is between the words of two numbers that follow one another.
none_between : (m : List (List ℕ)) (n : ℕ) (p q x : List Step) (s w s' w' level t b : ℕ) → IsNumbered m p s w n
    → IsNumbered m q s' w' (n + 1) → Reaches m x level t b → Before x q → (x ≡ p) ⊎ Before x p
none_between m n p q x s w s' w' level t b a c r before =
    go (Before-total_coming m x p level a.level (word t b) (word s w) r a.reached)
  where
    go : (x ≡ p) ⊎ Before x p ⊎ Before p x → (x ≡ p) ⊎ Before x p
    go (inl e) = inl e
    go (inr (inl k)) = inr k
    go (inr (inr after)) =
        let first : (y : List Step) → IsOneOf y a.tour → Before y x = λ y i. elim (a.is_tour.none_after y i) [
          | inl e ↦ subst (λ (u : List Step). Before u x) (sym e) after
          | inr k ↦ Before-trans y p x k after
        ] in
        let then : (y : List Step) → IsOneOf y (a.tour ++ x ∷ []) → Before y q = λ y i. elim (one_of_last y x a.tour i) [
          | inl e ↦ subst (λ (u : List Step). Before u q) (sym e) before
          | inr k ↦ Before-trans y x q (first y k) before
        ] in
        let rising = Rises-last (a.tour ++ x ∷ []) q (Rises-last a.tour x a.is_tour.rising first) then in
        let few = rises_fewer ((a.tour ++ x ∷ []) ++ q ∷ []) c.tour rising c.is_tour.rising
        (λ y i. among y (one_of_last y q (a.tour ++ x ∷ []) i)) in
        absurd (omega (arith, few, length-append (a.tour ++ x ∷ []) (q ∷ []), length-append a.tour (x ∷ []), a.count, c.count))
      where
        among : (y : List Step) → (y ≡ q) ⊎ IsOneOf y (a.tour ++ x ∷ []) → IsOneOf y c.tour
        among y (inl e) = c.is_tour.all y c.level s' w' (subst (λ (u : List Step). Reaches m u c.level s' w') (sym e) c.reached) (inl e)
        among y (inr i) = elim (one_of_last y x a.tour i) [
          | inl e ↦ c.is_tour.all y level t b (subst (λ (u : List Step). Reaches m u level t b) (sym e) r)
              (inr (subst (λ (u : List Step). Before u q) (sym e) before))
          | inr k ↦ let g = a.is_tour.reached y k in c.is_tour.all y g.0 g.1 g.2 g.3 (inr (later y (a.is_tour.none_after y k)))
        ]
          where
            later : (y : List Step) → (y ≡ p) ⊎ Before y p → Before y q
            later y (inl e) = subst (λ (u : List Step). Before u q) (sym e) (Before-trans p x q after before)
            later y (inr k) = Before-trans y p q k (Before-trans p x q after before)

-- Where the word that the search is at uses none of the places, none before the next word does.
pub still_none : (m : List (List ℕ)) (depth n : ℕ) (fs gs : List Branch) (f g : WordPlace) (places : List (ℕ × ℕ))
    → HasCome m depth n fs f → HasCome m depth (n + 1) gs g → NoneUses m places (path_of fs)
    → (UsesOneAt m f.segment f.at places → ⊥) → NoneUses m places (path_of gs)
still_none m depth n fs gs f g places h k none here = λ x before (y, u, i).
    let p = path_of fs in
    let q = path_of gs in
    elim (none_between m n p q x f.segment f.at g.segment g.at u.0 u.1 u.2 (numbered_here m depth n fs f h)
    (numbered_here m depth (n + 1) gs g k) u.4 before) [
      | inl e ↦ (
          let there = used_there m p (length fs + 1) f.segment f.at y h.trail.ahead_reached.0 (subst (λ (v : List Step). Uses m v y) e u) in
          here (there.0, there.1, (y, there.2, i)))
      | inr b ↦ none x b (y, u, i)
    ]

-- Before the root word is none.
pub none_first : (m : List (List ℕ)) (places : List (ℕ × ℕ)) → NoneUses m places []
none_first m places = λ x before u. absurd before

-- The search has come to the word of the number: none before it uses one of the places.
pub none_using : (m : List (List ℕ)) (depth n : ℕ) (fs : List Branch) (f : WordPlace) (places : List (ℕ × ℕ)) (path : List Step)
    → HasCome m depth n fs f → NoneUses m places (path_of fs) → IsTraceable m depth n path → NoneUses m places path
none_using m depth n fs f places path h none a =
    subst (λ (u : List Step). NoneUses m places u)
    (one_numbered m n (path_of fs) path (numbered_here m depth n fs f h) a.numbered) none

-- The word that the search is at is the first that uses one of them.
pub first_using_here : (m : List (List ℕ)) (depth n more : ℕ) (fs : List Branch) (f : WordPlace) (places : List (ℕ × ℕ))
    (path : List Step) → HasCome m depth n fs f → NoneUses m places (path_of fs)
    → UsesOneAt m f.segment f.at places → n < more → IsTraceable m depth more path
    → IsFirstUsing m places path (Some (record { segment = f.segment; word = f.at; pointers = n }))
first_using_here m depth n more fs f places path h none (used, o, (x, i, j)) less a =
    let p = path_of fs in
    let here = numbered_here m depth n fs f h in (
      p,
      here,
      number_order m n more p path f.segment f.at a.segment a.at here a.numbered less,
      (x, ((length fs + 1), f.segment, f.at, used, h.trail.ahead_reached.0, o, i), j),
      none,
    )

-- The named path reaches the word that the search has come to.
named_here : (m : List (List ℕ)) (depth n : ℕ) (fs : List Branch) (f : WordPlace) (path : List Step) → HasCome m depth n fs f
    → IsTraceable m depth n path → Reaches m path (length fs + 1) f.segment f.at
named_here m depth n fs f path h a =
    subst (λ (u : List Step). Reaches m u (length fs + 1) f.segment f.at)
    (one_numbered m n (path_of fs) path (numbered_here m depth n fs f h) a.numbered) h.trail.ahead_reached.0

-- Where the named pointer can't be followed, no other uses a word of it.
pub none_unused : (m : List (List ℕ)) (depth n : ℕ) (fs : List Branch) (f : WordPlace) (path : List Step) → HasCome m depth n fs f
    → IsTraceable m depth n path → ((used : List (ℕ × ℕ)) → Occupies m f.segment f.at used → ⊥) → (other : List Step)
    → SharesBefore m path other → ⊥
none_unused m depth n fs f path h a none other k =
    let there = used_there m path (length fs + 1) f.segment f.at k.place (named_here m depth n fs f path h a) k.later in
    none there.0 there.1

-- Where the places are those that the named pointer uses, it is the earlier pointer.
pub earlier_of_using : (m : List (List ℕ)) (depth n : ℕ) (fs : List Branch) (f : WordPlace) (path : List Step) (places : List (ℕ × ℕ))
    (result : Option EarlierPointer) → HasCome m depth n fs f → IsTraceable m depth n path → Occupies m f.segment f.at places
    → IsFirstUsing m places path result → IsEarlierOf m path result
earlier_of_using m depth n fs f path places None h a o none = λ other k.
    let there = used_there m path (length fs + 1) f.segment f.at k.place (named_here m depth n fs f path h a) k.later in
    none other k.before (k.place, k.earlier, one_of_used m f.segment f.at places k.place o there)
earlier_of_using m depth n fs f path places (Some e) h a o (other, numbered, before, (x, u, i), none) =
    let r = named_here m depth n fs f path h a in record {
      other = other;
      numbered = numbered;
      first = record {
        holds = record { before = before; place = x; earlier = u; later = ((length fs + 1), f.segment, f.at, places, r, o, i) };
        first = λ q b k. none q b (
          k.place,
          k.earlier,
          one_of_used m f.segment f.at places k.place o (used_there m path (length fs + 1) f.segment f.at k.place r k.later),
        );
      };
    }

-- So it is of the word that the search has come to.
pub earlier_reported : (m : List (List ℕ)) (depth n : ℕ) (fs : List Branch) (f : WordPlace) (places : List (ℕ × ℕ))
    (result : Option EarlierPointer) → HasCome m depth n fs f → Occupies m f.segment f.at places
    → ((path : List Step) → IsTraceable m depth n path → IsFirstUsing m places path result) → ReportsEarlier m depth n result
earlier_reported m depth n fs f places None h o first = λ path a. earlier_of_using m depth n fs f path places None h a o (first path a)
earlier_reported m depth n fs f places (Some e) h o first =
    let path = path_of fs in
    let a = traceable_here m depth n fs f h in
    (path, a, earlier_of_using m depth n fs f path places (Some e) h a o (first path a))

-- A number has one path, so what is reported of it is so of each of its paths.
pub reported_earlier : (m : List (List ℕ)) (depth n : ℕ) (path : List Step) (result : Option EarlierPointer)
    → IsTraceable m depth n path → ReportsEarlier m depth n result → IsEarlierOf m path result
reported_earlier m depth n path None a none = none path a
reported_earlier m depth n path (Some e) a (other, b, h) =
    subst (λ (u : List Step). IsEarlierOf m u (Some e)) (one_numbered m n other path b.numbered a.numbered) h

-- one earlier pointer comes first
pub same_earlier : (m : List (List ℕ)) (path : List Step) (s w n s' w' n' : ℕ) → IsEarlier m path s w n
    → IsEarlier m path s' w' n' → (s ≡ s') × (w ≡ w') × (n ≡ n')
same_earlier m path s w n s' w' n' g h =
    let same = one_first m (SharesBefore m path) g.other h.other g.numbered.level h.numbered.level s w s' w'
    g.numbered.reached h.numbered.reached g.first h.first in
    one_number m g.other h.other s w n s' w' n' g.numbered h.numbered same

pub one_earlier : (m : List (List ℕ)) (path : List Step) (s w n : ℕ) (result : Option EarlierPointer) → IsEarlierOf m path result
    → IsEarlier m path s w n → result ≡ Some (record { segment = s; word = w; pointers = n })
one_earlier m path s w n None none h = absurd (none h.other h.first.holds)
one_earlier m path s w n (Some e) g h =
    let r = same_earlier m path e.segment e.word e.pointers s w n g h in rw (r.0, r.1, r.2) refl

-- It can be traced where the named pointer can.
pub earlier_traceable : (m : List (List ℕ)) (depth n : ℕ) (path : List Step) (s w number : ℕ) → IsTraceable m depth n path
    → (h : IsEarlier m path s w number) → IsTraceable m depth number h.other
earlier_traceable m depth n path s w number a h = record {
  segment = s;
  at = w;
  numbered = h.numbered;
  passable = λ q b. a.passable q (Before-trans q h.other path b h.first.holds.before);
}

-- What is found by a number is the one traceable path of this number.
pub traced_is : (m : List (List ℕ)) (depth n : ℕ) (path : List Step) (found : Option (List Step)) → IsTraced m depth n found
    → IsTraceable m depth n path → found ≡ Some path
traced_is m depth n path None t a = absurd (t path a)
traced_is m depth n path (Some other) t a = ap Some (one_numbered m n other path t.numbered a.numbered)
