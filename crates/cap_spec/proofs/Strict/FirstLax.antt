-- Of the pointers of a tree one is the first that common readers reject, or none is such a pointer.
use Rattle.cap_spec.proofs.Paths.Arrivals.{coming_to_node, lead_word}
use Rattle.cap_spec.proofs.Paths.PathCounts.{pointer_path_reached, pointer_paths}
use Rattle.cap_spec.proofs.Paths.PathLists.{is_pointer, listed_rise}
use Rattle.cap_spec.proofs.Paths.Preorder.{cut_tour, Before-irreflexive, one_first, one_number}
use Rattle.cap_spec.proofs.Paths.Walks.{one_reached}
use Rattle.cap_spec.proofs.ProofNames.{List, [], ap, false, inl, inr, length, refl, subst, sym, ℕ, ◌++◌, ◌∷◌, ◌≡◌, ◌⊎◌}
use Rattle.cap_spec.proofs.ProofNames.{Denotes, IsOneOf, Before, IsTour, Reaches, Rises, word, IsFirstLax, IsLax}
use Rattle.cap_spec.proofs.ProofNames.{IsLaxAt, Tree, Lax, Step}
use Rattle.cap_spec.proofs.Strict.LaxForms.{lax_decided, one_lax}
use Rattle.cap_spec.proofs.Trees.OneTree.{Formed, formed}
use Rattle.cap_spec.proofs.Verdicts.OneFault.{one_of_last}

-- the first path of a list at which something is so
record FirstOf (P : List Step → Type 0) (ps : List (List Step)) : Type 0 where
  before : List (List Step)
  path : List Step
  after : List (List Step)
  whole : ps ≡ before ++ path ∷ after
  holds : P path
  none : (q : List Step) → IsOneOf q before → ¬ P q

-- where it is decided at each path, there is a first one, or it is so at none
first_of_list : (P : List Step → Type 0) (ps : List (List Step)) → ((q : List Step) → IsOneOf q ps → P q ⊎ ¬ P q)
    → FirstOf P ps ⊎ ((q : List Step) → IsOneOf q ps → ¬ P q)
first_of_list P [] decided = inr (λ q i. absurd i)
first_of_list P (p ∷ ps) decided = elim (decided p (inl refl)) [
  | inl h ↦ inl record { before = []; path = p; after = ps; whole = refl; holds = h; none = λ q i. absurd i }
  | inr n ↦ elim (first_of_list P ps (λ q i. decided q (inr i))) [
    | inl f ↦ inl record {
      before = p ∷ f.before;
      path = f.path;
      after = f.after;
      whole = ap (λ u. p ∷ u) f.whole;
      holds = f.holds;
      none = none_of n f.before f.none;
    }
    | inr k ↦ inr (none_of n ps k)
  ]
]
  where
    none_of : ¬ P p → (qs : List (List Step)) → ((q : List Step) → IsOneOf q qs → ¬ P q) → (q : List Step)
        → IsOneOf q (p ∷ qs) → ¬ P q
    none_of n qs k q (inl e) h = n (subst P e h)
    none_of n qs k q (inr i) h = k q i h

-- A pointer of one of these forms is the first where the tour up to it has none before it.
pub first_by_tour : (m : List (List ℕ)) (path : List Step) (level s w : ℕ) (what : Lax) (tour : List (List Step))
    → Reaches m path level s w → IsTour m path tour
    → IsLaxAt m s w what → ((q : List Step) → IsOneOf q tour → Before q path → ¬ IsLax m q)
    → IsFirstLax m s w what (length tour)
first_by_tour m path level s w what tour reached is_tour lax none = record {
  path = path;
  numbered = record { level = level; tour = tour; reached = reached; is_tour = is_tour; count = refl };
  lax = lax;
  first = record {
    holds = (level, s, w, what, reached, lax);
    first = λ other b x. none other (is_tour.all other x.0 x.1 x.2 x.4 (inr b)) b x;
  };
}

-- The root denotes a tree.
module _ (m : List (List ℕ)) (t : Tree) (c d : ℕ) (denotes : Denotes m 0 0 t c d) where
  -- whether a path reaches such a pointer is decided
  path_decided : (q : List Step) → IsOneOf q (pointer_paths t) → IsLax m q ⊎ ¬ IsLax m q
  path_decided q i =
      let r = (pointer_path_reached m t c d denotes q).0 i in
      let n = coming_to_node m t c d denotes q r.0 (word r.1 r.2) r.3 in
      let f : Formed m r.1 r.2 n.0 = formed m r.1 r.2 n.0 n.2.0 n.2.1 n.2.2 in
      let p = lead_word m r.1 r.2 f.k f.r f.leads in
      elim (lax_decided m r.1 r.2 p.0 p.1) [
        | inl (what, x) ↦ inl (r.0, r.1, r.2, what, r.3, x)
        | inr none ↦ inr (λ (level, s, w, what, reached, x).
            let o = one_reached m q level r.0 s w r.1 r.2 reached r.3 in
            none what (subst (λ u. IsLaxAt m r.1 u what) o.2 (subst (λ u. IsLaxAt m u w what) o.1 x)))
      ]

  -- the first of its paths that reaches one is the first in preorder
  first_of_tree : FirstOf (IsLax m) (pointer_paths t)
      → (s w : ℕ) × (what : Lax) × (pointers : ℕ) × IsFirstLax m s w what pointers
  first_of_tree f =
      let (level, s, w, what, reached, lax) = f.holds in (
        s,
        w,
        what,
        length (f.before ++ f.path ∷ []),
        first_by_tour m f.path level s w what (f.before ++ f.path ∷ []) reached is_tour lax none_before,
      )
    where
      rises : Rises (f.before ++ f.path ∷ f.after)
      rises = subst Rises f.whole (listed_rise is_pointer false t)

      none_before : (q : List Step) → IsOneOf q (f.before ++ f.path ∷ []) → Before q f.path → ¬ IsLax m q
      none_before q i b x = elim (one_of_last q f.path f.before i) [
        | inl e ↦ Before-irreflexive f.path (subst (λ (u : List Step). Before u f.path) e b)
        | inr j ↦ f.none q j x
      ]

      is_tour : IsTour m f.path (f.before ++ f.path ∷ [])
      is_tour = cut_tour m f.before f.path f.after rises
          (λ q i. (pointer_path_reached m t c d denotes q).0 (subst (IsOneOf q) (sym f.whole) i))
          (λ q level s w r b. subst (IsOneOf q) f.whole ((pointer_path_reached m t c d denotes q).1 (level, s, w, r)))

  -- There is a first pointer in preorder that common readers reject, or no path reaches one.
  pub first_lax_or_none : ((s w : ℕ) × (what : Lax) × (pointers : ℕ) × IsFirstLax m s w what pointers)
      ⊎ ((path : List Step) → ¬ IsLax m path)
  first_lax_or_none = elim (first_of_list (IsLax m) (pointer_paths t) path_decided) [
    | inl f ↦ inl (first_of_tree f)
    | inr none ↦ inr (λ path x. none path ((pointer_path_reached m t c d denotes path).1 (x.0, x.1, x.2, x.4)) x)
  ]

-- It is one pointer, of one form, and the count up to it is one number.
pub one_first_lax : (m : List (List ℕ)) (s w : ℕ) (u : Lax) (n s' w' : ℕ) (v : Lax) (n' : ℕ) → IsFirstLax m s w u n
    → IsFirstLax m s' w' v n'
    → (s ≡ s') × (w ≡ w') × (u ≡ v) × (n ≡ n')
one_first_lax m s w u n s' w' v n' f g =
    let e = one_first m (IsLax m) f.path g.path f.numbered.level g.numbered.level s w s' w' f.numbered.reached
    g.numbered.reached f.first g.first in
    let (x, y, z) = one_number m f.path g.path s w n s' w' n' f.numbered g.numbered e in
    let lax : IsLaxAt m s w v = subst (λ i. IsLaxAt m s i v) (sym y) (subst (λ i. IsLaxAt m i w' v) (sym x) g.lax) in
    (x, y, one_lax m s w u v f.lax lax, z)
