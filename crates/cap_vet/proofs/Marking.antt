-- How the marks of a walk go on, and what they show at its end.
use Rattle.cap_spec.proofs.Lemmas.{disjoint_of_none, one_used, Before-irreflexive, one_reached}
use Rattle.cap_spec.proofs.ProofNames.{List, [], arith, inl, inr, length, refl, subst, ℕ, ◌+◌, ◌∷◌, ◌≡◌, ◌⊎◌, rules}
use Rattle.cap_spec.proofs.ProofNames.{IsOneOf, IsDisjoint, IsFirstOverlap, Occupies, Overlaps, Uses, on_earlier}
use Rattle.cap_spec.proofs.ProofNames.{on_root, twice, Before, Reaches}
use Rattle.cap_vet.specs.VetNames.{Step, Conflicts, IsMarked, MarksAll, Ahead, IsTrail}
use Rattle.cap_walk.proofs.Tours.{Falls-before, in_order, length-in_order, tour_of, up_to_head}
use Rattle.cap_walk.proofs.Trails.{falls-step}

-- a path that overlaps is reached
reached_overlap : (m : List (List ℕ)) (p : List Step) → Overlaps m p → (level s w : ℕ) × Reaches m p level s w
reached_overlap m p (twice level s w used r o n) = (level, s, w, r)
reached_overlap m p (on_root u) = (u.0, u.1, u.2, u.4)
reached_overlap m p (on_earlier other x b u v) = (v.0, v.1, v.2, v.4)

-- what comes before the next path was looked at
seen_before : (m : List (List ℕ)) (seen : List (List Step)) (a : Ahead) (ahead : List Ahead) (q : List Step)
    (level s w : ℕ) → IsTrail m seen (a ∷ ahead) → Reaches m q level s w → Before q a.path → IsOneOf q seen
seen_before m seen a ahead q level s w t r b = elim (up_to_head a seen ahead q t.apart (t.complete q level s w r) (inr b)) [
  | inl e ↦ absurd (Before-irreflexive a.path (subst (λ (u : List Step). Before u a.path) e b))
  | inr h ↦ h
]

-- what the path uses is what is used at its word
uses_of : (m : List (List ℕ)) (p : List Step) (level s w : ℕ) (used : List (ℕ × ℕ)) (x : ℕ × ℕ) → Reaches m p level s w
    → Occupies m s w used → Uses m p x → IsOneOf x used
uses_of m p level s w used x r o (level', s', w', used', r', o', i) =
    search (rules, one_reached m p level level' s w s' w' r r', one_used)

-- The next pointer's places were free: it doesn't overlap, and its places are marked.
pub marks_on : (m : List (List ℕ)) (seen : List (List Step)) (a : Ahead) (ahead : List Ahead) (T T' : ℕ → ℕ → Type 0) (used : List (ℕ × ℕ))
    → IsTrail m seen (a ∷ ahead) → IsMarked m seen T → Occupies m a.segment a.word used → MarksAll T T' used → IsMarked m (a.path ∷ seen) T'
marks_on m seen a ahead T T' used t k o h = record {
  root = h.kept 0 0 k.root;
  used = λ p s w one u. elim one [
    | inl e ↦ h.set s w (uses_of m a.path a.level a.segment a.word used (s, w) r o (subst (λ (v : List Step). Uses m v (s, w)) e u))
    | inr i ↦ h.kept s w (k.used p s w i u)
  ];
  only = λ s w taken. elim (h.only s w taken) [
    | inl before ↦ elim (k.only s w before) [ inl e ↦ inl e | inr (p, i, u) ↦ inr (p, inr i, u) ]
    | inr i ↦ inr (a.path, inl refl, (a.level, a.segment, a.word, used, r, o, i))
  ];
  clear = λ p one. elim one [
    | inl e ↦ (λ over. never (subst (λ (v : List Step). Overlaps m v) e over))
    | inr i ↦ k.clear p i
  ];
}
  where
    r : Reaches m a.path a.level a.segment a.word
    r = t.ahead_reached.0

    never : Overlaps m a.path → ⊥
    never (twice level s w used' r' o' n) =
        search (rules, one_reached m a.path a.level level a.segment a.word s w r r', one_used)
    never (on_root u) = h.free 0 0 (uses_of m a.path a.level a.segment a.word used (0, 0) r o u) k.root
    never (on_earlier other (s, w) b u v) =
        h.free s w (search (rules, uses_of)) (k.used other s w (seen_before m seen a ahead other u.0 u.1 u.2 t u.4 b) u)

-- The next pointer's places weren't all free: it is the first that overlaps.
pub first_overlap : (m : List (List ℕ)) (seen : List (List Step)) (a : Ahead) (ahead : List Ahead) (T : ℕ → ℕ → Type 0) (used : List (ℕ × ℕ)) (n : ℕ)
    → IsTrail m seen (a ∷ ahead) → IsMarked m seen T → Occupies m a.segment a.word used → Conflicts T used
    → n ≡ length seen + 1 → IsFirstOverlap m a.segment a.word n
first_overlap m seen a ahead T used n t k o c e = record {
  path = a.path;
  numbered = record {
    level = a.level;
    tour = in_order (a.path ∷ seen);
    reached = r;
    is_tour = tour_of m seen a ahead t;
    count = omega (arith, e, length-in_order (a.path ∷ seen));
  };
  first = record {
    holds = over c;
    first = λ other b h. let g = reached_overlap m other h in k.clear other (search (rules, seen_before)) h;
  };
}
  where
    r : Reaches m a.path a.level a.segment a.word
    r = t.ahead_reached.0

    over : Conflicts T used → Overlaps m a.path
    over (inl n') = twice a.level a.segment a.word used r o n'
    over (inr (s, w, i, taken)) = by_mark s w i (k.only s w taken)
      where
        by_mark : (s w : ℕ) → IsOneOf (s, w) used → ((s ≡ 0) × (w ≡ 0)) ⊎ ((p : List Step) × IsOneOf p seen × Uses m p (s, w)) → Overlaps m a.path
        by_mark s w i (inl z) = on_root (
          a.level,
          a.segment,
          a.word,
          used,
          r,
          o,
          subst
              (λ (u : ℕ). IsOneOf (0, u) used) z.1 (subst (λ (u : ℕ). IsOneOf (u, w) used) z.0 i),
        )
        by_mark s w i (inr (p, one, u)) = on_earlier p (s, w)
            (Falls-before a.path p seen (falls-step a seen ahead t.falls t.precedes) one) u
            (a.level, a.segment, a.word, used, r, o, i)

-- Where all was looked at and nothing overlaps, the tree is disjoint.
pub all_disjoint : (m : List (List ℕ)) (seen : List (List Step)) → IsTrail m seen [] → ((p : List Step) → IsOneOf p seen → ¬ Overlaps m p) → IsDisjoint m
all_disjoint m seen t none = disjoint_of_none m
    (λ p over. let g = reached_overlap m p over in elim (t.complete p g.0 g.1 g.2 g.3)
    [ inl one ↦ none p one over | inr nothing ↦ absurd nothing ])
