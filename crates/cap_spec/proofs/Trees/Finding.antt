-- A pointer word finds one object, of one kind, at one charge.
use Rattle.cap_spec.specs.ObjectShapes.{is_pointers, is_scalars, is_struct, is_structs}
use Rattle.cap_spec.specs.declared.Kind.{Kind}
use Rattle.cap_spec.proofs.Frames.Messages.{one_word}
use Rattle.cap_spec.proofs.Pointers.Following.{one_lead}
use Rattle.cap_spec.proofs.Pointers.Shapes.{beside_same, one_kind}
use Rattle.cap_spec.proofs.ProofNames.{List, ap, arith, inr, pos, refl, subst, sym, ℕ, ◌+◌, ◌<◌, ◌∙◌, ◌≡◌, ◌≤◌, Finds}
use Rattle.cap_spec.proofs.ProofNames.{FindsCharged, FindsKind, HasKind, IsComposite, extra, to_object, HasWord, Costs}
use Rattle.cap_spec.proofs.ProofNames.{code, data_size, extent, kind, list_size, middle, pointer_size, levels_below}
use Rattle.cap_spec.proofs.ProofNames.{Pointers, Scalars, Struct, Structs, rules}

-- one object: its pads, segment, start and shape
pub record SameObject (k t b q k' t' b' q' : ℕ) : Type 0 where
  pub pads : k ≡ k'
  pub segment : t ≡ t'
  pub start : b ≡ b'
  pub shape : q ≡ q'

-- a lead to an object gives its parts
pub object_parts : (t b q t' b' q' : ℕ) → to_object t (pos b) q ≡ to_object t' (pos b') q'
    → (t ≡ t') × (b ≡ b') × (q ≡ q')
object_parts t b q t' b' q' e = (cc, cc, cc)

-- a pointer word finds one object
pub one_object : (m : List (List ℕ)) (s w k t b q k' t' b' q' : ℕ) → Finds m s w k t b q → Finds m s w k' t' b' q'
    → SameObject k t b q k' t' b' q'
one_object m s w k t b q k' t' b' q' f f' = search (rules, one_lead, object_parts)

-- one object of one kind: its pads, segment, start, shape and kind, and its tag if it is a list of structs
pub record SameFound (k t b q tag k' t' b' q' tag' : ℕ) (x y : Kind) : Type 0 where
  pub pads : k ≡ k'
  pub segment : t ≡ t'
  pub start : b ≡ b'
  pub shape : q ≡ q'
  pub tags : IsComposite q → tag ≡ tag'
  pub kind : x ≡ y

-- a pointer word finds one object of one kind
pub one_found : {m : List (List ℕ)} {s w k t b q tag k' t' b' q' tag' : ℕ} {x y : Kind} → FindsKind m s w x k t b q tag
    → FindsKind m s w y k' t' b' q' tag' → SameFound k t b q tag k' t' b' q' tag' x y
one_found {m} {s} {w} {k} {t} {b} {q} {tag} {k'} {t'} {b'} {q'} {tag'} {x} {y} f g =
    let o : SameObject k t b q k' t' b' q' = one_object m s w k t b q k' t' b' q' f.finds g.finds in
    let same : IsComposite q → tag ≡ tag' =
    (λ z. one_word m t b tag tag' (f.tagged z) (rw (o.segment, o.start) (g.tagged (subst IsComposite o.shape z)))) in
    record {
      pads = o.pads;
      segment = o.segment;
      start = o.start;
      shape = o.shape;
      tags = same;
      kind = one_kind q tag tag' x y same f.shape (subst (λ u. HasKind u tag' y) (sym o.shape) g.shape);
    }

-- and at one charge and one depth, where its children have one
pub charged_same : {m : List (List ℕ)} {s w k t b q tag inner deep c d k' t' b' q' tag' inner' deep' c' d' : ℕ} {x y : Kind}
    → FindsCharged m s w x k t b q tag inner deep c d → FindsCharged m s w y k' t' b' q' tag' inner' deep' c' d'
    → inner ≡ inner' → deep ≡ deep' → (c ≡ c') × (d ≡ d')
charged_same {m} {s} {w} {k} {t} {b} {q} {tag} {inner} {deep} {c} {d} {k'} {t'} {b'} {q'} {tag'} {inner'} {deep'} {c'} {d'}
    {x} {y} f g e i =
    let o = one_found f.object g.object in
    let beside = beside_same q tag tag' x o.tags f.object.shape in
    let a : extra q tag ≡ extra q' tag' = beside.0 ∙ ap (λ u. extra u tag') o.shape in
    let l : levels_below q tag ≡ levels_below q' tag' = beside.1 ∙ ap (λ u. levels_below u tag') o.shape in
    let n : extent q ≡ extent q' = ap extent o.shape in
    (omega (arith, f.charge, g.charge, o.pads, a, n, e), omega (arith, f.depth, g.depth, l, i))

-- the cost of following it
pub found_cost : {m : List (List ℕ)} {s w k t b q tag : ℕ} {x : Kind} → FindsKind m s w x k t b q tag
    → Costs m s w (k + extent q + extra q tag)
found_cost {m} {s} {w} {k} {t} {b} {q} {tag} {x} f = inr (inr (k, t, b, q, tag, f.finds, f.tagged, refl))

-- the levels that another look at the object finds
pub found_depth : {m : List (List ℕ)} {s w k t b q tag inner deep c d k' t' b' q' tag' : ℕ} {x : Kind}
    → FindsCharged m s w x k t b q tag inner deep c d → Finds m s w k' t' b' q' → (IsComposite q' → HasWord m t' b' tag')
    → 1 + levels_below q' tag' ≤ d
found_depth {m} {s} {w} {k} {t} {b} {q} {tag} {inner} {deep} {c} {d} {k'} {t'} {b'} {q'} {tag'} {x} f g has =
    search (rules, one_object, one_word, beside_same)

-- An object that is found, by the parts of its word.
module _ (m : List (List ℕ)) (s w k t b q : ℕ) (f : Finds m s w k t b q) where
  pub struct_found : kind q ≡ 0 → FindsKind m s w (Struct (data_size q) (pointer_size q)) k t b q 0
  struct_found e = record { finds = f; tagged = λ z. absurd (omega (arith, e, z.0)); shape = is_struct e refl }

  pub scalars_found : kind q ≡ 1 → code q < 6 → FindsKind m s w (Scalars (code q) (list_size q)) k t b q 0
  scalars_found e lt = record { finds = f; tagged = λ z. absurd (omega (arith, lt, z.1)); shape = is_scalars e lt refl }

  pub pointers_found : kind q ≡ 1 → code q ≡ 6 → FindsKind m s w (Pointers (list_size q)) k t b q 0
  pointers_found e c = record { finds = f; tagged = λ z. absurd (omega (arith, c, z.1)); shape = is_pointers e c refl }

  pub structs_found : (tag : ℕ) → kind q ≡ 1 → code q ≡ 7 → HasWord m t b tag
      → FindsKind m s w (Structs (middle tag) (data_size tag) (pointer_size tag)) k t b q tag
  structs_found tag e c has = record { finds = f; tagged = λ z. has; shape = is_structs e c refl }
