-- Which tree a pointer word denotes, at what charge and depth (standard: Objects, Structs, Lists; charge and depth
-- are the profile's reading of Security Considerations).
use Rattle.std.specs.List.{range_with_len}
use Rattle.std.specs.Prelude.{List, [], if◌then◌else◌, map, max, pos, slice_index, slice_range, suc, zero, ℕ, ◌%◌, ◌*◌, ◌+◌, ◌/◌}
use Rattle.std.specs.Prelude.{◌==◌, ◌∷◌, ◌≡◌}
use Rattle.cap_spec.specs.Following.{HasTag, IsInside, Leads, extra, to_cap, to_null, to_object}
use Rattle.cap_spec.specs.Messages.{segment_of}
use Rattle.cap_spec.specs.ObjectShapes.{HasKind}
use Rattle.cap_spec.specs.Pointers.{code, element_bits, extent, kind, middle}
use Rattle.cap_spec.specs.Tree.{Tree, Trees, cap, more, none, null, pointers, scalars, struct, structs}
use Rattle.cap_spec.specs.Words.{field}
use Rattle.cap_spec.specs.declared.Kind.{Kind}
use Rattle.cap_spec.specs.declared.Kind.TheVariants.{Pointers, Scalars, Struct, Structs}

-- the places t:b, t:b+1 and so on, n of them
abbrev pub places : ℕ → ℕ → ℕ → List (ℕ × ℕ)
places t b n = map (λ w. (t, w)) (range_with_len b n)

-- The pointer word at s:w leads with k pads to the object of shape q at t:b, which is inside its segment.
pub record Finds (m : List (List ℕ)) (s w k t b q : ℕ) : Type 0 where
  pub leads : Leads m s w k (to_object t (pos b) q)
  pub inside : IsInside m t b q

-- n words from b on
abbrev pub words_from : List (List ℕ) → ℕ → ℕ → ℕ → List ℕ
words_from m t b n = slice_range (segment_of m t) b (b + n)

-- element i of a list of this many bits an element, which begins at b
abbrev pub value_at : List ℕ → ℕ → ℕ → ℕ → ℕ
value_at words b bits i = field (slice_index words (b + (i * bits) / 64)) ((i * bits) % 64) bits

abbrev pub values_of : List (List ℕ) → ℕ → ℕ → ℕ → ℕ → List ℕ
values_of m t b c n = map (value_at (segment_of m t) b (element_bits c)) (range_with_len 0 n)

-- how many levels the n elements of a struct list take below their list: one, if there are any.
-- Only this definition has the number.
abbrev pub element_levels : ℕ → ℕ
element_levels zero = 0
element_levels (suc n) = 1

-- how many levels an object takes below it, before its pointers: those of the elements of a struct
-- list
abbrev pub levels_below : ℕ → ℕ → ℕ
levels_below q tag = if kind q == 0 then 0 else (if code q == 7 then element_levels (middle tag) else 0)

-- The object that is found is of this kind, by its word q and the tag word of a list of structs.
pub record FindsKind (m : List (List ℕ)) (s w : ℕ) (what : Kind) (k t b q tag : ℕ) : Type 0 where
  pub finds : Finds m s w k t b q
  pub tagged : HasTag m t b q tag
  pub shape : HasKind q tag what

-- Its charge is cost and its depth levels, where its children's charges and greatest depth are inner and deep.
pub record FindsCharged (m : List (List ℕ)) (s w : ℕ) (what : Kind) (k t b q tag inner deep cost levels : ℕ) : Type 0 where
  pub object : FindsKind m s w what k t b q tag
  pub charge : cost ≡ k + extent q + extra q tag + inner
  pub depth : levels ≡ 1 + levels_below q tag + deep

abbrev mutual
  -- The pointer word at s:w denotes the tree t, at this charge and depth. Since t is finite, this is the least such relation.
  pub Denotes : List (List ℕ) → ℕ → ℕ → Tree → ℕ → ℕ → Type 0
  Denotes m s w null charge depth = Leads m s w charge to_null × (depth ≡ 0)
  Denotes m s w (cap i) charge depth = Leads m s w charge (to_cap i) × (depth ≡ 0)
  Denotes m s w (struct words ts) charge depth =
      (k t b q tag ds ps inner deep : ℕ) × FindsCharged m s w (Struct ds ps) k t b q tag inner deep charge depth
      × (words ≡ words_from m t b ds) × DenoteEach m (places t (b + ds) ps) ts inner deep
  Denotes m s w (scalars e values) charge depth =
      (k t b q tag n : ℕ) × FindsCharged m s w (Scalars e n) k t b q tag 0 0 charge depth × (values ≡ values_of m t b e n)
  Denotes m s w (pointers ts) charge depth =
      (k t b q tag n inner deep : ℕ) × FindsCharged m s w (Pointers n) k t b q tag inner deep charge depth
      × DenoteEach m (places t b n) ts inner deep
  Denotes m s w (structs ds ps es) charge depth =
      (k t b q tag n inner deep : ℕ) × FindsCharged m s w (Structs n ds ps) k t b q tag inner deep charge depth
      × AreElements m t (b + 1) ds ps n es inner deep

  -- pointer words at these places denote these trees, in order
  pub DenoteEach : List (List ℕ) → List (ℕ × ℕ) → Trees → ℕ → ℕ → Type 0
  DenoteEach m ps none charge depth = (ps ≡ []) × (charge ≡ 0) × (depth ≡ 0)
  DenoteEach m ps (more t ts) charge depth =
      (s w : ℕ) × (rest : List (ℕ × ℕ)) × (c1 d1 c2 d2 : ℕ) × (ps ≡ (s, w) ∷ rest)
      × Denotes m s w t c1 d1 × DenoteEach m rest ts c2 d2 × (charge ≡ c1 + c2) × (depth ≡ max d1 d2)

  -- n elements of ds data words and ps pointers, from t:b on, are these structs
  pub AreElements : List (List ℕ) → ℕ → ℕ → ℕ → ℕ → ℕ → Trees → ℕ → ℕ → Type 0
  AreElements m t b ds ps n none charge depth = (n ≡ 0) × (charge ≡ 0) × (depth ≡ 0)
  AreElements m t b ds ps n (more (struct words ts) es) charge depth =
      (n' c1 d1 c2 d2 : ℕ) × (n ≡ suc n') × (words ≡ words_from m t b ds)
      × DenoteEach m (places t (b + ds) ps) ts c1 d1
      × AreElements m t (b + ds + ps) ds ps n' es c2 d2 × (charge ≡ c1 + c2) × (depth ≡ max d1 d2)
  AreElements m t b ds ps n (more _ es) charge depth = ⊥
