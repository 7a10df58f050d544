-- The layout of a tree denotes that tree.
use Rattle.cap_spec.proofs.ProofNames.{rules, List, [], ap, ap₂, arith, if◌then◌else◌, length, refl, sym, ℕ, ◌*◌, ◌+◌}
use Rattle.cap_spec.proofs.ProofNames.{◌-◌, ◌<◌, ◌==◌, ◌^◌, ◌∙◌, ◌∷◌, ◌≡◌, ◌≢◌, ◌≤◌, slice_get_within, AllByRecursion}
use Rattle.cap_spec.proofs.ProofNames.{pointer_to, struct_word, AreElements, DenoteEach, Denotes, Finds, FindsKind}
use Rattle.cap_spec.proofs.ProofNames.{element_levels, values_of, IsComposite, TagFits, extra, near, HasWord, HasKind}
use Rattle.cap_spec.proofs.ProofNames.{HasWordsAt, data_size, element_bits, extent, kind, list_size, list_words, middle}
use Rattle.cap_spec.proofs.ProofNames.{pointer_size, scalar_words, Trees, more, pointers, scalars, struct, structs}
use Rattle.cap_spec.proofs.ProofNames.{tree_count, Pointers, Scalars, Struct, Structs}
use Rattle.cap_spec.specs.Denoting.{places}
use Rattle.cap_spec.specs.ObjectShapes.{is_pointers, is_scalars, is_struct, is_structs}
use Rattle.cap_spec.specs.Tree.{none}
use Rattle.cap_spec.proofs.Canonical.Placing.{lie_inside, lie_read, lie_word}
use Rattle.cap_spec.proofs.Canonical.PointerFields.{ListFields, StructFields, start_after, start_before, struct_fields}
use Rattle.cap_spec.proofs.Canonical.TreeMeasures.{idle, scalars_extra, structs_extra}
use Rattle.cap_spec.proofs.Pointers.Shapes.{pointers_extra, pointers_levels, pointers_words, scalars_levels}
use Rattle.cap_spec.proofs.Pointers.Shapes.{scalars_words, struct_extra, struct_levels, struct_words, structs_levels}
use Rattle.cap_spec.proofs.Pointers.Shapes.{structs_words}
use Rattle.cap_spec.proofs.Trees.Charges.{extent_struct}
use Rattle.cap_spec.proofs.Trees.ReadingBack.{length-scalar_words, scalars_read}

-- three and two
pub not_far : (x : ℕ) → x ≡ 3 → x ≢ 2
not_far x e f = absurd (omega arith)

-- a place inside, of equal extents
within : (b x y l : ℕ) → x ≡ y → b + y ≤ l → b + x ≤ l
within b x y l e h = omega arith

-- a struct's pointer that isn't zero leads to its object
struct_finds : (seg : List ℕ) (a b offset q d p : ℕ) → HasWord (seg ∷ []) 0 a q → StructFields q offset d p → q ≢ 0
    → b ≡ a + 1 + offset → offset < 2 ^ 29
    → b + d + p ≤ length seg → Finds (seg ∷ []) 0 a 0 0 b q
struct_finds seg a b offset q d p h f some e lt le =
    let x : extent q ≡ d + p = extent_struct q f.kind ∙ ap₂ (λ i j. i + j) f.data_words f.pointers in
    record {
      leads = near q h (λ z. absurd (omega (arith, z, f.kind)))
          (omega (arith, f.kind), some, refl, start_after q a b offset f.middle lt e, refl) refl;
      inside = record {
        exists = omega arith;
        inside = omega (arith, x, le);
        composite = λ z. absurd (omega (arith, z.0, f.kind));
      };
    }

-- a list's pointer leads to its object
list_finds : (seg : List ℕ) (a b offset q c n : ℕ) → HasWord (seg ∷ []) 0 a q → ListFields q offset c n
    → b ≡ a + 1 + offset → offset < 2 ^ 29
    → b + extent q ≤ length seg → (IsComposite q → (tag : ℕ) × HasWord (seg ∷ []) 0 b tag × TagFits tag (list_size q))
    → Finds (seg ∷ []) 0 a 0 0 b q
list_finds seg a b offset q c n h f e lt le tagged = record {
  leads = near q h (λ z. absurd (omega (arith, z, f.kind))) (search (rules, zero_kind)) refl;
  inside = record { exists = omega arith; inside = le; composite = tagged };
}
  where
    zero_kind : (q : ℕ) → q ≡ 0 → kind q ≡ 1 → ⊥
    zero_kind q e k = omega arith

-- a struct with words
struct_laid : (seg ws : List ℕ) (ts : Trees) (a b offset q inner deep : ℕ) → HasWord (seg ∷ []) 0 a q
    → StructFields q offset (length ws) (tree_count ts)
    → 0 < length ws + tree_count ts → b ≡ a + 1 + offset → offset < 2 ^ 29
    → b + length ws + tree_count ts ≤ length seg → HasWordsAt seg b ws
    → DenoteEach (seg ∷ []) (places 0 (b + length ws) (tree_count ts)) ts inner deep
    → Denotes (seg ∷ []) 0 a (struct ws ts) (length ws + tree_count ts + inner) (1 + deep)
struct_laid seg ws ts a b offset q inner deep h f some e lt le st each =
    let object : FindsKind (seg ∷ []) 0 a (Struct (length ws) (tree_count ts)) 0 0 b q 0 =
    record {
      finds = search (rules, struct_finds, has_words);
      tagged = λ z. absurd (omega (arith, z.0, f.kind));
      shape = is_struct f.kind (ap₂ Struct (sym f.data_words) (sym f.pointers));
    } in search (rules, struct_words, struct_extra, struct_levels, lie_read)
  where
    has_words : (q d p : ℕ) → data_size q ≡ d → pointer_size q ≡ p → q ≡ 0 → 0 < d + p → ⊥
    has_words q d p e g z some = omega arith

-- a struct without words
empty_laid : (seg : List ℕ) (a : ℕ) → HasWord (seg ∷ []) 0 a (2 ^ 32 - 4) → Denotes (seg ∷ []) 0 a (struct [] none) 0 1
empty_laid seg a h =
    let l : a < length seg = slice_get_within seg a (2 ^ 32 - 4) h in (
      0,
      0,
      a,
      2 ^ 32 - 4,
      0,
      0,
      0,
      0,
      0,
      record {
        object = record {
          finds = record {
            leads = near (2 ^ 32 - 4) h (λ z. absurd (omega (arith, z)))
                (omega arith, (λ z. absurd (omega (arith, z))), refl, start_before a, refl) refl;
            inside = search rules;
          };
          tagged = λ z. absurd (omega (arith, z.0));
          shape = is_struct refl refl;
        };
        charge = refl;
        depth = refl;
      },
      sym (lie_read seg a 0 [] refl (omega (arith, l))),
      (refl, refl, refl),
    )

-- the pointer of a struct with words
some_words : (seg : List ℕ) (a offset d p : ℕ) → 0 < d + p
    → HasWord (seg ∷ []) 0 a (if (d + p) == 0 then 2 ^ 32 - 4 else struct_word offset d p)
    → HasWord (seg ∷ []) 0 a (struct_word offset d p)
some_words seg a offset d p some h = search rules

-- each struct
pub any_struct_laid : (seg ws : List ℕ) (ts : Trees) (a b offset inner deep : ℕ)
    → HasWord (seg ∷ []) 0 a (pointer_to offset (struct ws ts))
    → length ws < 2 ^ 16 → tree_count ts < 2 ^ 16 → b ≡ a + 1 + offset → offset < 2 ^ 29
    → b + length ws + tree_count ts ≤ length seg → HasWordsAt seg b ws
    → DenoteEach (seg ∷ []) (places 0 (b + length ws) (tree_count ts)) ts inner deep
    → Denotes (seg ∷ []) 0 a (struct ws ts) (length ws + tree_count ts + inner) (1 + deep)
any_struct_laid seg [] none a b offset inner deep h hd hp e lt le st each = search (rules, empty_laid)
any_struct_laid seg (x ∷ xs) ts a b offset inner deep h hd hp e lt le st each =
    let s : 0 < length (x ∷ xs) + tree_count ts = omega arith in
    struct_laid seg (x ∷ xs) ts a b offset (struct_word offset (length (x ∷ xs)) (tree_count ts)) inner deep
    (some_words seg a offset (length (x ∷ xs)) (tree_count ts) s h)
    (struct_fields offset (length (x ∷ xs)) (tree_count ts) (omega (arith, lt)) hd hp) s e lt le st each
any_struct_laid seg [] (more t ts) a b offset inner deep h hd hp e lt le st each =
    let s : 0 < 0 + tree_count (more t ts) = omega arith in
    struct_laid seg [] (more t ts) a b offset (struct_word offset 0 (tree_count (more t ts))) inner deep
    (some_words seg a offset 0 (tree_count (more t ts)) s h)
    (struct_fields offset 0 (tree_count (more t ts)) (omega (arith, lt)) hd hp) s e lt le st each

-- a list of values
pub scalars_laid : (seg : List ℕ) (e : ℕ) (vs : List ℕ) (a b offset q : ℕ) → HasWord (seg ∷ []) 0 a q
    → ListFields q offset e (length vs) → e < 6
    → AllByRecursion (λ v. v < 2 ^ element_bits e) vs → b ≡ a + 1 + offset → offset < 2 ^ 29
    → HasWordsAt seg b (scalar_words e vs)
    → Denotes (seg ∷ []) 0 a (scalars e vs) (list_words e (length vs) + idle e (length vs)) 1
scalars_laid seg e vs a b offset q h f lt fit i lo st =
    let x : HasKind q 0 (Scalars e (length vs)) =
    is_scalars f.kind (omega (arith, f.code, lt)) (ap₂ Scalars (sym f.code) (sym f.size)) in
    let y : extent q ≡ list_words e (length vs) = scalars_words x in
    let l : b + list_words e (length vs) ≤ length seg =
    (let r = lie_inside seg b (scalar_words e vs) st in omega (arith, r, length-scalar_words e vs)) in
    let v : vs ≡ values_of (seg ∷ []) 0 b e (length vs) =
    sym (scalars_read seg b e vs lt fit (lie_word seg b (scalar_words e vs) st)) in (
      0,
      0,
      b,
      q,
      0,
      length vs,
      record {
        object = record {
          finds = list_finds seg a b offset q e (length vs) h f i lo
              (within b (extent q) (list_words e (length vs)) (length seg) y l)
              (λ z. absurd (omega (arith, z.1, f.code, lt)));
          tagged = λ z. absurd (omega (arith, z.1, f.code, lt));
          shape = x;
        };
        charge = sums (extent q) (extra q 0) (list_words e (length vs)) (idle e (length vs)) y (scalars_extra x);
        depth = omega (arith, scalars_levels x);
      },
      v,
    )
  where
    sums : (a b a' b' : ℕ) → a ≡ a' → b ≡ b' → a' + b' ≡ 0 + a + b + 0
    sums a b a' b' e g = omega arith

-- a list of pointers
pub pointers_laid : (seg : List ℕ) (ts : Trees) (a b offset q inner deep : ℕ) → HasWord (seg ∷ []) 0 a q
    → ListFields q offset 6 (tree_count ts)
    → b ≡ a + 1 + offset → offset < 2 ^ 29 → b + tree_count ts ≤ length seg
    → DenoteEach (seg ∷ []) (places 0 b (tree_count ts)) ts inner deep
    → Denotes (seg ∷ []) 0 a (pointers ts) (tree_count ts + inner) (1 + deep)
pointers_laid seg ts a b offset q inner deep h f i lo le each =
    let x : HasKind q 0 (Pointers (tree_count ts)) = is_pointers f.kind f.code (ap Pointers (sym f.size)) in (
      0,
      0,
      b,
      q,
      0,
      tree_count ts,
      inner,
      deep,
      record {
        object = record {
          finds = list_finds seg a b offset q 6 (tree_count ts) h f i lo
              (within b (extent q) (tree_count ts) (length seg) (pointers_words x) le)
              (λ z. absurd (omega (arith, z.1, f.code)));
          tagged = λ z. absurd (omega (arith, z.1, f.code));
          shape = x;
        };
        charge = omega (arith, pointers_words x, pointers_extra x);
        depth = omega (arith, pointers_levels x);
      },
      each,
    )

-- a list of structs
pub structs_laid : (seg : List ℕ) (d p n : ℕ) (es : Trees) (a b offset q tag inner deep : ℕ) → HasWord (seg ∷ []) 0 a q
    → ListFields q offset 7 (n * (d + p))
    → HasWord (seg ∷ []) 0 b tag → StructFields tag n d p → b ≡ a + 1 + offset → offset < 2 ^ 29
    → b + 1 + n * (d + p) ≤ length seg
    → AreElements (seg ∷ []) 0 (b + 1) d p n es inner deep
    → Denotes (seg ∷ []) 0 a (structs d p es) (1 + n * (d + p) + idle (d + p) n + inner) (1 + element_levels n + deep)
structs_laid seg d p n es a b offset q tag inner deep h f ht g i lo le each =
    let k : HasKind q tag (Structs n d p) =
    is_structs f.kind f.code (rw (g.middle, g.data_words, g.pointers) refl) in
    let x : extent q ≡ 1 + n * (d + p) = structs_words k ∙ ap (λ z. 1 + z) f.size in
    let fit : middle tag * (data_size tag + pointer_size tag) ≡ list_size q =
    ap₂ (λ i j. i * j) g.middle (ap₂ (λ i j. i + j) g.data_words g.pointers) ∙ sym f.size in (
      0,
      0,
      b,
      q,
      tag,
      n,
      inner,
      deep,
      search (rules, list_finds, within, idle, structs_extra, structs_levels, inside, at_most, sums),
      each,
    )
  where
    inside : (b n l : ℕ) → b + 1 + n ≤ l → b + (1 + n) ≤ l
    inside b n l h = omega arith

    at_most : (a b : ℕ) → a ≡ b → a ≤ b
    at_most a b e = omega arith

    sums : (x y a b i : ℕ) → x ≡ 1 + a → y ≡ b → 1 + a + b + i ≡ 0 + x + y + i
    sums x y a b i e g = omega arith
