-- Small messages, one for each reason: their first differences.
use Rattle.cap_spec.specs.Following.{IsComposite, TagFits, near, to_null}
use Rattle.cap_spec.specs.ObjectShapes.{is_scalars, is_struct, is_structs}
use Rattle.cap_spec.specs.Tree.{null}
use Rattle.cap_spec.specs.declared.Kind.{Kind}
use Rattle.cap_spec.specs.declared.Kind.TheVariants.{Scalars, Struct, Structs}
use Rattle.cap_spec.specs.declared.Step.{Step}
use Rattle.cap_spec.specs.declared.Step.TheVariants.{Item, Ptr}
use Rattle.cap_spec.proofs.Lemmas.{one_lead}
use Rattle.cap_spec.proofs.ProofNames.{List, [], ap, arith, inl, inr, length, lit<, lit≤, pos, refl, subst, suc, sym, zero, ℕ, ◌*◌}
use Rattle.cap_spec.proofs.ProofNames.{◌+ℤ◌, ◌+◌, ◌<◌, ◌∷◌, ◌≡◌, ◌≢◌, ◌≤◌, ◌⊎◌, FindsKind, HasKind, HasWord, IsOneOf, IsTour, Leads}
use Rattle.cap_spec.proofs.ProofNames.{Reaches, Spot, StepsTo, extent, kind, list_size, segment_of, signed_offset_of, word}
use Rattle.cap_difference.specs.Differences.{DiffersAt, EndsBefore, FirstDifference}
use Rattle.cap_difference.specs.Reasons.{IsFirstSuchReason, ObjectDiffers, PointerDiffers, ScalarsDiffers, StructDiffers, StructsDiffers}
use Rattle.cap_difference.specs.Reasons.{bits_after, empty_list, empty_struct, difference_rank, struct_null, struct_place, struct_zero}
use Rattle.cap_difference.specs.Reasons.{structs_null, structs_place, structs_zero, surplus, values_place}
use Rattle.cap_difference.specs.Searching.{null_is_same, path_same}
use Rattle.cap_difference.specs.declared.reason.DifferenceReason.{DifferenceReason}
use Rattle.cap_difference.specs.declared.reason.DifferenceReason.TheVariants.{Bits, Capability, DataZero, EmptyList}
use Rattle.cap_difference.specs.declared.reason.DifferenceReason.TheVariants.{EmptyStruct, Far, Place, PointerNull}
use Rattle.cap_difference.specs.declared.reason.DifferenceReason.TheVariants.{Segments, Surplus, Trailing}
use Rattle.cap_difference.proofs.PointerReasons.{capability_first, far_first, object_first}

-- The root word is p, in a message of one segment.
module _ (m : List (List ℕ)) (one : length m ≡ 1) (p : ℕ) (has : HasWord m 0 0 p) where
  root_reached : Reaches m [] 1 0 0
  root_reached = (p, 0, has, (refl, refl), refl)

  root_tour : IsTour m [] ([] ∷ [])
  root_tour = record {
    rising = tt;
    reached = λ q i. (1, 0, 0, subst (λ (u : List Step). Reaches m u 1 0 0) (sym (empty q i)) root_reached);
    all = λ q level s w r h. inl (elim h [ inl e ↦ e | inr b ↦ absurd b ]);
    none_after = λ q i. inl (empty q i);
  }
    where
      empty : (q : List Step) → IsOneOf q ([] ∷ []) → q ≡ []
      empty q (inl e) = e
      empty q (inr i) = absurd i

  root_ends : EndsBefore m [] 1
  root_ends = record { before = []; is_tour = root_tour; words = 0; have = refl; ends = refl }

  -- a reason at the root is the first difference
  at_root : (v : DifferenceReason) → IsFirstSuchReason (PointerDiffers m 0 0 1) v
      → FirstDifference m record { segment = 0; word = 0; pointers = 1; reason = v; end = 1 }
  at_root v x = inr (inl record {
    one = one;
    first = record {
      path = [];
      numbered = record { level = 1; tour = [] ∷ []; reached = root_reached; is_tour = root_tour; count = refl };
      end = 1;
      ends = root_ends;
      differs = x;
      first = record {
        holds = record {
          level = 1;
          segment = 0;
          word = 0;
          end = 1;
          reason = v;
          reached = root_reached;
          ends = root_ends;
          differs = x.holds;
        };
        first = λ other b d. absurd b;
      };
    };
    end = refl;
  })

  -- and so is one of its object, at word b
  at_object : (b tag : ℕ) (what : Kind) (v : DifferenceReason) → kind p < 2 → p ≢ 0 → pos b ≡ pos 1 +ℤ signed_offset_of p
      → b + extent p ≤ length (segment_of m 0) → (IsComposite p → HasWord m 0 b tag × TagFits tag (list_size p)) → HasKind p tag what
      → IsFirstSuchReason (ObjectDiffers m 1 p 0 b p what) v → FirstDifference m record { segment = 0; word = 0; pointers = 1; reason = v; end = 1 }
  at_object b tag what v k n e inside list shape x =
      let near_word : kind p ≢ 2 = λ z. omega (arith, k, z) in
      let found : FindsKind m 0 0 what 0 0 b p tag = record {
        finds = record {
          leads = near p has near_word (k, n, refl, e, refl) refl;
          inside = record { exists = omega (arith, one); inside = inside; composite = λ z. (tag, (list z).0, (list z).1) };
        };
        tagged = λ z. (list z).0;
        shape = shape;
      } in
      at_root v (object_first m 0 0 1 p has near_word 0 0 b p tag what found v x)

-- two segments
segments : FirstDifference ((0 ∷ []) ∷ (0 ∷ []) ∷ []) record { segment = 0; word = 0; pointers = 0; reason = Segments; end = 1 }
segments = inl record { reason = refl; many = λ e. absurd (omega (arith, e)); segment = refl; word = refl; pointers = refl; end = refl }

-- a far pointer in the segment of its landing pad, which is before the struct
far : FirstDifference ((0xa ∷ 0x0000000100000000 ∷ 7 ∷ []) ∷ []) record { segment = 0; word = 0; pointers = 1; reason = Far; end = 1 }
far =
    let m : List (List ℕ) = (0xa ∷ 0x0000000100000000 ∷ 7 ∷ []) ∷ [] in
    at_root m refl 0xa refl Far (far_first m 0 0 1 0xa refl refl)

-- a capability
capability : FirstDifference ((3 ∷ []) ∷ []) record { segment = 0; word = 0; pointers = 1; reason = Capability; end = 1 }
capability =
    let m : List (List ℕ) = (3 ∷ []) ∷ [] in
    let isnt_far : kind 3 ≢ 2 = λ e. absurd (omega (arith, e)) in
    at_root m refl 3 refl Capability (capability_first m 0 0 1 3 refl isnt_far 0 0 (near 3 refl isnt_far ((refl, refl), refl) refl))

-- a struct without words, by the offset 1
empty_struct_ahead : FirstDifference ((4 ∷ 0 ∷ []) ∷ []) record { segment = 0; word = 0; pointers = 1; reason = EmptyStruct; end = 1 }
empty_struct_ahead =
    at_object ((4 ∷ 0 ∷ []) ∷ []) refl 4 refl 2 0 (Struct 0 0) EmptyStruct (lit< tt) (λ e. absurd (omega (arith, e))) refl (lit≤ tt)
    (λ (a, b). absurd (omega (arith, a))) (is_struct refl refl)
    record { holds = empty_struct refl refl (λ e. absurd (omega (arith, e))); first = λ u lt d. none u lt d }
  where
    none : (u : DifferenceReason) → difference_rank u < 3 → StructDiffers ((4 ∷ 0 ∷ []) ∷ []) 1 4 0 2 0 0 u → ⊥
    none u lt (empty_struct e h k) = let r = ap difference_rank e in omega (arith, lt, r)
    none u lt (struct_place e h k) = let r = ap difference_rank e in omega (arith, lt, r)
    none u lt (struct_zero e h) = let r = ap difference_rank e in omega (arith, lt, r)
    none u lt (struct_null e h) = let r = ap difference_rank e in omega (arith, lt, r)

-- a struct of one word after a gap of one word
after_gap : FirstDifference ((0x0000000100000004 ∷ 0 ∷ 7 ∷ []) ∷ []) record { segment = 0; word = 0; pointers = 1; reason = Place; end = 1 }
after_gap =
    at_object ((0x0000000100000004 ∷ 0 ∷ 7 ∷ []) ∷ []) refl 0x0000000100000004 refl 2 0 (Struct 1 0) Place (lit< tt)
    (λ e. absurd (omega (arith, e))) refl (lit≤ tt) (λ (a, b). absurd (omega (arith, a))) (is_struct refl refl)
    record { holds = struct_place refl (λ e. absurd (omega (arith, e))) (λ e. absurd (omega (arith, e))); first = λ u lt d. none u lt d }
  where
    none : (u : DifferenceReason) → difference_rank u < 4 → StructDiffers ((0x0000000100000004 ∷ 0 ∷ 7 ∷ []) ∷ []) 1 0x0000000100000004 0 2 1 0 u → ⊥
    none u lt (empty_struct e h k) = omega (arith, h)
    none u lt (struct_place e h k) = let r = ap difference_rank e in omega (arith, lt, r)
    none u lt (struct_zero e h) = let r = ap difference_rank e in omega (arith, lt, r)
    none u lt (struct_null e h) = let r = ap difference_rank e in omega (arith, lt, r)

-- a struct of two data words, the last of which is zero
last_zero : FirstDifference ((0x0000000200000000 ∷ 7 ∷ 0 ∷ []) ∷ []) record { segment = 0; word = 0; pointers = 1; reason = DataZero; end = 1 }
last_zero =
    at_object ((0x0000000200000000 ∷ 7 ∷ 0 ∷ []) ∷ []) refl 0x0000000200000000 refl 1 0 (Struct 2 0) DataZero (lit< tt)
    (λ e. absurd (omega (arith, e))) refl (lit≤ tt) (λ (a, b). absurd (omega (arith, a))) (is_struct refl refl)
    record { holds = struct_zero refl record { some = lit< tt; zeros = λ k lt. zeros k lt }; first = λ u lt d. none u lt d }
  where
    zeros : (k : ℕ) → k < 1 → HasWord ((0x0000000200000000 ∷ 7 ∷ 0 ∷ []) ∷ []) 0 (1 + k * 2 + 1) 0
    zeros zero lt = refl
    zeros (suc k) lt = absurd (omega (arith, lt))

    none : (u : DifferenceReason) → difference_rank u < 8 → StructDiffers ((0x0000000200000000 ∷ 7 ∷ 0 ∷ []) ∷ []) 1 0x0000000200000000 0 1 2 0 u → ⊥
    none u lt (empty_struct e h k) = omega (arith, h)
    none u lt (struct_place e h k) = k refl
    none u lt (struct_zero e h) = let r = ap difference_rank e in omega (arith, lt, r)
    none u lt (struct_null e h) = let r = ap difference_rank e in omega (arith, lt, r)

-- a struct of one data word and one pointer, which is null
last_null : FirstDifference ((0x0001000100000000 ∷ 7 ∷ 0 ∷ []) ∷ []) record { segment = 0; word = 0; pointers = 1; reason = PointerNull; end = 1 }
last_null =
    at_object ((0x0001000100000000 ∷ 7 ∷ 0 ∷ []) ∷ []) refl 0x0001000100000000 refl 1 0 (Struct 1 1) PointerNull (lit< tt)
    (λ e. absurd (omega (arith, e))) refl (lit≤ tt) (λ (a, b). absurd (omega (arith, a))) (is_struct refl refl)
    record { holds = struct_null refl record { some = lit< tt; nulls = λ k lt. nulls k lt }; first = λ u lt d. none u lt d }
  where
    nulls : (k : ℕ) → k < 1 → (n : ℕ) × Leads ((0x0001000100000000 ∷ 7 ∷ 0 ∷ []) ∷ []) 0 (1 + k * 2 + 1) n to_null
    nulls zero lt = (0, near 0 refl (λ e. absurd (omega (arith, e))) refl refl)
    nulls (suc k) lt = absurd (omega (arith, lt))

    none : (u : DifferenceReason) → difference_rank u < 9 → StructDiffers ((0x0001000100000000 ∷ 7 ∷ 0 ∷ []) ∷ []) 1 0x0001000100000000 0 1 1 1 u → ⊥
    none u lt (empty_struct e h k) = omega (arith, h)
    none u lt (struct_place e h k) = k refl
    none u lt (struct_zero e h) = let z = h.zeros 0 (lit< tt) in cc
    none u lt (struct_null e h) = let r = ap difference_rank e in omega (arith, lt, r)

-- a list of one bit, with a second bit set after it
bit_after : FirstDifference ((0x0000000900000001 ∷ 3 ∷ []) ∷ []) record { segment = 0; word = 0; pointers = 1; reason = Bits; end = 1 }
bit_after =
    at_object ((0x0000000900000001 ∷ 3 ∷ []) ∷ []) refl 0x0000000900000001 refl 1 0 (Scalars 1 1) Bits (lit< tt)
    (λ e. absurd (omega (arith, e))) refl (lit≤ tt) (λ (a, b). absurd (omega (arith, b))) (is_scalars refl (lit< tt) refl)
    record {
      holds = bits_after refl record { last = 3; some = λ e. absurd (omega (arith, e)); has = refl; set = λ e. absurd (omega (arith, e)) };
      first = λ u lt d. none u lt d;
    }
  where
    none : (u : DifferenceReason) → difference_rank u < 5 → ScalarsDiffers ((0x0000000900000001 ∷ 3 ∷ []) ∷ []) 1 0 1 1 1 u → ⊥
    none u lt (values_place e h) = h refl
    none u lt (bits_after e h) = let r = ap difference_rank e in omega (arith, lt, r)

-- a list of no structs, with one data word in its tag
empty_with_sizes : FirstDifference ((0x0000000700000001 ∷ 0x0000000100000000 ∷ []) ∷ []) record { segment = 0; word = 0; pointers = 1; reason = EmptyList; end = 1 }
empty_with_sizes =
    at_object ((0x0000000700000001 ∷ 0x0000000100000000 ∷ []) ∷ []) refl 0x0000000700000001 refl 1 0x0000000100000000 (Structs 0 1 0) EmptyList
    (lit< tt) (λ e. absurd (omega (arith, e))) refl (lit≤ tt) (λ _. (refl, (refl, lit≤ tt))) (is_structs refl refl refl)
    record { holds = empty_list refl refl (λ e. absurd (omega (arith, e))); first = λ u lt d. none u lt d }
  where
    none : (u : DifferenceReason) → difference_rank u < 6 → StructsDiffers ((0x0000000700000001 ∷ 0x0000000100000000 ∷ []) ∷ []) 1 0 1 0 1 0 0 u → ⊥
    none u lt (structs_place e h) = h refl
    none u lt (empty_list e h k) = let r = ap difference_rank e in omega (arith, lt, r)
    none u lt (surplus e h) = let r = ap difference_rank e in omega (arith, lt, r)
    none u lt (structs_zero e h k) = let r = ap difference_rank e in omega (arith, lt, r)
    none u lt (structs_null e h k) = let r = ap difference_rank e in omega (arith, lt, r)

-- a list of one struct of one word, in two words
word_left : FirstDifference ((0x0000001700000001 ∷ 0x0000000100000004 ∷ 5 ∷ 0 ∷ []) ∷ []) record { segment = 0; word = 0; pointers = 1; reason = Surplus; end = 1 }
word_left =
    at_object ((0x0000001700000001 ∷ 0x0000000100000004 ∷ 5 ∷ 0 ∷ []) ∷ []) refl 0x0000001700000001 refl 1 0x0000000100000004 (Structs 1 1 0) Surplus
    (lit< tt) (λ e. absurd (omega (arith, e))) refl (lit≤ tt) (λ _. (refl, (refl, lit≤ tt))) (is_structs refl refl refl)
    record { holds = surplus refl (λ e. absurd (omega (arith, e))); first = λ u lt d. none u lt d }
  where
    none : (u : DifferenceReason) → difference_rank u < 7 → StructsDiffers ((0x0000001700000001 ∷ 0x0000000100000004 ∷ 5 ∷ 0 ∷ []) ∷ []) 1 0 1 1 1 0 2 u → ⊥
    none u lt (structs_place e h) = h refl
    none u lt (empty_list e h k) = omega (arith, h)
    none u lt (surplus e h) = let r = ap difference_rank e in omega (arith, lt, r)
    none u lt (structs_zero e h k) = let r = ap difference_rank e in omega (arith, lt, r)
    none u lt (structs_null e h k) = let r = ap difference_rank e in omega (arith, lt, r)

-- a list of two structs of one data word each, which are zero
all_zero : FirstDifference ((0x0000001700000001 ∷ 0x0000000100000008 ∷ 0 ∷ 0 ∷ []) ∷ []) record { segment = 0; word = 0; pointers = 1; reason = DataZero; end = 1 }
all_zero =
    at_object ((0x0000001700000001 ∷ 0x0000000100000008 ∷ 0 ∷ 0 ∷ []) ∷ []) refl 0x0000001700000001 refl 1 0x0000000100000008 (Structs 2 1 0) DataZero
    (lit< tt) (λ e. absurd (omega (arith, e))) refl (lit≤ tt) (λ _. (refl, (refl, lit≤ tt))) (is_structs refl refl refl)
    record {
      holds = structs_zero refl (λ e. absurd (omega (arith, e))) record { some = lit< tt; zeros = λ k lt. zeros k lt };
      first = λ u lt d. none u lt d;
    }
  where
    zeros : (k : ℕ) → k < 2 → HasWord ((0x0000001700000001 ∷ 0x0000000100000008 ∷ 0 ∷ 0 ∷ []) ∷ []) 0 (2 + k * 1 + 0) 0
    zeros zero lt = refl
    zeros (suc zero) lt = refl
    zeros (suc (suc k)) lt = absurd (omega (arith, lt))

    none : (u : DifferenceReason) → difference_rank u < 8 → StructsDiffers ((0x0000001700000001 ∷ 0x0000000100000008 ∷ 0 ∷ 0 ∷ []) ∷ []) 1 0 1 2 1 0 2 u → ⊥
    none u lt (structs_place e h) = h refl
    none u lt (empty_list e h k) = omega (arith, h)
    none u lt (surplus e h) = h refl
    none u lt (structs_zero e h k) = let r = ap difference_rank e in omega (arith, lt, r)
    none u lt (structs_null e h k) = let r = ap difference_rank e in omega (arith, lt, r)

-- The root is null, and a word comes after it.
word_after : FirstDifference ((0 ∷ 0 ∷ []) ∷ []) record { segment = 0; word = 1; pointers = 1; reason = Trailing; end = 1 }
word_after = inr (inr record {
  reason = refl;
  one = refl;
  segment = refl;
  after = record {
    paths = [] ∷ [];
    rising = tt;
    reached = λ q i. (1, 0, 0, subst (λ (u : List Step). Reaches ((0 ∷ 0 ∷ []) ∷ []) u 1 0 0) (sym (empty q i)) root);
    all = λ q level s w r. all q level s w r;
    words = 0;
    have = (1, 0, 0, 0, 0, root, (0, to_null, lead, refl), refl, refl);
    ends = refl;
    after = lit< tt;
    same = λ q d. same q d (all q d.level d.segment d.word d.reached);
    tree = null;
    charge = 0;
    depth = 0;
    denotes = (lead, refl);
    many = refl;
  };
  end = refl;
})
  where
    isnt_far : kind 0 ≢ 2
    isnt_far e = absurd (omega (arith, e))

    lead : Leads ((0 ∷ 0 ∷ []) ∷ []) 0 0 0 to_null
    lead = near 0 refl isnt_far refl refl

    root : Reaches ((0 ∷ 0 ∷ []) ∷ []) [] 1 0 0
    root = root_reached ((0 ∷ 0 ∷ []) ∷ []) refl 0 refl

    empty : (q : List Step) → IsOneOf q ([] ∷ []) → q ≡ []
    empty q (inl e) = e
    empty q (inr i) = absurd i

    no_step : (x : Step) (mid : Spot) → StepsTo ((0 ∷ 0 ∷ []) ∷ []) (word 0 0) x mid → ⊥
    no_step (Ptr i) mid (k, t, b, q, tag, ds, ps, found, less, ends) = let e = (one_lead _ 0 0 0 k _ _ lead found.finds.leads).1 in cc
    no_step (Item i) mid (inl (k, t, b, q, tag, n, found, less, ends)) = let e = (one_lead _ 0 0 0 k _ _ lead found.finds.leads).1 in cc
    no_step (Item i) mid (inr (k, t, b, q, tag, n, ds, ps, found, less, ends)) = let e = (one_lead _ 0 0 0 k _ _ lead found.finds.leads).1 in cc

    all : (q : List Step) (level s w : ℕ) → Reaches ((0 ∷ 0 ∷ []) ∷ []) q level s w → (q ≡ []) ⊎ ⊥
    all [] level s w r = inl refl
    all (x ∷ v) level s w (p, n, has, (mid, n', step, rest, sum), e) = absurd (no_step x mid step)

    same : (q : List Step) → DiffersAt ((0 ∷ 0 ∷ []) ∷ []) q → (q ≡ []) ⊎ ⊥ → ⊥
    same q d (inl e) =
        path_same ((0 ∷ 0 ∷ []) ∷ []) [] 1 0 0 root (λ end. null_is_same ((0 ∷ 0 ∷ []) ∷ []) 0 0 end 0 0 refl isnt_far lead)
        (subst (DiffersAt ((0 ∷ 0 ∷ []) ∷ [])) e d)
    same q d (inr i) = i
