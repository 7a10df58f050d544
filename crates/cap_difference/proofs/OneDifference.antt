-- A message has one first difference.
use Rattle.std.proofs.lemmas.Bool.{cases_order}
use Rattle.cap_spec.proofs.Lemmas.{one_tree}
use Rattle.cap_spec.proofs.Paths.Preorder.{Rises-same, one_first, one_number}
use Rattle.cap_spec.proofs.ProofNames.{List, ap, arith, if◌then◌else◌, inl, inr, refl, rules, subst, sym, ℕ, ◌==◌, ◌∙◌, ◌≡◌}
use Rattle.cap_spec.proofs.ProofNames.{pointer_count}
use Rattle.cap_difference.specs.Differences.{DiffersAt, EndsBefore, FirstDifference, HasWordsAfter, HaveWords, IsAtPointer}
use Rattle.cap_difference.specs.Reasons.{IsFirstSuchReason, PointerDiffers, difference_rank}
use Rattle.cap_difference.specs.declared.difference.Difference.{Difference}
use Rattle.cap_difference.specs.declared.reason.DifferenceReason.{DifferenceReason}
use Rattle.cap_difference.specs.declared.reason.DifferenceReason.TheVariants.{Bits, Capability, DataZero, EmptyList}
use Rattle.cap_difference.specs.declared.reason.DifferenceReason.TheVariants.{EmptyStruct, Far, Place, PointerNull}
use Rattle.cap_difference.specs.declared.reason.DifferenceReason.TheVariants.{Segments, Surplus, Trailing}
use Rattle.cap_difference.proofs.Ends.{one_end, one_words}

-- the reason of a rank
abbrev reason_at : ℕ → DifferenceReason
reason_at n =
    if n == 0 then Segments else
    (if n == 1 then Far else
    (if n == 2 then Capability else
    (if n == 3 then EmptyStruct else
    (if n == 4 then Place else
    (if n == 5 then Bits else
    (if n == 6 then EmptyList else
    (if n == 7 then Surplus else
    (if n == 8 then DataZero else
    (if n == 9 then PointerNull else Trailing)))))))))

rank_back : (u : DifferenceReason) → reason_at (difference_rank u) ≡ u
rank_back Segments = refl
rank_back Far = refl
rank_back Capability = refl
rank_back EmptyStruct = refl
rank_back Place = refl
rank_back Bits = refl
rank_back EmptyList = refl
rank_back Surplus = refl
rank_back DataZero = refl
rank_back PointerNull = refl
rank_back Trailing = refl

-- one reason is the first
pub one_first_reason : (P : DifferenceReason → Type 0) (u v : DifferenceReason) → IsFirstSuchReason P u → IsFirstSuchReason P v → u ≡ v
one_first_reason P u v f g = elim (cases_order (difference_rank u) (difference_rank v)) [
  | inl e ↦ sym (rank_back u) ∙ ap reason_at e ∙ rank_back v
  | inr (inl lt) ↦ absurd (g.first u lt f.holds)
  | inr (inr lt) ↦ absurd (f.first v lt g.holds)
]

-- differences of equal parts are equal
same_difference : (a b : Difference) → a.segment ≡ b.segment → a.word ≡ b.word → a.pointers ≡ b.pointers → a.reason ≡ b.reason
    → a.end ≡ b.end → a ≡ b
same_difference a b e1 e2 e3 e4 e5 = search rules

one_pointer : (m : List (List ℕ)) (a b : Difference) → IsAtPointer m a → IsAtPointer m b → a ≡ b
one_pointer m a b at other =
    let f = at.first in
    let g = other.first in
    let e = one_first m (DiffersAt m) f.path g.path f.numbered.level g.numbered.level a.segment a.word b.segment b.word
    f.numbered.reached g.numbered.reached f.first g.first in
    let (x, y, z) = one_number m f.path g.path a.segment a.word a.pointers b.segment b.word b.pointers f.numbered g.numbered e in
    let ends = one_end m g.path f.end g.end (subst (λ p. EndsBefore m p f.end) e f.ends) g.ends in
    let here = subst (λ n. IsFirstSuchReason (PointerDiffers m b.segment b.word n) a.reason) ends
    (subst (λ n. IsFirstSuchReason (PointerDiffers m b.segment n f.end) a.reason) y
    (subst (λ n. IsFirstSuchReason (PointerDiffers m n a.word f.end) a.reason) x f.differs)) in
    same_difference a b x y z (one_first_reason (PointerDiffers m b.segment b.word g.end) a.reason b.reason here g.differs)
    (at.end ∙ ends ∙ sym other.end)

-- all objects end at one word
pub one_whole : (m : List (List ℕ)) (a b n n' : ℕ) → HasWordsAfter m a n → HasWordsAfter m b n' → (a ≡ b) × (n ≡ n')
one_whole m a b n n' f g =
    let paths = Rises-same f.paths g.paths f.rising g.rising
    (λ q i. let r = f.reached q i in g.all q r.0 r.1 r.2 r.3) (λ q i. let r = g.reached q i in f.all q r.0 r.1 r.2 r.3) in
    let words = one_words m g.paths f.words g.words (subst (λ ps. HaveWords m ps f.words) paths f.have) g.have in
    let trees = one_tree m 0 0 f.tree g.tree f.charge f.depth g.charge g.depth f.denotes g.denotes in
    (omega (arith, f.ends, g.ends, words), f.many ∙ ap pointer_count trees.part ∙ sym g.many)

pub one_difference : (m : List (List ℕ)) (a b : Difference) → FirstDifference m a → FirstDifference m b → a ≡ b
one_difference m a b (inl f) (inl g) =
    same_difference a b (f.segment ∙ sym g.segment) (f.word ∙ sym g.word) (f.pointers ∙ sym g.pointers) (f.reason ∙ sym g.reason)
    (f.end ∙ sym g.end)
one_difference m a b (inl f) (inr (inl g)) = absurd (f.many g.one)
one_difference m a b (inl f) (inr (inr g)) = absurd (f.many g.one)
one_difference m a b (inr (inl f)) (inl g) = absurd (g.many f.one)
one_difference m a b (inr (inr f)) (inl g) = absurd (g.many f.one)
one_difference m a b (inr (inl f)) (inr (inl g)) = one_pointer m a b f g
one_difference m a b (inr (inl f)) (inr (inr g)) = absurd (g.after.same f.first.path f.first.first.holds)
one_difference m a b (inr (inr f)) (inr (inl g)) = absurd (f.after.same g.first.path g.first.first.holds)
one_difference m a b (inr (inr f)) (inr (inr g)) =
    let e = one_whole m a.word b.word a.pointers b.pointers f.after g.after in
    same_difference a b (f.segment ∙ sym g.segment) e.0 e.1 (f.reason ∙ sym g.reason) (f.end ∙ e.0 ∙ sym g.end)
