-- Small messages: one for each form that common readers reject, one that is strict,
-- and one with a two-word pad that is strict.
use Rattle.cap_spec.specs.declared.Lax.{Lax}
use Rattle.cap_spec.specs.declared.Lax.TheVariants.{CapabilityPad, EmptySegment, NullPad}
use Rattle.cap_spec.specs.declared.Step.{Step}
use Rattle.cap_spec.proofs.Lemmas.{one_lead, first_by_tour, one_object}
use Rattle.cap_spec.proofs.ProofNames.{List, [], arith, inl, inr, lit<, lit≤, refl, subst, sym, ℕ, ◌∷◌, ◌≡◌, ◌⊎◌, rules}
use Rattle.cap_spec.proofs.ProofNames.{Denotes, Finds, near, one_pad, to_cap, to_null, to_object, two_pads, IsOneOf}
use Rattle.cap_spec.proofs.ProofNames.{Before, IsTour, Reaches, IsFirstLax, IsLaxAt, IsStrict, null}
use Rattle.cap_spec.proofs.Strict.Copies.{none_lax}

-- a root whose one-word pad is zero
abbrev null_pad : List (List ℕ)
null_pad = (0x0a ∷ 0 ∷ []) ∷ []

lax-null_pad : IsLaxAt null_pad 0 0 NullPad
lax-null_pad = one_pad 0x0a 0 refl (refl, refl) refl (λ e. absurd (omega (arith, e))) refl refl

root-null_pad : Reaches null_pad [] 1 0 0
root-null_pad = (0x0a, 0, refl, (refl, refl), refl)

-- it is the first pointer of such a form, and the only one that is looked at
first-null_pad : IsFirstLax null_pad 0 0 NullPad 1
first-null_pad = first_by_tour null_pad [] 1 0 0 NullPad ([] ∷ []) root-null_pad tour lax-null_pad (λ q i b. absurd b)
  where
    reached : (q : List Step) → IsOneOf q ([] ∷ []) → (level s w : ℕ) × Reaches null_pad q level s w
    reached q (inl e) = (1, 0, 0, subst (λ (u : List Step). Reaches null_pad u 1 0 0) (sym e) root-null_pad)
    reached q (inr h) = absurd h

    only : (q : List Step) → (q ≡ []) ⊎ Before q [] → IsOneOf q ([] ∷ [])
    only q (inl e) = inl e
    only q (inr b) = absurd b

    own : (q : List Step) → IsOneOf q ([] ∷ []) → (q ≡ []) ⊎ Before q []
    own q (inl e) = inl e
    own q (inr h) = absurd h

    tour : IsTour null_pad [] ([] ∷ [])
    tour = record { rising = tt; reached = reached; all = λ q level s w r k. only q k; none_after = own }

-- and one whose pad is capability 0
lax-capability_pad : IsLaxAt ((0x0a ∷ 3 ∷ []) ∷ []) 0 0 CapabilityPad
lax-capability_pad = (
  0,
  one_pad 0x0a 3 refl (refl, refl) refl (λ e. absurd (omega (arith, e)))
      ((refl, refl), refl) refl,
)

-- a two-word pad that leads to a struct without words in segment 2, which has no words
lax-empty_segment : IsLaxAt ((0x0000000100000006 ∷ []) ∷ (0x0000000200000002 ∷ 0 ∷ []) ∷ [] ∷ []) 0 0 EmptySegment
lax-empty_segment = (
  2,
  2,
  0,
  0,
  record {
    leads = two_pads 0x0000000100000006 0x0000000200000002 0 refl (refl, refl) refl refl (refl, refl)
        (lit< tt, refl) refl refl;
    inside = record { exists = lit< tt; inside = lit≤ tt; composite = λ (a, b). absurd (omega (arith, a)) };
  },
  refl,
)

-- the message of one null pointer is strict
null-denoted : Denotes ((0 ∷ []) ∷ []) 0 0 null 0 0
null-denoted = (near 0 refl (λ e. absurd (omega (arith, e))) refl refl, refl)

strict-null : IsStrict ((0 ∷ []) ∷ []) 0 0
strict-null = record {
  accepted = (null, 0, 0, record { denotes = null-denoted; few_words = lit≤ tt; few_levels = lit≤ tt });
  few_segments = lit≤ tt;
  none = none_lax ((0 ∷ []) ∷ []) null 0 0 null-denoted (lit≤ tt);
}

-- a two-word pad whose tag is zero, to a struct without words in a segment with words
abbrev two_words : List (List ℕ)
two_words = (0x0000000100000006 ∷ []) ∷ (0x0000000100000002 ∷ 0 ∷ []) ∷ []

two_words-found : Finds two_words 0 0 2 1 0 0
two_words-found = record {
  leads = two_pads 0x0000000100000006 0x0000000100000002 0 refl (refl, refl) refl refl (refl, refl)
      (lit< tt, refl) refl refl;
  inside = record { exists = lit< tt; inside = lit≤ tt; composite = λ (a, b). absurd (omega (arith, a)) };
}

-- it has none of the forms
two_words-not_lax : (what : Lax) → ¬ IsLaxAt two_words 0 0 what
two_words-not_lax k h = search (rules, to_null, to_object, one_lead, one_object, two_words-found, to_cap)
