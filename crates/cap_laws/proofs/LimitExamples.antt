-- A struct of one word, within its limits and past each of them.
use Rattle.std.specs.Prelude.{pos, ◌+ℤ◌}
use Rattle.cap_spec.specs.Pointers.{extent}
use Rattle.cap_spec.specs.Tree.{none}
use Rattle.cap_spec.specs.Words.{signed_offset_of}
use Rattle.cap_spec.proofs.Lemmas.{struct_found, first_fault_kept}
use Rattle.cap_spec.proofs.ProofNames.{List, [], arith, inl, inr, lit<, lit≤, refl, subst, sym, ℕ, ◌∷◌, ◌≡◌, ◌⊎◌, Denotes}
use Rattle.cap_spec.proofs.ProofNames.{Finds, IsFaultAt, IsFirstReason, IsRefused, is_deep, is_past, near, IsOneOf, Before, IsTour}
use Rattle.cap_spec.proofs.ProofNames.{Reaches, struct, IsDeepAt, rules, HasWord, IsComposite, kind, segment_of}
use Rattle.cap_spec.proofs.ProofNames.{length, ◌+◌, ◌<◌, ◌≤◌, ◌≢◌}
use Rattle.cap_laws.specs.LawNames.{Reason, DepthLimit, WordLimit, Step}

-- a pointer that leads to an object in its segment, not a composite list, without a pad
pub finds_near : {m : List (List ℕ)} {s w b q : ℕ} → HasWord m s w q → kind q < 2 → q ≢ 0 → pos b ≡ pos (w + 1) +ℤ signed_offset_of q
    → s < length m → b + extent q ≤ length (segment_of m s) → ¬ IsComposite q → Finds m s w 0 s b q
finds_near {q = q} h k n e i l c = record {
  leads = near q h (λ f. omega (arith, f, k)) (k, n, refl, e, refl) refl;
  inside = record { exists = i; inside = l; composite = λ f. absurd (c f) };
}

-- a struct of one word
abbrev one_word_struct : List (List ℕ)
one_word_struct = (0x0000000100000000 ∷ 42 ∷ []) ∷ []

finds_word : Finds one_word_struct 0 0 0 0 1 0x0000000100000000
finds_word = finds_near refl (lit< tt) (λ e. omega (arith, e)) refl (lit< tt) (lit≤ tt) (λ (a, b). omega (arith, a))

-- it has a charge of 1 and a depth of 1
denotes_word : Denotes one_word_struct 0 0 (struct (42 ∷ []) none) 1 1
denotes_word = search (rules, struct_found, finds_word)

reaches_word : Reaches one_word_struct [] 1 0 0
reaches_word = (0x0000000100000000, 0, refl, (refl, refl), refl)

-- so a word limit of none refuses it,
word_limit : IsFirstReason one_word_struct 0 1 0 0 0 1 WordLimit
word_limit = is_past 1 refl
    (λ (k, t, b, q, tag, finds, tagged, past). search rules)
    (inr (inr (0, 0, 1, 0x0000000100000000, 0, finds_word, (λ (a, b). absurd (omega (arith, a))), refl))) (lit< tt)

-- and a depth limit of none too, which is named first where both are none
deep_word : IsDeepAt one_word_struct 0 0 0 1
deep_word = (0, 0, 1, 0x0000000100000000, 0, finds_word, (λ (a, b). absurd (omega (arith, a))), lit< tt)

depth_limit : IsFirstReason one_word_struct 1 0 0 0 0 1 DepthLimit
depth_limit = is_deep refl deep_word

both_limits : IsFirstReason one_word_struct 0 0 0 0 0 1 DepthLimit
both_limits = is_deep refl deep_word

-- The root is the first pointer of each message that has one.
pub root_tour : (m : List (List ℕ)) → Reaches m [] 1 0 0 → IsTour m [] ([] ∷ [])
root_tour m r = record {
  rising = tt;
  reached = λ q i. reached q i;
  all = λ q level s w h upto. all q upto;
  none_after = after;
}
  where
    reached : (q : List Step) → IsOneOf q ([] ∷ []) → (level s w : ℕ) × Reaches m q level s w
    reached q (inl e) = (1, 0, 0, subst (λ (x : List Step). Reaches m x 1 0 0) (sym e) r)
    reached q (inr e) = absurd e

    all : (q : List Step) → (q ≡ []) ⊎ Before q [] → IsOneOf q ([] ∷ [])
    all q (inl e) = inl e
    all [] (inr b) = absurd b
    all (x ∷ q) (inr b) = absurd b

    after : (q : List Step) → IsOneOf q ([] ∷ []) → (q ≡ []) ⊎ Before q []
    after q (inl e) = inl e
    after q (inr e) = absurd e

-- so a reason that applies at once is the first fault
refused_at_root : (words depth : ℕ) (v : Reason) → IsFirstReason one_word_struct words depth 0 0 0 1 v
    → IsRefused one_word_struct words depth record { segment = 0; word = 0; reason = v; pointers = 1 }
refused_at_root words depth v reason =
    search (rules, first_fault_kept fault (omega arith) (λ p level s w i. absurd i) (omega arith))
  where
    fault : IsFaultAt one_word_struct words depth [] record { segment = 0; word = 0; reason = v; pointers = 1 }
    fault = record {
      numbered = search (rules, reaches_word, root_tour one_word_struct reaches_word);
      before = [];
      charge = 0;
      whole = refl;
      costs = refl;
      reason = reason;
    }

refused_words : IsRefused one_word_struct 0 1 record { segment = 0; word = 0; reason = WordLimit; pointers = 1 }
refused_words = refused_at_root 0 1 WordLimit word_limit

refused_depth : IsRefused one_word_struct 1 0 record { segment = 0; word = 0; reason = DepthLimit; pointers = 1 }
refused_depth = refused_at_root 1 0 DepthLimit depth_limit

refused_both : IsRefused one_word_struct 0 0 record { segment = 0; word = 0; reason = DepthLimit; pointers = 1 }
refused_both = refused_at_root 0 0 DepthLimit both_limits
