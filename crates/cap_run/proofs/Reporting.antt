-- What was reported of messages, with one message more.
use Rattle.std.proofs.lemmas.Grind.{flat_map-append}
use Rattle.cap_spec.proofs.ProofNames.{List, [], ap, append-nil, arith, length, length-append, refl, subst, suc, ℕ}
use Rattle.cap_spec.proofs.ProofNames.{◌++◌, ◌+◌, ◌∙◌, ◌∷◌, ◌≡◌, ◌≤◌, map-append, rules}
use Rattle.cap_run.specs.RunNames.{ReportsEach, Reported, messages_of, noncanonical_in, one_noncanonical, one_refused}
use Rattle.cap_run.specs.RunNames.{outcome_of, refused_in, texts_of, Counted, Outcome}

pub messages_of-snoc : (ts : List Reported) (t : Reported) → messages_of (ts ++ t ∷ []) ≡ messages_of ts ++ t.message ∷ []
messages_of-snoc ts t = map-append (λ u. u.message) ts (t ∷ [])

pub texts_of-snoc : (ts : List Reported) (t : Reported) → texts_of (ts ++ t ∷ []) ≡ texts_of ts ++ t.text
texts_of-snoc ts t = flat_map-append (λ u. u.text) ts (t ∷ []) ∙ ap (λ l. texts_of ts ++ l) (append-nil t.text)

pub each-snoc : (reports : ℕ → List (List ℕ) → List ℕ → Counted → Type 0) (n : ℕ) (ts : List Reported) (t : Reported) → ReportsEach reports n ts
    → reports (n + length ts) t.message t.text t.counted → ReportsEach reports n (ts ++ t ∷ [])
each-snoc reports n [] t p q = (subst (λ k. reports k t.message t.text t.counted) (omega arith) q, tt)
each-snoc reports n (u ∷ ts) t p q = (p.0, each-snoc reports (n + 1) ts t p.1 (subst (λ k. reports k t.message t.text t.counted) (omega arith) q))

pub refused_in-snoc : (ts : List Reported) (t : Reported) → refused_in (ts ++ t ∷ []) ≡ refused_in ts + one_refused t.counted
refused_in-snoc [] t = omega arith
refused_in-snoc (u ∷ ts) t = let e = refused_in-snoc ts t in omega (arith, e)

pub noncanonical_in-snoc : (ts : List Reported) (t : Reported) → noncanonical_in (ts ++ t ∷ []) ≡ noncanonical_in ts + one_noncanonical t.counted
noncanonical_in-snoc [] t = omega arith
noncanonical_in-snoc (u ∷ ts) t = let e = noncanonical_in-snoc ts t in omega (arith, e)

-- a message counts at most once
one_refused_le : (counted : Counted) → one_refused counted ≤ 1
one_refused_le h = search rules

one_noncanonical_le : (counted : Counted) → one_noncanonical counted ≤ 1
one_noncanonical_le h = search rules

-- no more are refused than there are
pub refused_in_le : (ts : List Reported) → refused_in ts ≤ length ts
refused_in_le [] = omega arith
refused_in_le (t ∷ ts) = let e = refused_in_le ts in let f = one_refused_le t.counted in omega arith

-- no more aren't canonical than there are
pub noncanonical_in_le : (ts : List Reported) → noncanonical_in ts ≤ length ts
noncanonical_in_le [] = omega arith
noncanonical_in_le (t ∷ ts) = let e = noncanonical_in_le ts in let f = one_noncanonical_le t.counted in omega arith

-- the counts with one message more
pub outcome_of-snoc : (ts : List Reported) (t : Reported) (o : Outcome) → o ≡ outcome_of ts
    → record {
      messages = o.messages + 1;
      refused = o.refused + one_refused t.counted;
      noncanonical = o.noncanonical
          + one_noncanonical t.counted;
    } ≡ outcome_of (ts ++ t ∷ [])
outcome_of-snoc ts t o e = search (rules, length-append, refused_in-snoc, noncanonical_in-snoc)

-- there are as many messages as were reported of
pub length-messages_of : (ts : List Reported) → length (messages_of ts) ≡ length ts
length-messages_of [] = refl
length-messages_of (t ∷ ts) = ap suc (length-messages_of ts)
