-- A null word is where a copy has it: the law of the turn that compares a message with its copy (profile).
use Rattle.std.proofs.Common.{ap, arith, inl, inr, subst, sym, ◌∙◌}
use Rattle.std.specs.Prelude.{List, None, [], refl, ℕ, ◌+◌, ◌-◌, ◌<◌, ◌∷◌, ◌≡◌}
use Rattle.cap_spec.specs.SpecNames.{trim, Denotes, near, to_null, HasWord, segment_of, Reaches, Tree, cap, null}
use Rattle.cap_spec.specs.SpecNames.{pointers, scalars, struct, structs}
use Rattle.cap_spec.specs.declared.Step.{Step}
use Rattle.cap_spec.proofs.Pointers.Following.{one_lead}
use Rattle.cap_spec.proofs.Trees.OneTree.{HasForm, form_of, formed}
use Rattle.cap_vet.specs.StrictNulls.{null_known}
use Rattle.cap_walk.specs.Trails.{Ahead}
use Rattle.cap_walk.proofs.OneTrail.{null_trail}
use Rattle.cap_canon.specs.Checked.{IsChecked}
use Rattle.cap_canon.specs.InOrder.{AreDue, IsCompared, IsInOrder, IsLaidSoFar}
use Rattle.cap_canon.specs.Laying.{AreBefore, Due, Laid}

-- a zero word denotes null
pub zero_null : (m : List (List ℕ)) (s w : ℕ) (x : Tree) (c d : ℕ) → Denotes m s w x c d → HasWord m s w 0 → x ≡ null
zero_null m s w x c d h zero =
    let f = formed m s w x c d h in
    let e = one_lead m s w f.k 0 f.r to_null f.leads (near 0 zero (omega arith) refl refl) in
    go x (subst (λ r. HasForm x (form_of r)) e.1 f.form)
  where
    go : (x : Tree) → HasForm x 0 → x ≡ null
    go null g = refl
    go (cap i) g = absurd (omega (arith, g))
    go (struct ws ts) g = absurd (omega (arith, g))
    go (scalars e vs) g = absurd (omega (arith, g.0))
    go (pointers ts) g = absurd (omega (arith, g))
    go (structs y z es) g = absurd (omega (arith, g))

-- a null pointer that is due has no words
null_checked : (m : List (List ℕ)) (whole : Tree) (end slot : ℕ) (due : List Due) → slot < end → HasWord m 0 slot 0
    → IsChecked m whole end (record { slot = slot; tree = null } ∷ due) → IsChecked m whole end due
null_checked m whole end slot due lt zero k =
    let e : end + 0 ≡ end = omega arith in
    let o : end ≡ slot + 1 + (end - slot - 1) = omega (arith, lt) in record {
      inside = k.inside;
      laid = (
        λ l. k.laid.0 (end - slot - 1, o, zero, k.inside, subst (λ n. Laid (segment_of m 0) n due) (sym e) l),
        λ s. subst (λ n. Laid (segment_of m 0) n due) e (k.laid.1 s).4,
      );
    }

-- the first of what is due is null
null_laid : (m : List (List ℕ)) (a : Ahead) (ahead : List Ahead) (end : ℕ) (whole : Tree) → HasWord m a.segment a.word 0
    → IsLaidSoFar m end (a ∷ ahead) whole → IsLaidSoFar m end ahead whole
null_laid m a ahead end whole zero k = go k.due k.are_due k.before k.checked
  where
    go : (due : List Due) → AreDue m (a ∷ ahead) due → AreBefore end due → IsChecked m whole end due → IsLaidSoFar m end ahead whole
    go [] h b c = absurd h
    go (x ∷ due) h b c =
        let here : HasWord m 0 x.slot 0 = subst (λ v. HasWord m 0 v 0) h.1 (subst (λ v. HasWord m v a.word 0) h.0 zero) in
        let (y, cost, d, denotes, same, le) = h.2.1 in
        let none : x.tree ≡ null = same ∙ ap trim (zero_null m 0 x.slot y cost d denotes here) in
        let k : IsChecked m whole end (record { slot = x.slot; tree = null } ∷ due) =
        subst (λ (u : Tree). IsChecked m whole end (record { slot = x.slot; tree = u } ∷ due)) none c in
        record { due = due; are_due = h.3; before = b.1; checked = null_checked m whole end x.slot due b.0 here k }

pub null_in_order : (m : List (List ℕ)) (end : ℕ) (seen : List (List Step)) (p : List Step) (level s w : ℕ) → Reaches m p level s w
    → HasWord m s w 0 → IsInOrder m end seen → IsInOrder m end (p ∷ seen)
null_in_order m end seen p level s w reached zero k = record {
  one = k.one;
  few = k.few;
  inside = k.inside;
  strict = null_known m seen p level s w None reached zero k.strict;
  so_far = λ ahead trail x c d h.
      let a : Ahead = record { path = p; segment = s; word = w; level = level } in
      null_laid m a ahead end (trim x) zero (k.so_far (a ∷ ahead) (null_trail m seen p level s w ahead trail reached zero) x c d h);
}

-- and so it is after a difference
pub null_compared : (m : List (List ℕ)) (end : ℕ) (seen : List (List Step)) (p : List Step) (level s w : ℕ) → Reaches m p level s w
    → HasWord m s w 0 → IsCompared m end seen → IsCompared m end (p ∷ seen)
null_compared m end seen p level s w reached zero (inl k) = inl (null_in_order m end seen p level s w reached zero k)
null_compared m end seen p level s w reached zero (inr (e, k)) = inr (
  e,
  record {
    one = k.one;
    few = k.few;
    some = k.some;
    strict = null_known m seen p level s w None reached zero k.strict;
    differs = k.differs;
  },
)
