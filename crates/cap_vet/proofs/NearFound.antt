-- What a look at one pointer word of a path finds.
use Rattle.cap_spec.specs.declared.Kind.TheVariants.{Null}
use Rattle.cap_spec.proofs.Lemmas.{one_word, near_has_none, extra_same, one_object}
use Rattle.cap_spec.proofs.ProofNames.{List, arith, inl, inr, refl, subst, ℕ, ◌+◌, ◌≡◌, ◌≢◌, ◌≤◌, Lead, Leads, rules}
use Rattle.cap_spec.proofs.ProofNames.{near, to_null, HasWord, IsMessage, word}
use Rattle.cap_ptr.specs.Rows.{FindsRow, HasPointers}
use Rattle.cap_ptr.specs.Shapes.{FindsTarget, IsShape}
use Rattle.cap_ptr.proofs.NearObjects.{pointers-no_extra, pointers-plain}
use Rattle.cap_vet.specs.NearFinding.{IsNearWithin}
use Rattle.cap_ptr.specs.declared.near.Row.{Row}
use Rattle.cap_ptr.specs.declared.shapes.Shape.{Shape}
use Rattle.cap_ptr.specs.declared.shapes.Target.{Target}
use Rattle.cap_vet.specs.VetNames.{IsFound, IsNotLax, FindsNear, Found}
use Rattle.cap_ptr.specs.Levels.{levels_of}
use Rattle.cap_vet.proofs.Founds.{null_found}
use Rattle.cap_walk.proofs.Looks.{followed_costs, followed_shallow}
use Rattle.cap_ptr.specs.declared.shapes.Followed.TheVariants as followed

-- a pointer without landing pads has no form that common readers reject
not_lax : (m : List (List ℕ)) (s w k : ℕ) (r : Lead) → k ≡ 0 → Leads m s w k r → IsNotLax m s w
not_lax m s w k r h e = search (rules, near_has_none)

-- a null word
pub finds_null : (m : List (List ℕ)) (left depth s w level p : ℕ) → IsMessage m → HasWord m s w p → p ≡ 0
    → FindsNear m left depth s w level record { kind = Null; place = record { segment = 0; start = 0; words = 0 } } 0
finds_null m left depth s w level p message has e =
    let leads : Leads m s w 0 to_null = near p has (omega (arith, e)) e refl in
    record {
      found = null_found m s w 0 message leads;
      costs = followed_costs m s w (followed.Null 0) leads;
      within = omega arith;
      shallow = followed_shallow m level (followed.Null 0) leads (omega arith);
      strict = not_lax m s w 0 to_null refl leads;
    }

-- an object that is described by its word, alone or with a tag
pub finds_object : (m : List (List ℕ)) (left depth s w level : ℕ) (x : Target) (f : Found) → FindsTarget m s w x → x.pads ≡ 0
    → IsFound m (word s w) f → x.charge ≤ left → level + levels_of x.shape ≤ depth → FindsNear m left depth s w level f x.charge
finds_object m left depth s w level x f h here k e g = search (rules, followed_costs, followed_shallow, not_lax)

-- An object that its word alone describes has no levels below its own,
row_levels : (q tag n : ℕ) (x : Shape) → HasPointers q n → IsShape q tag x → levels_of x ≡ 0
row_levels q tag n x h k = search (rules, pointers-plain)

-- and is charged its words,
pub row_charged : (m : List (List ℕ)) (s w q : ℕ) (r : Row) (x : Target) → FindsRow m s w q r → FindsTarget m s w x
    → (x.charge ≡ r.words) × (levels_of x.shape ≡ 0)
row_charged m s w q r x h k = search (rules, one_object, pointers-plain, extra_same, pointers-no_extra, row_levels)

-- A word that isn't null and describes no object alone isn't such a word.
pub not_near : (m : List (List ℕ)) (left depth s w level p : ℕ) → HasWord m s w p → p ≢ 0 → ((r : Row) → ¬ FindsRow m s w p r)
    → ¬ IsNearWithin m left depth s w level
not_near m left depth s w level p has some none (inl null) = some (one_word m s w p 0 has null)
not_near m left depth s w level p has some none (inr (q, r, hasq, row, within, shallow)) =
    none r (subst (λ u. FindsRow m s w u r) (one_word m s w q p hasq has) row)
