-- What is known of a table after a fault.
use Rattle.std.proofs.lemmas.List.Sums.{sum_by-le}
use Rattle.cap_spec.proofs.ProofNames.{Fits, IfSome, List, OnSome, Option, Some, [], arith, drop, get_or}
use Rattle.cap_spec.proofs.ProofNames.{length, subst, sum, true, w32, ℕ, ◌*◌, ◌≤◌, get_or_default}
use Rattle.cap_spec.proofs.ProofNames.{◌%◌, ◌+◌, ◌/◌, ◌<◌, ◌^◌, ◌∷◌, ◌≡◌, Bool, Consumes, IsTable, ⊤, rules}
use Rattle.cap_words.specs.declared.sources.SourceFault.TheVariants.{Truncated}
use Rattle.cap_frame.specs.FrameNames.{SourceFault, TakesTable, frame_fault_of, HasSizes, LeavesSizes, LeavesTable, Stops}
use Rattle.cap_frame.specs.FrameNames.{Takes, FrameFault}
use Rattle.cap_frame.specs.TableSteps.{sums_after}
use Rattle.cap_frame.specs.TablesLeft.{KeepsTable, LacksTable, sums_of}
use Rattle.cap_frame.specs.declared.table.TableSums.{TableSums}
use Rattle.cap_words.specs.declared.sources.WordSource as source

any_words : (o : Option (List ℕ)) → IfSome o (λ ws. ⊤)
any_words o = search rules

-- at most 512 sizes of 32 bits
pub sizes_sum : (sizes : List ℕ) → ((i : ℕ) → Fits w32 (get_or sizes i 0)) → length sizes ≤ 512 → sum sizes ≤ 512 * 2 ^ 32
sizes_sum sizes fits few =
    omega (
      arith,
      few,
      sum_by-le (λ x. x) (2 ^ 32) sizes
          (λ k d h. let small : get_or sizes k 0 ≤ 2 ^ 32 = omega (arith, fits k) in
          subst (λ x. x ≤ 2 ^ 32) (get_or_default sizes k 0 d h) small),
    )

some_is : (xs ys : List ℕ) → ◌≡◌ {A = Option (List ℕ)} (Some xs) (Some ys) → xs ≡ ys
some_is xs ys e = cc

-- there was no word
pub left_none : (o : Option (List ℕ)) (cut : Bool) (places : List ℕ) (place : ℕ) (fault : SourceFault)
    → ((byte : ℕ) → fault ≡ Truncated byte → OnSome o ((o ≡ Some []) × (cut ≡ true) × (places ≡ place ∷ [])))
    → IfSome o (λ ws. LeavesSizes (frame_fault_of fault) ws [])
left_none o cut places place fault h = search (rules, some_is)

-- the table isn't whole
lacks : (a b : Option (List ℕ)) (first byte : ℕ) (places : List ℕ) → Consumes a b (first ∷ [])
    → IfSome b (λ ws. (length ws < (first % 2 ^ 32 + 1) / 2) × (drop (length ws) places ≡ byte ∷ [])) → IfSome a (λ ws. LacksTable ws)
lacks a b first byte places c s = search rules

-- it is
has : (a b : Option (List ℕ)) (table sizes : List ℕ) → IsTable table sizes → Consumes a b table → IfSome a (λ ws. HasSizes ws sizes)
has a b table sizes t c = search rules

-- the sums of sizes are kept, where these are known
kept_sums : (o : Option (List ℕ)) (sizes : List ℕ) (table : Option TableSums) → table ≡ sums_of sizes → IfSome o (λ ws. HasSizes ws sizes)
    → IfSome o (λ ws. KeepsTable ws table)
kept_sums o sizes table e h = search rules

-- and none after other faults
pub left_sums : (o : Option (List ℕ)) (fault : FrameFault) (sizes : List ℕ) (table : Option TableSums) → table ≡ sums_after fault sizes
    → IfSome o (λ ws. LeavesSizes fault ws sizes) → LeavesTable fault o table
left_sums o fault sizes table e h = search (rules, kept_sums)

module _ {X : Type 0} (g : source.Ghosts X) where
  -- the source stopped inside the table
  pub left_inside : (first : ℕ) (old mid new : X) (fault : SourceFault) → Takes g old mid (first ∷ [])
      → Stops g ((first % 2 ^ 32 + 1) / 2) mid new fault → IfSome (g.words old) (λ ws. LeavesSizes (frame_fault_of fault) ws [])
  left_inside first old mid new fault t s = search (rules, lacks, any_words)

  -- a table was taken
  pub left_table : (old new : X) (sizes : List ℕ) → TakesTable g old new sizes → IfSome (g.words old) (λ ws. HasSizes ws sizes)
  left_table old new sizes t = has (g.words old) (g.words new) t.table sizes t.is_table t.takes.consumed

  -- the source stopped after the table
  pub left_contents : (old mid : X) (sizes : List ℕ) (fault : SourceFault) → TakesTable g old mid sizes
      → IfSome (g.words old) (λ ws. LeavesSizes (frame_fault_of fault) ws sizes)
  left_contents old mid sizes fault t = search (rules, left_table, any_words)
