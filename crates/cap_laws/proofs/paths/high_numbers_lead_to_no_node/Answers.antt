use Rattle.cap_spec.proofs.Lemmas.{pointers_shape, struct_shape, structs_shape}
use Rattle.cap_spec.proofs.ProofNames.{List, [], subst, sym, ℕ, ◌<◌, ◌^◌, ◌∷◌, ◌≤◌, ⊤, PathLeads, ReachesSpot, Spot}
use Rattle.cap_spec.proofs.ProofNames.{StepsTo, element, word, rules}
use Rattle.cap_spec.proofs.Trees.DenotedTrees.{field_below}
use Rattle.cap_laws.specs.LawNames.{Step, Item, Ptr}
use Rattle.cap_laws.proofs.paths.high_numbers_lead_to_no_node.Goals as goal

-- Steps of high numbers lead to no node.
-- an element has less than 2 ^ 16 pointers
abbrev HasFewPointers : Spot → Type 0
HasFewPointers (word s w) = ⊤
HasFewPointers (element t b ds ps) = ps < 2 ^ 16

step_few : (m : List (List ℕ)) (a : Spot) (step : Step) (b : Spot) → StepsTo m a step b → HasFewPointers b
step_few m a step b g = search rules

walk_few : (m : List (List ℕ)) (a : Spot) (path : List Step) (n : ℕ) (b : Spot) → HasFewPointers a → PathLeads m a path n b
    → HasFewPointers b
walk_few m a [] n b h g = subst (λ (z : Spot). HasFewPointers z) (sym g.1) h
walk_few m a (step ∷ path) n b h g = walk_few m g.0 path g.1 b (step_few m a step g.0 g.2) g.3

-- So no step to a pointer has a higher number,
pointer_below : (m : List (List ℕ)) (a : Spot) (i : ℕ) (b : Spot) → HasFewPointers a → StepsTo m a (Ptr i) b → i < 65535
pointer_below m a i b h g = search (rules, struct_shape, field_below)

no_high_pointer : (m : List (List ℕ)) (path : List Step) (level i : ℕ) (a b : Spot) → ReachesSpot m path level a → 65535 ≤ i
    → StepsTo m a (Ptr i) b → ⊥
no_high_pointer m path level i a b c high g = search (rules, pointer_below, walk_few)

-- and none to an element.
no_high_element : (m : List (List ℕ)) (a b : Spot) (i : ℕ) → 2 ^ 30 ≤ i → StepsTo m a (Item i) b → ⊥
no_high_element m a b i h g = search (rules, pointers_shape, field_below, structs_shape)

pub returns-clause-pointer : goal.returns-clause-pointer
returns-clause-pointer c = no_high_pointer

pub returns-clause-element : goal.returns-clause-element
returns-clause-element c = no_high_element
