-- The steps of a search down to a pointer word, and the pointer words that come after it (profile).
use Rattle.std.specs.Prelude.{List, [], length, map, ℕ, ⊤, ◌*◌, ◌++◌, ◌+◌, ◌-◌, ◌<◌, ◌^◌, ◌∷◌, ◌≤◌}
use Rattle.cap_spec.specs.Messages.{segment_of}
use Rattle.cap_spec.specs.Paths.{Spot, StepsTo, element, word}
use Rattle.cap_spec.specs.declared.Step.{Step}
use Rattle.cap_spec.specs.declared.Step.TheVariants.{Item, Ptr}
use Rattle.cap_walk.specs.Trails.{Ahead, element_rows, row}
use Rattle.cap_trace.specs.declared.branch.Branch.{Branch}
use Rattle.cap_trace.specs.declared.branch.Form.{Form}
use Rattle.cap_trace.specs.declared.branch.Form.TheVariants.{Pointers, Struct, Structs}
use Rattle.cap_trace.specs.declared.branch.WordPlace.{WordPlace}

-- the step to number i
abbrev pub form_step : Form → ℕ → Step
form_step Struct i = Ptr i
form_step Pointers i = Item i
form_step Structs i = Item i

-- the step to the last one that was taken
abbrev pub step_of : Branch → Step
step_of f = form_step f.form (f.taken - 1)

-- the path over these steps
abbrev pub path_of : List Branch → List Step
path_of branches = map step_of branches

-- the pointer words that are left of an object of this level, which the base leads to
abbrev pub form_rest : Form → List Step → ℕ → Branch → List Ahead
form_rest Struct base level f =
    row base (level + 1) Ptr f.segment (f.start + f.taken) f.taken (f.count - f.taken)
form_rest Pointers base level f =
    row base (level + 1) Item f.segment (f.start + f.taken) f.taken (f.count - f.taken)
form_rest Structs base level f =
    element_rows base (level + 1 + 1) f.segment (f.start + f.taken * (f.data_words + f.pointers))
    f.data_words f.pointers f.taken (f.count - f.taken)

abbrev pub rest_of : List Step → ℕ → Branch → List Ahead
rest_of base level f = form_rest f.form base level f

-- those of all objects on the way down, the last object's first
abbrev pub rest_from : List Step → ℕ → List Branch → List Ahead
rest_from base level [] = []
rest_from base level (f ∷ branches) =
    rest_from (base ++ step_of f ∷ []) (level + 1) branches ++ rest_of base level f

-- how many words all of them take
abbrev pub words_in : Form → Branch → ℕ
words_in Struct f = f.count
words_in Pointers f = f.count
words_in Structs f = f.count * (f.data_words + f.pointers)

-- It is a row of pointers.
abbrev pub IsRow : Form → Type 0
IsRow Struct = ⊤
IsRow Pointers = ⊤
IsRow Structs = ⊥

-- The number of a struct's pointer has 16 bits. Elements have pointers.
abbrev pub IsCounted : Form → Branch → Type 0
IsCounted Struct f = (f.taken ≤ f.count) × (f.count ≤ 2 ^ 16)
IsCounted Pointers f = f.taken ≤ f.count
IsCounted Structs f = (f.taken ≤ f.count) × (0 < f.pointers) × (f.pointers ≤ 2 ^ 16)

-- how many levels they take below that of the object
abbrev pub levels_in : Form → ℕ
levels_in Struct = 0
levels_in Pointers = 0
levels_in Structs = 1

-- The words lie inside their segment, and the object is within the depth limit.
pub record IsBranch (m : List (List ℕ)) (depth level : ℕ) (f : Branch) : Type 0 where
  pub exists : f.segment < length m
  pub inside : f.start + words_in f.form f ≤ length (segment_of m f.segment)
  pub counted : IsCounted f.form f
  pub shallow : level + levels_in f.form ≤ depth

-- each is a branch, the first of them of an object of this level
abbrev pub AreBranches : List (List ℕ) → ℕ → ℕ → List Branch → Type 0
AreBranches m depth level [] = ⊤
AreBranches m depth level (f ∷ branches) =
    IsBranch m depth level f × AreBranches m depth (level + 1) branches

-- the last word of a row that was taken
abbrev pub place_of : Branch → WordPlace
place_of f = record { segment = f.segment; at = f.start + (f.taken - 1) }

-- where number i of them is
abbrev pub form_spot : Form → Branch → ℕ → Spot
form_spot Struct f i = word f.segment (f.start + i)
form_spot Pointers f i = word f.segment (f.start + i)
form_spot Structs f i = element f.segment (f.start + i * (f.data_words + f.pointers)) f.data_words f.pointers

-- where the last one is that was taken
abbrev pub spot_of_last : Branch → Spot
spot_of_last f = form_spot f.form f (f.taken - 1)

-- There are some, and a step leads from the spot to each of them.
abbrev pub StepsFrom : List (List ℕ) → Spot → Branch → Type 0
StepsFrom m spot f =
    (0 < f.count) × ((i : ℕ) → i < f.count → StepsTo m spot (form_step f.form i) (form_spot f.form f i))

-- The first of them does so from this spot, and each other from where the last one was taken of the one before.
abbrev pub AreSteps : List (List ℕ) → Spot → List Branch → Type 0
AreSteps m spot [] = ⊤
AreSteps m spot (f ∷ branches) = StepsFrom m spot f × AreSteps m (spot_of_last f) branches

-- the spot at which the path over these branches ends, if it begins at this spot
abbrev pub last_spot : Spot → List Branch → Spot
last_spot spot [] = spot
last_spot spot (f ∷ branches) = last_spot (spot_of_last f) branches

-- the branch after n more are taken
abbrev pub skipped : Branch → ℕ → Branch
skipped f n = record f { taken = f.taken + n }

-- a row of n pointers, of which none is taken
abbrev pub row_branch : Form → ℕ → ℕ → ℕ → Branch
row_branch form s start n =
    record { form = form; segment = s; start = start; count = n; taken = 0; data_words = 0; pointers = 0 }

-- the pointers of the next element
abbrev pub element_row : Branch → Branch
element_row f =
    row_branch Struct f.segment (f.start + f.taken * (f.data_words + f.pointers) + f.data_words) f.pointers
