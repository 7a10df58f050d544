-- Nodes of a range that are found by their number.
use Rattle.cap_spec.proofs.ProofNames.{rules}
use Rattle.std.proofs.Common.{List, Ok, Some, [], ap, arith, get_or, length, min, refl, subst, suc, sym, zero, ℕ, ◌*◌}
use Rattle.std.proofs.Common.{◌++◌, ◌+◌, ◌<◌, ◌∙◌, ◌∷◌, ◌≡◌, ◌≤◌}
use Rattle.cap_frame.specs.Fronts.{table_words}
use Rattle.cap_vet.specs.GivenPaths.{GivesAfter, GivesElement, GivesPointer, IsStart, LeadsToElements, elements_message}
use Rattle.cap_frame.specs.SegmentStarts.{start_of}
use Rattle.cap_vet.specs.Views.{view_message}
use Rattle.cap_vet.specs.declared.nodes.struct_elements.StructElements.{StructElements}
use Rattle.cap_calls.specs.CallNames.{Kind, Step, Item, Ptr, Demands, PathStart, View, kind_node, offset_of, Gets, a_node}
use Rattle.cap_calls.specs.CallNames.{path_found, path_after, step_after, HasCount, Good, Shortcut, Elements, CallNode}
use Rattle.cap_calls.specs.CallNames.{CallStep}
use Rattle.cap_calls.specs.RangeCalls.{step_of_kind}
use Rattle.cap_calls.specs.RangeShortcut.{HasNodeAfter, IsShortcut}
use Rattle.cap_calls.specs.declared.calls.get_range.Shortcut.TheVariants.{Pointers}
use Rattle.cap_frame.specs.declared.segments.Segments as segments

-- a step to an element, whose number is none of the highest
pub item_of : (kind number : ℕ) → 1 ≤ kind → number < 4294967295 → step_of_kind kind number ≡ Item number
item_of zero number some low = absurd (omega (arith, some))
item_of (suc kind) number some low = let e : min number 4294967295 ≡ number = omega (arith, low) in ap Item e

-- A view that is given is a node that is got.
pub node_after : {M : Type 0} {g : segments.Ghosts M} (m : List (List ℕ)) (start : PathStart M g) (step : Step) (rest : List Step)
    (v : View M g) (node : CallNode) → GivesAfter m start step rest (Ok (Some v))
    → node ≡ kind_node v.found.kind (offset_of m v.found.place.segment v.found.place.start) → HasNodeAfter m start step rest node
node_after m start step rest v node given e = λ demands words depth first is.
    let h = given demands words depth first is in
    a_node v.found.kind v.found.place.segment v.found.place.start v.found.place.words h.meets h.some refl e

-- The same by other names.
pub shortcut_node : {M : Type 0} {g : segments.Ghosts M} (m n : List (List ℕ)) (start : PathStart M g) (s t : Step) (rest others : List Step)
    (v : View M g) (node : CallNode) → n ≡ m → s ≡ t → rest ≡ others → GivesAfter n start s rest (Ok (Some v))
    → node ≡ kind_node v.found.kind (offset_of n v.found.place.segment v.found.place.start) → HasNodeAfter m start t others node
shortcut_node m n start s t rest others v node e f h given is =
    subst (λ (x : List (List ℕ)). HasNodeAfter x start t others node) e
    (subst (λ (x : Step). HasNodeAfter n start x others node) f
    (subst (λ (x : List Step). HasNodeAfter n start s x node) h (node_after n start s rest v node given is)))

-- A node whose words are in a segment, by the words before that.
pub node_in_segment : (m : List (List ℕ)) (kind : Kind) (segments words before t s b : ℕ) (node : CallNode)
    → segments ≡ length m → words ≡ start_of m t → s ≡ t → before ≡ 8 * (table_words segments + words)
    → node ≡ kind_node kind (before + 8 * b) → node ≡ kind_node kind (offset_of m s b)
node_in_segment m kind segments words before t s b node e f g h is = search rules

-- A node is as the message of the elements says, if its view is of that message.
pub node_of_elements : {M : Type 0} {g : segments.Ghosts M} (list : StructElements M g) (v : View M g) (node : CallNode)
    → node ≡ kind_node v.found.kind (offset_of (g.segments (view_message v)) v.found.place.segment v.found.place.start)
    → view_message v ≡ elements_message list
    → node ≡ kind_node v.found.kind (offset_of (g.segments (elements_message list)) v.found.place.segment v.found.place.start)
node_of_elements {M} {g} list v node of same =
    of ∙ ap (λ (u : M). kind_node v.found.kind (offset_of (g.segments u) v.found.place.segment v.found.place.start)) same

-- The nodes of elements, and of pointers of them, by their number.
module _ {M : Type 0} {g : segments.Ghosts M} (m : List (List ℕ)) (start : PathStart M g) (step : CallStep) (rest : List CallStep)
    (shortcut : Shortcut M g) (list : StructElements M g) (number i k : ℕ) (v : View M g) (node : CallNode) (low : i < 4294967295)
    (of : node ≡ kind_node v.found.kind (offset_of (g.segments (elements_message list)) v.found.place.segment v.found.place.start)) where
  the_step : 1 ≤ step.kind → i ≡ step.number + k → Item i ≡ step_after step k
  the_step some is =
      ap (λ (x : ℕ). Item x) is ∙ sym (item_of step.kind (step.number + k) some (omega (arith, low, is)))

  pub elements_node : shortcut ≡ Elements list number → i ≡ number + k → GivesElement (g.segments (elements_message list)) list i v
      → IsShortcut m start step rest shortcut → HasNodeAfter m start (step_after step k) (path_after rest 0 0) node
  elements_node is at gives found =
      let h : IsShortcut m start step rest (Elements list number) = subst (λ (x : Shortcut M g). IsShortcut m start step rest x) is found in
      let n = g.segments (elements_message list) in
      let are : LeadsToElements n start list = subst (λ (x : List (List ℕ)). LeadsToElements x start list) (sym h.0) h.1 in
      let on : Item i ≡ step_after step k = the_step h.2 (at ∙ ap (λ (x : ℕ). x + k) h.3) in
      shortcut_node m n start (Item i) (step_after step k) [] (path_after rest 0 0) v node h.0 on (sym h.4) (gives start are) of

  pub pointers_node : (j : ℕ) → shortcut ≡ Pointers list number j → i ≡ number + k
      → GivesPointer (g.segments (elements_message list)) list i j v
      → IsShortcut m start step rest shortcut → HasNodeAfter m start (step_after step k) (path_after rest 0 0) node
  pointers_node j is at gives found =
      let h : IsShortcut m start step rest (Pointers list number j) = subst (λ (x : Shortcut M g). IsShortcut m start step rest x) is found in
      let n = g.segments (elements_message list) in
      let are : LeadsToElements n start list = subst (λ (x : List (List ℕ)). LeadsToElements x start list) (sym h.0) h.1 in
      let on : Item i ≡ step_after step k = the_step h.2 (at ∙ ap (λ (x : ℕ). x + k) h.3) in
      shortcut_node m n start (Item i) (step_after step k) (Ptr j ∷ []) (path_after rest 0 0) v node h.0 on (sym h.4) (gives start are) of

-- A node after the first steps is got at the path as a whole.
pub gets_shortcut : {M : Type 0} {g : segments.Ghosts M} (demands : Demands) (m n : List (List ℕ)) (words depth : ℕ) (first rest path : List Step)
    (step : Step) (start : PathStart M g) (node : CallNode) → n ≡ m → IsStart demands m words depth first start
    → path ≡ first ++ step ∷ rest → HasNodeAfter n start step rest node → Gets path node demands m words depth (path_found Good)
gets_shortcut demands m n words depth first rest path step start node e is f has =
    let after = subst (λ (x : List (List ℕ)). HasNodeAfter x start step rest node) e has in
    subst (λ (p : List Step). Gets p node demands m words depth (path_found Good)) (sym f) (after demands words depth first is)

-- the path of no steps, and of one
pub no_steps : (steps : List CallStep) → length steps ≡ 0 → path_after steps 0 0 ≡ []
no_steps [] e = refl
no_steps (s ∷ steps) e = absurd (omega (arith, e))

pub one_step : (steps : List CallStep) (d : CallStep) → length steps ≡ 1 → path_after steps 0 0 ≡ step_after (get_or steps 0 d) 0 ∷ []
one_step [] d e = absurd (omega (arith, e))
one_step (s ∷ []) d e = refl
one_step (s ∷ t ∷ steps) d e = absurd (omega (arith, e))

-- how many segments the message has
pub count_shortcut : {M : Type 0} {g : segments.Ghosts M} (m : List (List ℕ)) (start : PathStart M g) (step : CallStep) (rest : List CallStep)
    (shortcut : Shortcut M g) (n : ℕ) → n ≡ length m → IsShortcut m start step rest shortcut → HasCount n shortcut
count_shortcut m start step rest shortcut n e h = search rules
