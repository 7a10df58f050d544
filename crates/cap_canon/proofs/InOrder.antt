-- A message is compared with its copy while it is vetted, one object more.
use Rattle.cap_spec.specs.Denoting.{places}
use Rattle.cap_spec.specs.Tree.{none}
use Rattle.cap_spec.specs.declared.Step.TheVariants.{Ptr}
use Rattle.cap_spec.proofs.Lemmas.{one_word, one_lead, near_has_none, extent_pointers, extent_struct, extent_structs}
use Rattle.cap_spec.proofs.Lemmas.{extra_same, range_length, object_parts, one_tree}
use Rattle.cap_spec.proofs.ProofNames.{common_steps, Bool, List, None, [], ap, arith, false, if◌then◌else◌, inl, inr}
use Rattle.cap_spec.proofs.ProofNames.{length, max, ne_eqb, refl, subst, suc, sym, true, zero, ℕ, ◌*◌, ◌++◌, ◌+◌, ◌-◌}
use Rattle.cap_spec.proofs.ProofNames.{◌<◌, ◌==◌, ◌^◌, ◌↔◌, ◌∙◌, ◌∷◌, ◌≡◌, ◌≢◌, ◌≤◌, length-map-range_with_len}
use Rattle.cap_spec.proofs.ProofNames.{children_needed, children_of, data_needed, layout, list_word, pointer_to}
use Rattle.cap_spec.proofs.ProofNames.{struct_word, trim, IsCanonical, AreElements, DenoteEach, Denotes, Finds}
use Rattle.cap_spec.proofs.ProofNames.{value_at, values_of, words_from, IsComposite, Lead, Leads, Says, extra, to_cap}
use Rattle.cap_spec.proofs.ProofNames.{to_null, to_object, HasWord, segment_of, Costs, Reaches, HasWordsAt, code}
use Rattle.cap_spec.proofs.ProofNames.{data_size, element_bits, extent, kind, list_size, middle, pointer_size}
use Rattle.cap_spec.proofs.ProofNames.{scalar_words, IsStrict, Tree, Trees, more, struct, tree_count, rules}
use Rattle.cap_spec.proofs.Trees.Charges.{one_cost}
use Rattle.cap_ptr.specs.Rows.{HasPointers}
use Rattle.cap_ptr.specs.Shapes.{FindsObject, IsShape}
use Rattle.cap_ptr.specs.declared.shapes.Shape.{Shape}
use Rattle.cap_ptr.proofs.NearObjects.{pointers-no_extra, pointers-plain}
use Rattle.cap_vet.specs.VetNames.{IsNotLax, object_children, IsAccepted, IsReport, KnowsLax, Ahead, IsTrail}
use Rattle.cap_walk.specs.Trails.{element_rows, row}
use Rattle.cap_vet.specs.VetNames.{IsLookedAt}
use Rattle.cap_vet.proofs.Laxness.{knows_on, within_of}
use Rattle.cap_walk.proofs.OneTrail.{object_trail, one_trail, root_trail}
use Rattle.cap_canon.specs.InOrder.{AreDue, HasDiffered, HasOwn, IsAsInCopy, IsCompared, IsInOrder, IsLaidSoFar}
use Rattle.cap_canon.specs.InOrder.{IsNextInOrder, IsOwn, LeadsToEnd, MayStartAt}
use Rattle.cap_canon.specs.NullsInOrder.{null_compared}
use Rattle.cap_canon.specs.Objects.{IsLeft}
use Rattle.cap_canon.specs.CanonNames.{Step, Report, IsChecked, Differs, IsNotCanonical, NoCopyHas, AreBefore, Due}
use Rattle.cap_canon.specs.CanonNames.{IsPointed, OwnAt, below, element_slots, own_size, slots, AreElementsLeft}
use Rattle.cap_canon.specs.CanonNames.{AreLeft, IsObject, ForTrimmed, longest_copy, NeedsLess, most_data, Object, Part}
use Rattle.cap_canon.specs.Trimming.{NeedsAll}
use Rattle.cap_canon.proofs.CheckWalks.{check_first, check_on}
use Rattle.cap_canon.proofs.Copies.{copy_charged, no_cap_reached}
use Rattle.cap_canon.proofs.Entering.{below_before}
use Rattle.cap_canon.proofs.Found.{pointers_object, scalars_object, struct_found, struct_object, structs_found}
use Rattle.cap_canon.proofs.Found.{structs_object}
use Rattle.cap_canon.proofs.InPlace.{near_lead}
use Rattle.cap_canon.proofs.LaidSteps.{object_laid}
use Rattle.cap_canon.proofs.NoCopies.{no_struct}
use Rattle.cap_canon.proofs.Owing.{before_join, before_more}
use Rattle.cap_canon.proofs.LaidObjects.{list_place, pointers_place, scalars_place, struct_place, structs_place}
use Rattle.cap_canon.proofs.LaidObjects.{structs_lie}
use Rattle.cap_canon.proofs.Walks.{owed_fits}
use Rattle.cap_ptr.specs.declared.shapes.Shape.TheVariants as shape
use Rattle.cap_canon.specs.declared.objects.Object.TheVariants as object

-- words ahead that are due, one after the other
due_join : (m : List (List ℕ)) (xs ys : List Ahead) (ds es : List Due) → AreDue m xs ds → AreDue m ys es → AreDue m (xs ++ ys) (ds ++ es)
due_join m (a ∷ xs) ys (x ∷ ds) es h k = (h.0, h.1, h.2, due_join m xs ys ds es h.3 k)
due_join m xs ys ds es h k = search rules

-- the pointer words of a row
row_due : (m : List (List ℕ)) (deep : ℕ) (base : List Step) (level : ℕ) (step : ℕ → Step) (t b a i n : ℕ) (us : Trees) → tree_count us ≡ n
    → (0 < n → (t ≡ 0) × (b ≡ a)) → AreLeft m deep t b us → AreDue m (row base level step t b i n) (slots a us)
row_due m deep base level step t b a i zero none e z h = tt
row_due m deep base level step t b a i (suc n) (more u us) e z h =
    let (segment, at) = z (omega arith) in (
      segment,
      at,
      (deep, subst (λ v. IsLeft m deep 0 v u) at (subst (λ s. IsLeft m deep s b u) segment h.0)),
      row_due m deep base level step t (b + 1) (a + 1) (i + 1) n us (omega (arith, e)) (λ _. (segment, omega (arith, at))) h.1,
    )
row_due m deep base level step t b a i n us e z h = search rules

-- and those of elements of which nothing is cut
elements_due : (m : List (List ℕ)) (deep : ℕ) (base : List Step) (level t b a d p i n : ℕ) (es : Trees) → t ≡ 0 → b ≡ a → tree_count es ≡ n
    → AreElementsLeft m deep t b d p d p es → AreDue m (element_rows base level t b d p i n) (element_slots d p a es)
elements_due m deep base level t b a d p i zero none z at e h = tt
elements_due m deep base level t b a d p i (suc n) (more (struct ws us) es) z at e h =
    search (rules, due_join, row_due, elements_due m deep base level t (b + d + p) (a + d + p) d p (i + 1) n es z (omega (arith, at)) (omega (arith, e)) h.3)
elements_due m deep base level t b a d p i n es z at e h = search rules

-- An object's own words are those of the copy, with its pointer words due.
own_of : (m : List (List ℕ)) (w end now q tag t b d : ℕ) (u : Tree) (o : Object) → w < end → HasWord m 0 w (pointer_to (end - w - 1) u)
    → OwnAt (segment_of m 0) end u → now ≡ end + own_size u → IsObject m d 0 w u o
    → ((path : List Step) (level : ℕ) → AreDue m (object_children path q tag t b level) (below end u)) → IsOwn m w end now q tag t b u
own_of m w end now q tag t b d u o lt here own e is due = search (rules, below_before)

-- a struct
pub struct_own : (m : List (List ℕ)) (w end k t b q tag words charge d p : ℕ) → MayStartAt m w end
    → FindsObject m 0 w k t b q tag words charge (shape.Struct d p)
    → HasWord m 0 w (if (d + p) == 0 then 2 ^ 32 - 4 else struct_word (end - w - 1) d p)
    → d ≡ max 0 (data_needed (words_from m t b d))
    → ((ts : Trees) (c' d' : ℕ) → DenoteEach m (places t (b + d) p) ts c' d' → p ≡ max 0 (children_needed ts))
    → HasOwn m w end (end + words) q tag t b
struct_own m w end k t b q tag words charge d p s f has sizes children x c deep h =
    let part : Part = record { segment = t; start = b; data_words = d; pointers = p; data_left = d; pointers_left = p } in
    let o = struct_object m 0 w deep part x (struct_found c h f) sizes (omega arith) children (omega arith) in
    let l : length o.2.words ≡ d = ap length o.2.data_words ∙ range_length m t b d (omega (arith, o.2.found.inside)) in
    let e : pointer_to (end - w - 1) (trim x) ≡ (if (d + p) == 0 then 2 ^ 32 - 4 else struct_word (end - w - 1) d p) =
    search rules in
    let here : HasWord m 0 w (pointer_to (end - w - 1) (trim x)) = subst (λ z. HasWord m 0 w z) (sym e) has in
    let place = struct_place m o.0 w end (trim x) part o.2 s.after (omega (arith, s.inside, s.few)) s.inside here in
    let size : own_size (trim x) ≡ length o.2.words + tree_count o.2.children = ap own_size o.2.tree in
    let extent = extent_struct q f.object.shape.kind in
    let ends : end + words ≡ end + own_size (trim x) = search rules in
    own_of m w end (end + words) q tag t b deep (trim x) (object.Struct part) s.after here place.own ends o (λ path level.
    let due : AreDue m (row path (level + 1) Ptr t (b + d) 0 p) (slots (end + d) o.2.children) =
    row_due m o.0 path (level + 1) Ptr t (b + d) (end + d) 0 p o.2.children o.2.many place.place o.2.below in
    let due' : AreDue m (row path (level + 1) Ptr t (b + d) 0 p) (below end (trim x)) =
    subst (λ (v : Tree). AreDue m (row path (level + 1) Ptr t (b + d) 0 p) (below end v)) (sym o.2.tree)
    (subst (λ i. AreDue m (row path (level + 1) Ptr t (b + d) 0 p) (slots (end + i) o.2.children)) (sym l) due) in
    rw (f.object.shape.kind, ← f.object.shape.data_words, ← f.object.shape.pointers) due')

-- a list of pointers
pub pointers_own : (m : List (List ℕ)) (w end k t b q tag words charge n : ℕ) → MayStartAt m w end
    → FindsObject m 0 w k t b q tag words charge (shape.Pointers n) → HasWord m 0 w (list_word (end - w - 1) 6 n)
    → HasOwn m w end (end + words) q tag t b
pointers_own m w end k t b q tag words charge n s f has x c deep h =
    let o = pointers_object m 0 w x c deep n h f in
    let e : pointer_to (end - w - 1) (trim x) ≡ list_word (end - w - 1) 6 n = search rules in
    let here : HasWord m 0 w (pointer_to (end - w - 1) (trim x)) = subst (λ z. HasWord m 0 w z) (sym e) has in
    let place = pointers_place m o.0 w end (trim x) t b n o.2 s.after (omega (arith, s.inside, s.few)) here in
    let size : own_size (trim x) ≡ tree_count o.2.children = ap own_size o.2.tree in
    let ends : end + words ≡ end + own_size (trim x) = search (rules, extent_pointers) in
    own_of m w end (end + words) q tag t b deep (trim x) (object.Pointers t b n) s.after here place.own ends o (λ path level.
    search (rules, o.2.tree, row_due))

-- a list of values
pub values_own : (m : List (List ℕ)) (w end k t b q tag words charge c n : ℕ) → MayStartAt m w end
    → FindsObject m 0 w k t b q tag words charge (shape.Scalars c n) → HasWord m 0 w (list_word (end - w - 1) c n)
    → HasWordsAt (segment_of m 0) end (scalar_words c (values_of m 0 end c n)) → HasOwn m w end (end + words) q tag t b
values_own m w end k t b q tag words charge c n s f has lie x cost deep h =
    let many = length-map-range_with_len (value_at (segment_of m t) b (element_bits c)) 0 n in
    search (rules, scalars_object m 0 w x cost deep c n h f, many, scalars_place, ne_eqb)

-- how many elements a list of structs has, and that they exist
pub structs_inside : (m : List (List ℕ)) (w k t b q tag words charge size n d p : ℕ)
    → FindsObject m 0 w k t b q tag words charge (shape.Structs size n d p)
    → (n < 2 ^ 30) × (n * (d + p) < 2 ^ 29) × (t < length m) × (b + 1 + n * (d + p) ≤ length (segment_of m t))
structs_inside m w k t b q tag words charge size n d p f = search (rules, extent_structs)

-- and where its tag is, if its word is the one of a copy
pub structs_start : (m : List (List ℕ)) (w end k t b q tag words charge size n d p : ℕ) → MayStartAt m w end
    → FindsObject m 0 w k t b q tag words charge (shape.Structs size n d p) → HasWord m 0 w (list_word (end - w - 1) 7 (n * (d + p)))
    → (end < length (segment_of m 0)) × (list_size q ≡ n * (d + p))
structs_start m w end k t b q tag words charge size n d p s f has = grind (arith, common_steps, structs_inside, list_place, segment_of)

-- a list of structs
pub structs_own : (m : List (List ℕ)) (w end k t b q tag words charge size n d p : ℕ) → MayStartAt m w end
    → FindsObject m 0 w k t b q tag words charge (shape.Structs size n d p) → HasWord m 0 w (list_word (end - w - 1) 7 (n * (d + p)))
    → HasWord m 0 end (struct_word n d p) → d ≡ most_data m t (b + 1) d p n
    → ((es : Trees) (c' d' : ℕ) → AreElements m t (b + 1) d p n es c' d' → p ≡ children_of es)
    → HasOwn m w end (end + words) q tag t b
structs_own m w end k t b q tag words charge size n d p s f has has_tag sizes children x c deep h =
    let part : Part = record { segment = t; start = b + 1; data_words = d; pointers = p; data_left = d; pointers_left = p } in
    let o = structs_object m 0 w b n deep part x refl (structs_found c h f) sizes (omega arith) children (omega arith) in
    let e : pointer_to (end - w - 1) (trim x) ≡ list_word (end - w - 1) 7 (n * (d + p)) = search rules in
    let here : HasWord m 0 w (pointer_to (end - w - 1) (trim x)) = subst (λ z. HasWord m 0 w z) (sym e) has in
    let place = structs_place m o.0 w end (trim x) n part o.2 s.after (omega (arith, s.inside, s.few)) here in
    let lie = structs_lie m o.0 w end (trim x) n part o.2 place has_tag in
    let start = structs_start m w end k t b q tag words charge size n d p s f has in
    let size' : own_size (trim x) ≡ 1 + n * (d + p) = ap own_size o.2.tree ∙ ap (λ i. 1 + i * (d + p)) o.2.many in
    let ends : end + words ≡ end + own_size (trim x) = search (rules, extent_structs) in
    own_of m w end (end + words) q tag t b deep (trim x) (object.Structs n part) s.after here lie.own ends o (λ path level.
    search (rules, o.2.tree, elements_due))

-- The walk goes on after an object that is where a copy has it.
laid_on : (m : List (List ℕ)) (a : Ahead) (later : List Ahead) (w end now q tag t b : ℕ) (whole : Tree) → a.word ≡ w → now ≤ length (segment_of m 0)
    → HasOwn m w end now q tag t b → IsLaidSoFar m end (a ∷ later) whole
    → IsLaidSoFar m now (object_children a.path q tag t b a.level ++ later) whole
laid_on m a later w end now q tag t b whole e inside own k = go k.due k.are_due k.before k.checked
  where
    go : (due : List Due) → AreDue m (a ∷ later) due → AreBefore end due → IsChecked m whole end due
        → IsLaidSoFar m now (object_children a.path q tag t b a.level ++ later) whole
    go [] h before c = absurd h
    go (x ∷ due) h before c =
        let slot : w ≡ x.slot = sym e ∙ h.1 in
        let (y, cost, d, denotes, same, le) = h.2.1 in
        let r : IsOwn m x.slot end now q tag t b x.tree = subst (λ (u : Tree). IsOwn m x.slot end now q tag t b u) (sym same)
        (subst (λ v. HasOwn m v end now q tag t b) slot own y cost d denotes) in
        let fits = owed_fits m d 0 0 x.slot x.tree (y, cost, d, denotes, same, omega arith) in
        let checked : IsChecked m whole (end + own_size x.tree) (below end x.tree ++ due) =
        check_on m whole x.tree x.slot end due fits (omega (arith, inside, r.ends)) r.pointed r.own c in record {
          due = below end x.tree ++ due;
          are_due = due_join m (object_children a.path q tag t b a.level) later (below end x.tree) due (r.due a.path a.level) h.3;
          before = before_join now (below end x.tree) due r.before (before_more end now due (omega (arith, r.ends)) before.1);
          checked = subst (λ n. IsChecked m whole n (below end x.tree ++ due)) (sym r.ends) checked;
        }

pub next_in_order : (m : List (List ℕ)) (seen : List (List Step)) (a : Ahead) (s w n cost end now : ℕ) → IsLookedAt m seen a s w n cost
    → IsNextInOrder m w end now → IsInOrder m end seen → IsInOrder m now (a.path ∷ seen)
next_in_order m seen a s w n cost end now l x k = record {
  one = k.one;
  few = k.few;
  inside = x.inside;
  strict = knows_on m seen a s w n cost None l not_lax k.strict;
  so_far = λ ahead trail y c d h.
      let children = object_children a.path x.q x.tag x.t x.b a.level in
      let finds : Finds m a.segment a.word x.k x.t x.b x.q =
      subst (λ v. Finds m a.segment v x.k x.t x.b x.q) (sym l.word) (subst (λ v. Finds m v w x.k x.t x.b x.q) (sym (l.segment ∙ first)) x.finds) in
      let same : children ++ l.later ≡ ahead = one_trail m (a.path ∷ seen) (children ++ l.later) ahead
      (object_trail m seen a l.later x.k x.t x.b x.q x.tag l.trail finds x.tagged) trail in
      subst (λ (u : List Ahead). IsLaidSoFar m now u (trim y)) same
      (laid_on m a l.later w end now x.q x.tag x.t x.b (trim y) l.word x.inside x.own (k.so_far (a ∷ l.later) l.trail y c d h));
}
  where
    first : s ≡ 0
    first = omega (arith, l.exists, k.one)

    not_lax : IsNotLax m s w
    not_lax = subst (λ v. IsNotLax m v w) (sym first) (near_has_none m 0 w x.word x.has x.near)

-- one segment is compared, which isn't too long
pub compared_one : (m : List (List ℕ)) (end : ℕ) (seen : List (List Step)) → IsCompared m end seen
    → (length m ≡ 1) × (length (segment_of m 0) ≤ longest_copy) × (end ≤ length (segment_of m 0))
compared_one m end seen h = search rules

-- the word looked at is one of segment 0, and has its cost there
pub next_inside : {m : List (List ℕ)} (seen : List (List Step)) (a : Ahead) {s w n cost : ℕ} (end : ℕ) → IsLookedAt m seen a s w n cost
    → IsCompared m end seen → (s ≡ 0) × (w < length (segment_of m 0)) × Costs m 0 w cost
next_inside {m} seen a {s} {w} {cost} end l k =
    let first : s ≡ 0 = omega (arith, l.exists, (compared_one m end seen k).0) in
    (first, subst (λ v. w < length (segment_of m v)) first l.inside, subst (λ v. Costs m v w cost) first l.costs)

-- So if no copy has the next object as it is, the words aren't the layout,
not_laid : (m : List (List ℕ)) (a : Ahead) (later : List Ahead) (w end : ℕ) (whole : Tree) → a.word ≡ w → NoCopyHas m w end
    → length (segment_of m 0) ≤ longest_copy → IsLaidSoFar m end (a ∷ later) whole → segment_of m 0 ≡ layout whole → ⊥
not_laid m a later w end whole e unlike few k same = go k.due k.are_due k.before k.checked
  where
    go : (due : List Due) → AreDue m (a ∷ later) due → AreBefore end due → IsChecked m whole end due → ⊥
    go [] h before checked = absurd h
    go (x ∷ due) h before checked =
        let slot : x.slot ≡ w = sym h.1 ∙ e in
        let (y, cost, deep, denotes, left, le) = h.2.1 in
        let here : Denotes m 0 w y cost deep = subst (λ v. Denotes m 0 v y cost deep) slot denotes in
        let fits = owed_fits m deep 0 0 x.slot x.tree (y, cost, deep, denotes, left, omega arith) in
        let laid = (object_laid (segment_of m 0) end x.slot x.tree due fits).0 (checked.laid.1 same) in
        let pointed : IsPointed (segment_of m 0) end w (trim y) = subst (λ v. IsPointed (segment_of m 0) end v (trim y)) slot
        (subst (λ (u : Tree). IsPointed (segment_of m 0) end x.slot u) left laid.0) in search rules

-- and the message isn't canonical.
pub not_canonical : (m : List (List ℕ)) (seen : List (List Step)) (a : Ahead) (s w n cost end : ℕ) → IsLookedAt m seen a s w n cost
    → IsInOrder m end seen → NoCopyHas m w end → ¬ IsCanonical m
not_canonical m seen a s w n cost end l k unlike (words, h, e) =
    not_laid m a l.later w end (trim h.tree) l.word unlike k.few (k.so_far (a ∷ l.later) l.trail h.tree h.charge h.depth h.denotes)
    (ap (λ u. segment_of u 0) e ∙ h.laid)

-- what a word says by itself that isn't far
says_near : (m : List (List ℕ)) (s w k word : ℕ) (r : Lead) → HasWord m s w word → kind word ≡ 3 → Leads m s w k r → Says s w word r
says_near m s w k word r has c h = search (rules, one_word)

-- a word of kind 3 that can be followed leads to a capability
leads_to_cap : (m : List (List ℕ)) (s w cost word : ℕ) → HasWord m s w word → kind word ≡ 3 → Costs m s w cost → (k i : ℕ) × Leads m s w k (to_cap i)
leads_to_cap m s w cost word has c (inl h) = search (rules, says_near, to_null)
leads_to_cap m s w cost word has c (inr (inl (i, h))) = (cost, i, h)
leads_to_cap m s w cost word has c (inr (inr (k, t, b, q, tag, f, has', e))) = search (rules, says_near, to_object)

-- A message isn't canonical after an object that no copy has as it is, or after a capability.
pub differs_here : {m : List (List ℕ)} (seen : List (List Step)) (a : Ahead) {s w n cost : ℕ} (end : ℕ) → IsLookedAt m seen a s w n cost
    → Differs m w end → IsCompared m end seen → IsNotCanonical m
differs_here seen a end l d (inr (e, k)) = k.differs
differs_here {m} seen a {s} {w} {n} {cost} end l (inr unlike) (inl k) = λ t c d h few canon. not_canonical m seen a s w n cost end l k unlike canon
differs_here {m} seen a {s} {w} {cost} end l (inl (word, has, cap)) (inl k) = λ t c d h few canon.
    let first : s ≡ 0 = omega (arith, l.exists, k.one) in
    let here : HasWord m s w word = subst (λ v. HasWord m v w word) (sym first) has in
    let lead = leads_to_cap m s w cost word here cap l.costs in
    let reached : Reaches m a.path a.level s w = rw (l.segment, l.word) at l.trail.ahead_reached.0 in
    let copy = canon.1 in
    no_cap_reached m copy.tree copy.charge copy.depth a.path a.level s w lead.0 lead.1 copy.denotes copy.no_caps reached lead.2

-- What is known of a message after that.
pub has_differed : {m : List (List ℕ)} (seen : List (List Step)) (a : Ahead) {s w n cost : ℕ} (end : ℕ) → IsLookedAt m seen a s w n cost
    → IsNotLax m s w → IsNotCanonical m → IsCompared m end seen → HasDiffered m (a.path ∷ seen)
has_differed {m} seen a {s} {w} {n} {cost} end l lax differs k =
    let inside = (next_inside seen a end l k).1 in record {
      one = (compared_one m end seen k).0;
      few = (compared_one m end seen k).1;
      some = omega (arith, inside);
      strict = knows_on m seen a s w n cost None l lax (strict k);
      differs = differs;
    }
  where
    strict : IsCompared m end seen → KnowsLax m seen None
    strict y1 = search rules

-- no reader rejects a word that the walk knows, or that isn't far
pub not_lax_word : (m : List (List ℕ)) (s w : ℕ) (lax : Bool) → (lax ≡ false → IsNotLax m s w)
    → (lax ≡ true → (word : ℕ) × HasWord m s w word × (kind word ≢ 2)) → IsNotLax m s w
not_lax_word m s w h f g = search (rules, near_has_none)

-- The walk goes on after a null word, and after an object that is as a copy has it.
pub compared_on : {m : List (List ℕ)} (seen : List (List Step)) (a : Ahead) {s w n cost : ℕ} (end now : ℕ) → IsLookedAt m seen a s w n cost
    → IsAsInCopy m w end now → IsCompared m end seen → IsCompared m now (a.path ∷ seen)
compared_on {m} seen a {s} {w} {n} {cost} end now l (inl (null, e)) k =
    let first = (next_inside seen a end l k).0 in
    let here : HasWord m s w 0 = subst (λ v. HasWord m v w 0) (sym first) null in
    let reached : Reaches m a.path a.level s w = rw (l.segment, l.word) at l.trail.ahead_reached.0 in
    subst (λ i. IsCompared m i (a.path ∷ seen)) (sym e) (null_compared m end seen a.path a.level s w reached here k)
compared_on {m} seen a {s} {w} {n} {cost} end now l (inr x) (inl k) = inl (next_in_order m seen a s w n cost end now l x k)
compared_on seen a end now l (inr x) (inr (e, k)) = absurd (omega (arith, e, x.after))

-- A message that is too long isn't canonical.
pub long_differs : (m : List (List ℕ)) → longest_copy < length (segment_of m 0) → IsNotCanonical m
long_differs m long t c d h few k = search (rules, copy_charged)

-- At first the root is due.
pub first_in_order : (m : List (List ℕ)) → length m ≡ 1 → 0 < length (segment_of m 0) → length (segment_of m 0) ≤ longest_copy → IsInOrder m 1 []
first_in_order m one some few = record {
  one = one;
  few = few;
  inside = omega (arith, some);
  strict = λ path h. absurd h;
  so_far = λ ahead trail x c d h.
      let root : Ahead = record { path = []; segment = 0; word = 0; level = 1 } in
      subst (λ (u : List Ahead). IsLaidSoFar m 1 u (trim x)) (one_trail m [] (root ∷ []) ahead (root_trail m some) trail) (record {
        due = record { slot = 0; tree = trim x } ∷ [];
        are_due = (refl, refl, (d, (x, c, d, h, refl, omega arith)), tt);
        before = (omega arith, tt);
        checked = check_first m x c d h;
      });
}

-- At the end nothing is due.
pub checked_at_end : (m : List (List ℕ)) (seen : List (List Step)) (end : ℕ) → IsTrail m seen [] → IsInOrder m end seen
    → ForTrimmed m (λ u. IsChecked m u end [])
checked_at_end m seen end trail k = λ x c d h. (let l = k.so_far [] trail x c d h in go (trim x) l.due l.are_due l.checked)
  where
    go : (u : Tree) (due : List Due) → AreDue m [] due → IsChecked m u end due → IsChecked m u end []
    go u y2 h c = search rules

one_segment : (m : List (List ℕ)) → length m ≡ 1 → m ≡ segment_of m 0 ∷ []
one_segment x1 e = grind (arith, common_steps)

-- So a message of a whole walk is its own copy exactly if the words of the copy are all that it has.
pub canonical_at_end : (m : List (List ℕ)) (seen : List (List Step)) (end : ℕ) (r : Report) (t : Tree) → IsTrail m seen [] → IsInOrder m end seen
    → IsReport m 268435456 256 r t → r.caps ≡ 0 → (end ≡ length (segment_of m 0)) ↔ IsCanonical m
canonical_at_end m seen end r t trail k report caps = (to, from)
  where
    laid : (end ≡ length (segment_of m 0)) ↔ (segment_of m 0 ≡ layout (trim t))
    laid = (checked_at_end m seen end trail k t r.charge r.depth report.within.denotes).laid

    to : end ≡ length (segment_of m 0) → IsCanonical m
    to e = search (rules, laid, one_segment)

    from : IsCanonical m → end ≡ length (segment_of m 0)
    from (words, h, e) =
        let same = one_tree m 0 0 h.tree t h.charge h.depth r.charge r.depth h.denotes report.within.denotes in
        laid.1 (ap (λ u. segment_of u 0) e ∙ (h.laid ∙ ap (λ u. layout (trim u)) same.part))

-- After a difference it isn't.
pub compared_at_end : {m : List (List ℕ)} {seen : List (List Step)} {end : ℕ} {r : Report} {t : Tree} → IsTrail m seen [] → IsCompared m end seen
    → IsReport m 268435456 256 r t → r.caps ≡ 0 → (end ≡ length (segment_of m 0)) ↔ IsCanonical m
compared_at_end {m} {seen} {end} {r} {t} trail (inl k) report caps = canonical_at_end m seen end r t trail k report caps
compared_at_end trail (inr (e, k)) report caps = search rules

-- It is strict all the same.
pub strict_compared : (m : List (List ℕ)) (words depth : ℕ) (seen : List (List Step)) (end : ℕ) (r : Report) → IsTrail m seen [] → IsCompared m end seen
    → IsAccepted m words depth r → IsStrict m words depth
strict_compared m words depth seen end r trail k a = record {
  accepted = within_of m words depth r a;
  few_segments = omega (arith, (compared_one m end seen k).0);
  none = λ path x. elim (trail.complete path x.0 x.1 x.2 x.4) [ inl one ↦ strict k path one x | inr under ↦ absurd under ];
}
  where
    strict : IsCompared m end seen → KnowsLax m seen None
    strict y1 = search rules

-- the words of pointers by their fields
pub struct_by_fields : (x : ℕ) → x < 2 ^ 64 → kind x ≡ 0 → x ≡ struct_word (middle x) (data_size x) (pointer_size x)
struct_by_fields x small k = omega (arith, small, k)

pub list_by_fields : (x : ℕ) → x < 2 ^ 64 → kind x ≡ 1 → x ≡ list_word (middle x) (code x) (list_size x)
list_by_fields x small k = omega (arith, small, k)

-- A word that leads to the end.
module _ (m : List (List ℕ)) (w word end cost : ℕ) (l : LeadsToEnd m w word end cost) where
  offset : middle word ≡ end - w - 1
  offset = omega (arith, l.next)

  -- Its object starts there.
  pub object_there : kind word < 2 → word ≢ 0
      → (tag : ℕ) × Finds m 0 w 0 0 end word × (IsComposite word → HasWord m 0 end tag) × (cost ≡ extent word + extra word tag)
  object_there low some = search (rules, near_lead, one_lead, object_parts)

  -- If it needs no tag, it takes what the word costs.
  row_there : (n : ℕ) → HasPointers word n → word ≢ 0 → Finds m 0 w 0 0 end word × (cost ≡ extent word) × (end + cost ≤ length (segment_of m 0))
  row_there n pointers some = search (rules, pointers-plain, object_there, extra_same, pointers-no_extra)

  object_of : (n : ℕ) (x : Shape) → HasPointers word n → word ≢ 0 → IsShape word 0 x → FindsObject m 0 w 0 0 end word 0 cost cost x
  object_of n x pointers some is =
      search (rules, pointers-plain word n pointers, pointers-no_extra word n pointers, row_there n pointers some)

  row_next : (n : ℕ) → HasPointers word n → word ≢ 0 → HasOwn m w end (end + cost) word 0 0 end → IsNextInOrder m w end (end + cost)
  row_next n pointers some own = search (rules, pointers-plain word n pointers, row_there n pointers some)

  -- It is a struct that costs something,
  struct_some : cost ≢ 0 → word ≢ 0
  struct_some some = search (rules, one_cost)

  pub struct_inside : kind word ≡ 0 → cost ≢ 0 → (end + data_size word + pointer_size word ≤ length (segment_of m 0)) × (end + cost ≤ length (segment_of m 0))
  struct_inside k some = search (rules, row_there, struct_some, extent_struct)

  pub struct_differs : kind word ≡ 0 → cost ≢ 0 → NeedsLess m 0 end (data_size word) (pointer_size word) → NoCopyHas m w end
  struct_differs k some less =
      no_struct m w end word cost cost
      (object_of (pointer_size word) (shape.Struct (data_size word) (pointer_size word)) (inl (k, refl)) (struct_some some)
      (record { kind = k; data_words = refl; pointers = refl })) l.has l.next less

  pub struct_next : word < 2 ^ 64 → kind word ≡ 0 → cost ≢ 0 → NeedsAll m 0 end (data_size word) (pointer_size word)
      → IsNextInOrder m w end (end + cost)
  struct_next small k some needs =
      let d = data_size word in
      let p = pointer_size word in
      let set = struct_some some in
      let pointers : HasPointers word p = inl (k, refl) in
      let words = (row_there p pointers set).1 in
      let none : ((d + p) == 0) ≡ false = ne_eqb (d + p) 0 (λ z. some (words ∙ (extent_struct word k ∙ z))) in
      let same : word ≡ (if (d + p) == 0 then 2 ^ 32 - 4 else struct_word (end - w - 1) d p) =
      rw none (struct_by_fields word small k ∙ ap (λ i. struct_word i d p) offset) in
      row_next p pointers set
      (struct_own m w end 0 0 end word 0 cost cost d p l.placed
      (object_of p (shape.Struct d p) pointers set (record { kind = k; data_words = refl; pointers = refl }))
      (subst (HasWord m 0 w) same l.has) (omega (arith, needs.data_words)) (λ ts c' d' h. omega (arith, needs.pointers ts c' d' h)))

  -- or a list,
  list_some : kind word ≡ 1 → word ≢ 0
  list_some k = λ z. (let e : kind word ≡ kind 0 = ap kind z in omega (arith, k, e))

  pub pointers_next : word < 2 ^ 64 → kind word ≡ 1 → code word ≡ 6 → IsNextInOrder m w end (end + cost)
  pointers_next small k c =
      let n = list_size word in
      let pointers : HasPointers word n = inr (inl (k, c, refl)) in
      let same : word ≡ list_word (end - w - 1) 6 n = search (rules, list_by_fields, offset) in
      row_next n pointers (list_some k)
      (pointers_own m w end 0 0 end word 0 cost cost n l.placed
      (object_of n (shape.Pointers n) pointers (list_some k) (record { kind = k; code = c; count = refl })) (subst (HasWord m 0 w) same l.has))

  -- or of structs, whose tag is there,
  pub structs_there : kind word ≡ 1 → code word ≡ 7
      → (tag : ℕ) × HasWord m 0 end tag × (kind tag ≡ 0) × (end + 1 + list_size word ≤ length (segment_of m 0))
      × (middle tag * (data_size tag + pointer_size tag) ≤ list_size word)
  structs_there k c = search (rules, object_there, list_some, extent_structs)

  pub values_next : word < 2 ^ 64 → kind word ≡ 1 → 0 < code word → code word < 6
      → HasWordsAt (segment_of m 0) end (scalar_words (code word) (values_of m 0 end (code word) (list_size word))) → IsNextInOrder m w end (end + cost)
  values_next small k some few lie =
      let c = code word in
      let n = list_size word in
      let pointers : HasPointers word 0 = inr (inr (k, some, few, refl)) in
      let same : word ≡ list_word (end - w - 1) c n = list_by_fields word small k ∙ ap (λ i. list_word i c n) offset in
      row_next 0 pointers (list_some k)
      (values_own m w end 0 0 end word 0 cost cost c n l.placed
      (object_of 0 (shape.Scalars c n) pointers (list_some k) (record { kind = k; code = refl; scalar = few; count = refl }))
      (subst (HasWord m 0 w) same l.has) lie)
