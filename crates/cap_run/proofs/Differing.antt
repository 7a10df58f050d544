-- The first difference of a message from its canonical copy: the path to the pointer that differs, and what is written of it.
use Rattle.cap_spec.specs.declared.Kind.{Kind}
use Rattle.cap_spec.specs.declared.Kind.TheVariants.{Pointers, Scalars, Struct, Structs}
use Rattle.cap_spec.specs.declared.Step.{Step}
use Rattle.cap_spec.specs.declared.StrictRefusal.{StrictRefusal}
use Rattle.cap_spec.proofs.ProofNames.{Err, IfSome, IsCanonical, IsWithin, List, None, Ok, Option, Some, [], ap, append_assoc}
use Rattle.cap_spec.proofs.ProofNames.{arith, inl, inr, most_depth, refl, rules, same_Some, subst, sym, true}
use Rattle.cap_spec.proofs.ProofNames.{ℕ, ◌++◌, ◌<◌, ◌∙◌, ◌≡◌, ◌≢◌, ◌↔◌}
use Rattle.cap_difference.specs.Differences.{FirstDifference}
use Rattle.cap_difference.specs.Reasons.{ObjectDiffers, PointerDiffers, bits_after, empty_list, empty_struct, in_object, is_capability}
use Rattle.cap_difference.specs.Reasons.{is_far, pointers_place, difference_rank, struct_null, struct_place, struct_zero, structs_null, structs_place}
use Rattle.cap_difference.specs.Reasons.{structs_zero, surplus, values_place}
use Rattle.cap_difference.specs.declared.difference.Difference.{Difference}
use Rattle.cap_difference.specs.declared.reason.DifferenceReason.{DifferenceReason}
use Rattle.cap_difference.specs.declared.reason.DifferenceReason.TheVariants as reason
use Rattle.cap_explain.proofs.Reasons.{true_reason}
use Rattle.cap_explain.specs.Explaining.{difference_explanation}
use Rattle.cap_explain.specs.declared.numbers.MessageStart.{MessageStart}
use Rattle.cap_trace.specs.NamedPaths.{IsTraced}
use Rattle.cap_trace.specs.PointerNumbers.{IsTraceable}
use Rattle.cap_trace.proofs.Named.{none_traced}
use Rattle.cap_trace.proofs.Sharing.{traced_is}
use Rattle.cap_trace.proofs.Traceable.{accepted_passable}
use Rattle.cap_text.specs.DifferenceLines.{canonical_members}
use Rattle.cap_explain.specs.Sentences.{difference_sentence}
use Rattle.cap_run.specs.Differing.{IsDifference, OrDifference, counted_by, difference_lines}
use Rattle.cap_run.specs.Differing.{difference_members, difference_path, explained_lines, number_by}
use Rattle.cap_run.specs.Explained.{RefusedByFilter, filter_demands}
use Rattle.cap_run.specs.ExplainedJson.{FaultReason, IsMember}
use Rattle.cap_run.specs.Running.{WritesOneOf}
use Rattle.cap_text.proofs.Writing.{stopped_more}
use Rattle.cap_text.specs.Writing.{Stopped}
use Rattle.cap_text.specs.declared.fault.Cause.{Cause}
use Rattle.cap_text.specs.declared.fault.Cause.TheVariants.{Output}
use Rattle.cap_run.specs.declared.engines.stream.Counted.{Counted}
use Rattle.cap_run.specs.declared.engines.stream.Counted.TheVariants.{Accepted, NotCanonical, Refused}
use Rattle.cap_words.specs.declared.byte_io.OutFault.{OutFault}
use Rattle.cap_words.specs.declared.byte_io.ByteOut as output

-- the reasons of pointers come before that of words after all objects
object_rank : (m : List (List ℕ)) (end p t b q : ℕ) (what : Kind) (v : DifferenceReason) → ObjectDiffers m end p t b q what v → difference_rank v < 10
object_rank m end p t b q (Struct ds ps) v (empty_struct e h k) = let r = ap difference_rank e in omega (arith, r)
object_rank m end p t b q (Struct ds ps) v (struct_place e h k) = let r = ap difference_rank e in omega (arith, r)
object_rank m end p t b q (Struct ds ps) v (struct_zero e h) = let r = ap difference_rank e in omega (arith, r)
object_rank m end p t b q (Struct ds ps) v (struct_null e h) = let r = ap difference_rank e in omega (arith, r)
object_rank m end p t b q (Scalars c n) v (values_place e h) = let r = ap difference_rank e in omega (arith, r)
object_rank m end p t b q (Scalars c n) v (bits_after e h) = let r = ap difference_rank e in omega (arith, r)
object_rank m end p t b q (Pointers n) v (pointers_place e h) = let r = ap difference_rank e in omega (arith, r)
object_rank m end p t b q (Structs n ds ps) v (structs_place e h) = let r = ap difference_rank e in omega (arith, r)
object_rank m end p t b q (Structs n ds ps) v (empty_list e h k) = let r = ap difference_rank e in omega (arith, r)
object_rank m end p t b q (Structs n ds ps) v (surplus e h) = let r = ap difference_rank e in omega (arith, r)
object_rank m end p t b q (Structs n ds ps) v (structs_zero e h k) = let r = ap difference_rank e in omega (arith, r)
object_rank m end p t b q (Structs n ds ps) v (structs_null e h k) = let r = ap difference_rank e in omega (arith, r)
object_rank m end p t b q what v h = search rules

pointer_rank : (m : List (List ℕ)) (s w end : ℕ) (v : DifferenceReason) → PointerDiffers m s w end v → difference_rank v < 10
pointer_rank m s w end v (is_far e p has far) = let r = ap difference_rank e in omega (arith, r)
pointer_rank m s w end v (is_capability e k i leads) = let r = ap difference_rank e in omega (arith, r)
pointer_rank m s w end v (in_object p k t b q tag what has found h) = object_rank m end p t b q what v h

-- so a pointer that differs has its number
numbered_by : (v : DifferenceReason) (n : ℕ) → difference_rank v < 10 → number_by v n ≡ n
numbered_by reason.Segments n h = refl
numbered_by reason.Far n h = refl
numbered_by reason.Capability n h = refl
numbered_by reason.EmptyStruct n h = refl
numbered_by reason.Place n h = refl
numbered_by reason.Bits n h = refl
numbered_by reason.EmptyList n h = refl
numbered_by reason.Surplus n h = refl
numbered_by reason.DataZero n h = refl
numbered_by reason.PointerNull n h = refl
numbered_by reason.Trailing n h = absurd (omega (arith, h))

-- There is no path for another number of segments,
segments_number : (v : DifferenceReason) (n : ℕ) → n ≡ 0 → number_by v n ≡ 0
segments_number reason.Segments n e = e
segments_number reason.Far n e = e
segments_number reason.Capability n e = e
segments_number reason.EmptyStruct n e = e
segments_number reason.Place n e = e
segments_number reason.Bits n e = e
segments_number reason.EmptyList n e = e
segments_number reason.Surplus n e = e
segments_number reason.DataZero n e = e
segments_number reason.PointerNull n e = e
segments_number reason.Trailing n e = refl

-- or for words after all objects.
trailing_number : (v : DifferenceReason) (n : ℕ) → v ≡ reason.Trailing → number_by v n ≡ 0
trailing_number v n e = ap (λ (u : DifferenceReason). number_by u n) e

-- What is found by the number of a difference is the path to its pointer.
pub difference_named : (m : List (List ℕ)) (words : ℕ) (d : Difference) (found : Option (List Step)) → IsWithin m words most_depth
    → IsTraced m most_depth (number_by d.reason d.pointers) found → (h : FirstDifference m d) → found ≡ difference_path m d h
difference_named m words d found a t (inl other) =
    none_traced m most_depth (number_by d.reason d.pointers) found (segments_number d.reason d.pointers other.pointers) t
difference_named m words d found a t (inr (inl at)) =
    let same = numbered_by d.reason d.pointers (pointer_rank m d.segment d.word at.first.end d.reason at.first.differs.holds) in
    let traceable : IsTraceable m most_depth d.pointers at.first.path = record {
      segment = d.segment;
      at = d.word;
      numbered = at.first.numbered;
      passable = λ q b. accepted_passable m words most_depth a q;
    } in traced_is m most_depth d.pointers at.first.path found (subst (λ (n : ℕ). IsTraced m most_depth n found) same t) traceable
difference_named m words d found a t (inr (inr after)) =
    none_traced m most_depth (number_by d.reason d.pointers) found (trailing_number d.reason d.pointers after.reason) t

-- The lines by the first difference: there are none,
pub none_explained : (m : List (List ℕ)) (start : MessageStart) (r : Option Difference) (h : IsDifference m r) → r ≡ None
    → explained_lines m start r h ≡ []
none_explained m start None h e = refl
none_explained m start (Some d) h e = absurd (search rules)

-- or these.
pub some_explained : (m : List (List ℕ)) (start : MessageStart) (r : Option Difference) (h : IsDifference m r) (d : Difference) → r ≡ Some d
    → (k : FirstDifference m d) × (explained_lines m start r h ≡ difference_explanation (difference_path m d k) m (Some start) d)
some_explained m start None h d e = absurd (search rules)
some_explained m start (Some own) h d e =
    subst (λ (x : Difference). (k : FirstDifference m x) × (explained_lines m start (Some own) h
    ≡ difference_explanation (difference_path m x k) m (Some start) x)) (same_Some own d e) (h, refl)

-- what the search for the first difference found
pub difference_found : (m : List (List ℕ)) (r : Option Difference) → IfSome r (FirstDifference m) → (r ≡ None) ↔ IsCanonical m
    → IsDifference m r
difference_found m None some none = none.0 refl
difference_found m (Some d) some none = some

-- The members by the first difference: that there is none,
pub none_members : (m : List (List ℕ)) (r : Option Difference) (h : IsDifference m r) → r ≡ None
    → canonical_members r None [] ≡ difference_members m r h
none_members m None h e = refl
none_members m (Some d) h e = absurd (search rules)

-- or its path and its sentence.
pub some_members : (m : List (List ℕ)) (r : Option Difference) (h : IsDifference m r) (d : Difference) → r ≡ Some d
    → (k : FirstDifference m d) × (canonical_members r (difference_path m d k) (difference_sentence d.reason) ≡ difference_members m r h)
some_members m None h d e = absurd (search rules)
some_members m (Some own) h d e =
    subst (λ (x : Difference). (k : FirstDifference m x)
    × (canonical_members (Some own) (difference_path m x k) (difference_sentence x.reason) ≡ difference_members m (Some own) h))
    (same_Some own d e) (h, refl)

-- the member by why filter, the guard and the libraries refuse a message, if they do
pub some_member : (m : List (List ℕ)) (words depth : ℕ) (r : Option StrictRefusal) → RefusedByFilter m words depth r
    → (member : List ℕ) × IsMember words depth m member
some_member m words depth None h = ([], inl (h, refl))
some_member m words depth (Some fault) h =
    let reason : FaultReason filter_demands m words depth fault = true_reason filter_demands m words depth fault [] _ h in
    (_, inr (record { fault = fault; is_fault = h; reason = reason; text = refl }))

-- the end of an object comes after its start
pub joined : (start members member end : List ℕ) → (start ++ members) ++ (member ++ end) ≡ (start ++ (members ++ member)) ++ end
joined start members member end =
    sym (append_assoc (start ++ members) member end) ∙ ap (λ (l : List ℕ). l ++ end) (append_assoc start members member)

module _ {O : Type 0} (g : output.Ghosts O) (start : MessageStart) (n : ℕ) (m : List (List ℕ)) (texts : List ℕ → Counted → Type 0)
    (allocates : Type 0) (found : Option Difference) (h : IsDifference m found) where
  -- the text of an accepted message, and what comes after it
  pub with_difference : (first : List ℕ) → texts first Accepted
      → OrDifference true start n m texts (first ++ difference_lines m n start found h) (counted_by found)
  with_difference first t =
      inr (record { first = first; is_first = t; found = found; is_found = h; lines = refl; counts = refl })

  -- Nothing comes after another text,
  pub no_difference : (old new : O) (counted : Counted) → counted ≢ Accepted → WritesOneOf g texts allocates old new (Ok counted)
      → WritesOneOf g (OrDifference true start n m texts) allocates old new (Ok counted)
  no_difference old new counted other (text, t, w) = (text, inl (t, other), w)

  -- or after a part of a text.
  part_stops : (old new : O) (fault : OutFault) (text : List ℕ) (counted : Counted) → texts text counted → Stopped g old new fault text
      → WritesOneOf g (OrDifference true start n m texts) allocates old new (Err (Output fault))
  part_stops old new fault text Accepted t s =
      let more = difference_lines m n start found h in
      (text ++ more, counted_by found, with_difference text t, stopped_more g old new fault text more s)
  part_stops old new fault text Refused t s = (text, Refused, inl (t, λ e. (cc)), s)
  part_stops old new fault text NotCanonical t s = (text, NotCanonical, inl (t, λ e. (cc)), s)

  pub difference_stops : (old new : O) (cause : Cause) → WritesOneOf g texts allocates old new (Err cause)
      → WritesOneOf g (OrDifference true start n m texts) allocates old new (Err cause)
  difference_stops old new (Output fault) (text, counted, t, s) = part_stops old new fault text counted t s
  difference_stops old new cause w = w
