-- The sentences of explain, of which JSON escapes nothing.
use Rattle.std.proofs.Common.{Bool, List, [], refl, subst, sym, true, ℕ, ◌&&◌, ◌==◌, ◌∷◌, ◌≡◌}
use Rattle.std.proofs.lemmas.Bool.{and_parts, eqb-false, ltb-false, not-true, or_parts}
use Rattle.json.specs.Run.{is_plain, is_stop}
use Rattle.cap_explain.specs.Meanings.{IsTrue, begins_before, capability_pad, composite_overrun, composite_tag, deep_structs, deep_target, empty_segment}
use Rattle.cap_explain.specs.Meanings.{many_segments, no_root, null_pad, overlaps, pad_is_far, pad_names_missing, pad_not_far, pad_outside, past_charge}
use Rattle.cap_explain.specs.Meanings.{pointer_names_missing, reserved_pad, reserved_pointer, runs_past, tag_kind, tag_offset}
use Rattle.cap_difference.specs.declared.reason.DifferenceReason.{DifferenceReason}
use Rattle.cap_difference.specs.declared.reason.DifferenceReason.TheVariants as reason
use Rattle.cap_explain.specs.Sentences.{difference_sentence}
use Rattle.cap_json_laws.proofs.Escapes.{IsPlain}

abbrev are_plain : List ℕ → Bool
are_plain [] = true
are_plain (b ∷ bytes) = is_plain b && are_plain bytes

plain_text : (text : List ℕ) → are_plain text ≡ true → IsPlain text
plain_text [] h = tt
plain_text (b ∷ bytes) h =
    let parts = and_parts (is_plain b) (are_plain bytes) h in
    let none = or_parts _ _ (not-true (is_stop b) parts.0) in
    let tests = or_parts (b == 34) _ none.0 in
    ((ltb-false b 32 none.1, eqb-false b 34 tests.0, eqb-false b 92 tests.1), plain_text bytes parts.1)

said : {sentence text : List ℕ} → sentence ≡ text → are_plain text ≡ true → IsPlain sentence
said {text = text} same h = subst IsPlain (sym same) (plain_text text h)

pub true_plain : (m : List (List ℕ)) (words depth s w : ℕ) (sentence : List ℕ) → IsTrue m words depth s w sentence → IsPlain sentence
true_plain m words depth s w sentence (no_root e a) = said e refl
true_plain m words depth s w sentence (reserved_pointer e p a b) = said e refl
true_plain m words depth s w sentence (reserved_pad e p q a b c d) = said e refl
true_plain m words depth s w sentence (pointer_names_missing e p a b c) = said e refl
true_plain m words depth s w sentence (pad_names_missing e p f a b c d g) = said e refl
true_plain m words depth s w sentence (pad_outside e p a b c) = said e refl
true_plain m words depth s w sentence (pad_is_far e p q a b c d) = said e refl
true_plain m words depth s w sentence (pad_not_far e p f a b c d) = said e refl
true_plain m words depth s w sentence (tag_kind e p q a b c d) = said e refl
true_plain m words depth s w sentence (tag_offset e p q a b c d) = said e refl
true_plain m words depth s w sentence (begins_before e k t b q l a c) = said e refl
true_plain m words depth s w sentence (runs_past e k t b q l a c) = said e refl
true_plain m words depth s w sentence (composite_tag e k t b q tag a c d f) = said e refl
true_plain m words depth s w sentence (composite_overrun e k t b q tag a c d f) = said e refl
true_plain m words depth s w sentence (deep_target e path level k t b q a c d) = said e refl
true_plain m words depth s w sentence (deep_structs e path level k t b q tag a c d f g) = said e refl
true_plain m words depth s w sentence (past_charge e r f cost a b c d) = said e refl
true_plain m words depth s w sentence (many_segments e a) = said e refl
true_plain m words depth s w sentence (null_pad e p a b c) = said e refl
true_plain m words depth s w sentence (empty_segment e k t b q a c) = said e refl
true_plain m words depth s w sentence (capability_pad e p q a b c d) = said e refl
true_plain m words depth s w sentence (overlaps e path number a b) = said e refl

-- so are the sentences of differences
pub difference_plain : (r : DifferenceReason) → IsPlain (difference_sentence r)
difference_plain reason.Segments = plain_text (difference_sentence reason.Segments) refl
difference_plain reason.Far = plain_text (difference_sentence reason.Far) refl
difference_plain reason.Capability = plain_text (difference_sentence reason.Capability) refl
difference_plain reason.EmptyStruct = plain_text (difference_sentence reason.EmptyStruct) refl
difference_plain reason.Place = plain_text (difference_sentence reason.Place) refl
difference_plain reason.Bits = plain_text (difference_sentence reason.Bits) refl
difference_plain reason.EmptyList = plain_text (difference_sentence reason.EmptyList) refl
difference_plain reason.Surplus = plain_text (difference_sentence reason.Surplus) refl
difference_plain reason.DataZero = plain_text (difference_sentence reason.DataZero) refl
difference_plain reason.PointerNull = plain_text (difference_sentence reason.PointerNull) refl
difference_plain reason.Trailing = plain_text (difference_sentence reason.Trailing) refl
