-- Why a pointer word alone describes its object.
use Rattle.cap_spec.proofs.Frames.Messages.{HasWord-segment}
use Rattle.cap_spec.proofs.ProofNames.{List, arith, length, ne_eqb, pos, ℕ, ◌*◌, ◌+ℤ◌, ◌+◌}
use Rattle.cap_spec.proofs.ProofNames.{◌/◌, ◌^◌, ◌≡◌, ◌≢◌, ◌≤◌, eqb_tells, extra, HasWord, segment_of}
use Rattle.cap_spec.proofs.ProofNames.{element_bits, extent, list_words, signed_offset_of, rules}
use Rattle.cap_spec.proofs.Trees.Charges.{extra_pointers, extra_struct}
use Rattle.cap_ptr.specs.Rows.{FindsRow, HasPointers}
use Rattle.cap_ptr.specs.Shapes.{FindsTarget, IsPlain, IsShape}
use Rattle.cap_ptr.specs.declared.near.Row.{Row}
use Rattle.cap_ptr.specs.declared.shapes.Shape.{Shape}
use Rattle.cap_ptr.proofs.Pads.{object-lead, lies-near}

-- a word that describes its object alone has no tag,
pub pointers-plain : (q n : ℕ) → HasPointers q n → IsPlain q
pointers-plain q n x3 = search rules

-- and its object is charged its words alone
pub pointers-no_extra : (q n : ℕ) → HasPointers q n → extra q 0 ≡ 0
pointers-no_extra q n x3 = search (rules, extra_struct, extra_pointers, ne_eqb)

-- that object is found,
pub row_found : (m : List (List ℕ)) (s w q : ℕ) (r : Row) → HasWord m s w q → q ≢ 0
    → pos r.start ≡ pos (w + 1) +ℤ signed_offset_of q
    → HasPointers q r.pointer_count → r.words ≡ extent q → r.words ≤ 2 ^ 29 → r.pointers_start + r.pointer_count ≡ r.start + r.words
    → r.start + r.words ≤ length (segment_of m s) → FindsRow m s w q r
row_found m s w q r has some start_is pointers words few last inside =
    let plain = pointers-plain q r.pointer_count pointers in
    record {
      finds = record {
        leads = object-lead m s w 0 s w q (pos r.start) (lies-near m s w q has (λ e. omega (arith, plain.0, e))) plain.0 some
            start_is;
        inside = record { exists = HasWord-segment m s w q has; inside = omega (arith, words, inside); composite = λ c. absurd (plain.1 c.0 c.1) };
      };
      words = words;
      few = few;
      pointers = pointers;
      pointers_last = last;
    }

-- as a target
pub row_target : (m : List (List ℕ)) (s w q : ℕ) (r : Row) (x : Shape) → FindsRow m s w q r → IsShape q 0 x
    → FindsTarget m s w record { segment = s; start = r.start; words = r.words; pads = 0; charge = r.words; shape = x }
row_target m s w q r x f shape = search (rules, pointers-plain, pointers-no_extra)

-- The words of a list without a tag are those of its elements' bits.
pub bits_words : (c size bits : ℕ) → bits ≡ element_bits c → (bits * size + 63) / 64 ≡ list_words c size
bits_words c size bits e = search (rules, eqb_tells)

-- A list has no more words than elements.
pub few_words : (bits size : ℕ) → bits ≤ 64 → (bits * size + 63) / 64 ≤ size
few_words bits size h = grind arith
