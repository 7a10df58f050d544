-- The sizes of a message's segments one by one, and the text that they make.
use Rattle.cap_spec.proofs.ProofNames.{List, add-one, ap, codes, drop, drop-cons, get_or, length, refl, subst, ℕ, ◌++◌}
use Rattle.cap_spec.proofs.ProofNames.{◌+◌, ◌<◌, ◌∷◌, ◌≡◌, line, outline_text, segment_lines, segments_text, then_number}
use Rattle.cap_frame.specs.Outlines.{Outlines, root_in, sizes_in}
use Rattle.cap_frame.specs.declared.outline.Outline.{Outline}
use Rattle.cap_text.specs.Paging.{Added}
use Rattle.cap_text.proofs.Paging.{Left, left_step}
use Rattle.cap_words.specs.declared.byte_io.ByteOut as output

-- the sizes from the next one on
pub drop_size : (ns : List ℕ) (s : ℕ) → s < length ns → drop s ns ≡ get_or ns s 0 ∷ drop (s + 1) ns
drop_size ns s h = rw (add-one, drop-cons ns s 0 h) refl

-- the lines of the sizes from the next one on
pub lines_from : (ns : List ℕ) (s : ℕ) → s < length ns
    → segment_lines s (drop s ns) ≡ line 0 (codes "segment" ++ then_number s ++ 58 ∷ then_number (get_or ns s 0)) ++ segment_lines (s + 1) (drop (s + 1) ns)
lines_from ns s h = ap (segment_lines s) (drop_size ns s h)

-- the text of an outline is that of the message
pub text_of_outline : (n : ℕ) (outline : Outline) (m : List (List ℕ)) → Outlines outline m
    → outline_text n (sizes_in outline) (root_in outline) ≡ segments_text n m
text_of_outline n outline m o = rw (o.sizes, o.root) refl

module _ {O : Type 0} (g : output.Ghosts O) where
  -- one more line is put
  pub lines_step : (a b c : O × List ℕ) (ns : List ℕ) (s : ℕ) → s < length ns
      → Left g a b (segment_lines 0 ns) (segment_lines s (drop s ns))
      → Added g b c (line 0 (codes "segment" ++ then_number s ++ 58 ∷ then_number (get_or ns s 0)))
      → Left g a c (segment_lines 0 ns) (segment_lines (s + 1) (drop (s + 1) ns))
  lines_step a b c ns s h l w =
      left_step g a b c (segment_lines 0 ns)
      (line 0 (codes "segment" ++ then_number s ++ 58 ∷ then_number (get_or ns s 0)))
      (segment_lines (s + 1) (drop (s + 1) ns))
      (subst (Left g a b (segment_lines 0 ns)) (lines_from ns s h) l) w
