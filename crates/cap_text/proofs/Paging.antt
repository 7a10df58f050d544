-- Texts that are put on a page one after the other.
use Rattle.cap_spec.proofs.ProofNames.{rules, arith, common_steps}
use Rattle.std.proofs.Common.{List, Result, [], append-nil, append_assoc, inl, inr, refl, subst, sym, ℕ}
use Rattle.std.proofs.Common.{◌++◌, ◌∙◌, ◌≡◌, ◌⊎◌}
use Rattle.cap_text.specs.TextNames.{OutFault, Added, Adds, Halted, Stopped, Writes, Wrote}
use Rattle.cap_text.proofs.Writing.{stopped_more, stopped_then, writes_then, wrote_then}
use Rattle.cap_words.specs.declared.byte_io.ByteOut as output

module _ {O : Type 0} (g : output.Ghosts O) where
  -- nothing went out, or this text
  abbrev Gone : O → O → List ℕ → Type 0
  Gone a b xs = ((b ≡ a) × (xs ≡ [])) ⊎ Wrote g a b xs

  gone_then : (a b c : O) (xs ys : List ℕ) → Gone a b xs → Gone b c ys → Gone a c (xs ++ ys)
  gone_then a b c xs ys x6 x7 = search (rules, append-nil, wrote_then)

  -- a text that is on the page alone
  pub added_here : (a : O × List ℕ) (now text : List ℕ) → now ≡ a.1 ++ text → Added g a (a.0, now) text
  added_here a now text e = record { gone = []; whole = sym e; out = inl (refl, refl) }

  -- one text, and then another
  pub added_then : (a b c : O × List ℕ) (xs ys : List ℕ) → Added g a b xs → Added g b c ys → Added g a c (xs ++ ys)
  added_then a b c xs ys p q = search (rules, append_assoc a.1 xs ys, append_assoc p.gone b.1 ys, append_assoc p.gone q.gone c.1, gone_then a.0 b.0 c.0 p.gone q.gone p.out q.out)

  -- a line after what made capacity for it
  pub added_line : (a b : O × List ℕ) (now text : List ℕ) → Added g a b [] → now ≡ b.1 ++ text → Added g a (b.0, now) text
  added_line a b now text p e = added_then a b (b.0, now) [] text p (added_here b now text e)

  halted_after : (a b c : O) (fault : OutFault) (held now gone xs ys : List ℕ) → held ++ xs ≡ gone ++ now → Gone a b gone → Stopped g b c fault (now ++ ys)
      → Stopped g a c fault (held ++ (xs ++ ys))
  halted_after a b c fault held now gone xs ys e x11 q = search (rules, append_assoc, stopped_then)

  -- one text, and then a fault in another
  pub halted_then : (a b c : O × List ℕ) (fault : OutFault) (xs ys : List ℕ) → Added g a b xs → Halted g b c fault ys → Halted g a c fault (xs ++ ys)
  halted_then a b c fault xs ys p q = halted_after a.0 b.0 c.0 fault a.1 b.1 p.gone xs ys p.whole p.out q

  -- a fault in the first text is one in both
  pub halted_more : (a b : O × List ℕ) (fault : OutFault) (xs ys : List ℕ) → Halted g a b fault xs → Halted g a b fault (xs ++ ys)
  halted_more a b fault xs ys q = search (rules, append_assoc, stopped_more)

  -- one text, and then another or a fault in it
  pub adds_then : {T : Type 0} (a b c : O × List ℕ) (r : Result T OutFault) (xs ys : List ℕ) → Added g a b xs → Adds g b c r ys → Adds g a c r (xs ++ ys)
  adds_then a b c r xs ys p q = grind (arith, common_steps, added_then, halted_then)

  -- what was put so far, and the rest, are the whole text
  pub record Left (a b : O × List ℕ) (all rest : List ℕ) : Type 0 where
    pub part : List ℕ
    pub whole : all ≡ part ++ rest
    pub added : Added g a b part

  pub left_start : (a : O × List ℕ) (all : List ℕ) → Left a a all all
  left_start a all = record { part = []; whole = refl; added = added_here a a.1 [] (sym (append-nil a.1)) }

  pub left_step : (a b c : O × List ℕ) (all xs rest : List ℕ) → Left a b all (xs ++ rest) → Added g b c xs → Left a c all rest
  left_step a b c all xs rest l w = search (rules, append_assoc l.part xs rest, added_then a b c l.part xs l.added w)

  pub left_done : (a b : O × List ℕ) (all : List ℕ) → Left a b all [] → Added g a b all
  left_done a b all l = let e : all ≡ l.part = l.whole ∙ append-nil l.part in subst (Added g a b) (sym e) l.added

  pub left_stop : (a b c : O × List ℕ) (fault : OutFault) (all xs rest : List ℕ) → Left a b all (xs ++ rest) → Halted g b c fault xs → Halted g a c fault all
  left_stop a b c fault all xs rest l q =
      subst (Halted g a c fault) (sym l.whole) (halted_then a b c fault l.part (xs ++ rest) l.added (halted_more b c fault xs rest q))

  -- what was on a page went out, and it is empty
  pub turned : (a b : O) (held : List ℕ) → Wrote g a b held → Added g (a, held) (b, []) []
  turned a b held w = record { gone = held; whole = refl; out = inr w }

  gone_out : {T : Type 0} (a b c : O) (r : Result T OutFault) (all gone now : List ℕ) → all ≡ gone ++ now
      → Gone a b gone → Writes g b c r now → Writes g a c r all
  gone_out a b c r all gone now e x9 w = search (rules, writes_then)

  -- or it is written
  pub page_out : {T : Type 0} (a b c : O) (r : Result T OutFault) (held now text : List ℕ)
      → Added g (a, held) (b, now) text → Writes g b c r now → Writes g a c r (held ++ text)
  page_out a b c r held now text p w = gone_out a b c r (held ++ text) p.gone now p.whole p.out w
