-- An output in whose lines marks are put, from its begin to its end.
use Rattle.std.proofs.Common.{List, None, Option, Some, [], ap, refl, subst, sym, take, ℕ, ◌++◌, ◌∙◌, ◌≡◌}
use Rattle.std.specs.Io.KnownBytes.{Appends}
use Rattle.cap_cmd.specs.Files.{PutsMarks}
use Rattle.cap_cmd.specs.Marked.{IsFresh, mark_part, marked_out, shown_by}
use Rattle.cap_cmd.specs.Marking.{mark_name, marked_text, shown_text}
use Rattle.cap_cmd.proofs.Marking.{final_text, marked_lines, shown_empty}
use Rattle.cap_cmd.specs.declared.marked.MarkedLines.{MarkedLines}
use Rattle.cap_words.specs.declared.byte_io.ByteOut as output

module _ {O : Type 0} (go : output.Ghosts O) where
  -- what the output has at the end, if it was empty
  pub ends_marked : (begun ended : MarkedLines O) (before : O) (mark : List ℕ) (place : ℕ) → marked_out begun ≡ before
      → IsFresh begun mark place → (text : List ℕ) → go.written before ≡ Some []
      → Appends (shown_by go begun) (shown_by go ended) text
      → go.written (marked_out ended) ≡ Some (marked_text place mark text ++ take (mark_part ended) mark)
  ends_marked begun ended before mark place out fresh text empty grown = of (go.written ended.out) refl
    where
      start : shown_by go begun ≡ shown_text place mark 0 0 (Some [])
      start = ap (λ (n : ℕ). shown_text n begun.mark.items begun.column begun.done (go.written begun.out)) fresh.place_is
          ∙ ap (λ (l : List ℕ). shown_text place l begun.column begun.done (go.written begun.out)) fresh.mark_is
          ∙ ap (λ (n : ℕ). shown_text place mark n begun.done (go.written begun.out)) fresh.column_is
          ∙ ap (λ (n : ℕ). shown_text place mark 0 n (go.written begun.out)) fresh.done_is
          ∙ ap (λ (o : O). shown_text place mark 0 0 (go.written o)) out
          ∙ ap (λ (o : Option (List ℕ)). shown_text place mark 0 0 o) empty

      given : Appends (shown_text place mark 0 0 (Some [])) (shown_by go ended) text
      given = subst (λ (o : Option (List ℕ)). Appends o (shown_by go ended) text) start grown

      named : shown_text place mark 0 0 (Some []) ≡ Some (mark_name place mark)
      named = shown_empty place mark

      of : (o : Option (List ℕ)) → go.written ended.out ≡ o
          → go.written ended.out ≡ Some (marked_text place mark text ++ take ended.done mark)
      of None e = absurd (subst (λ (o : Option (List ℕ)). Appends o None text) named
          (subst (λ (o : Option (List ℕ)). Appends (shown_text place mark 0 0 (Some [])) (shown_text ended.place ended.mark.items ended.column ended.done o) text) e given))
      of (Some bytes) e = e ∙ ap Some (final_text place mark ended.place ended.mark.items ended.column ended.done bytes text
          (subst (λ (o : Option (List ℕ)). Appends (shown_text place mark 0 0 (Some [])) (shown_text ended.place ended.mark.items ended.column ended.done o) text) e given)
          ∙ ap (λ (l : List ℕ). l ++ take ended.done mark) (marked_lines place mark text))

  -- an engine ran over it
  abbrev pub puts_marks : (gm : output.Ghosts (MarkedLines O)) → ((s : MarkedLines O) → gm.written s ≡ shown_by go s)
      → ((s : MarkedLines O) → gm.failures s ≡ go.failures (marked_out s)) → ((s : MarkedLines O) → gm.broken s ≡ go.broken (marked_out s))
      → (place : ℕ) (mark : List ℕ) (before after : O) (begun ended : MarkedLines O) → marked_out begun ≡ before → after ≡ marked_out ended
      → IsFresh begun mark place → PutsMarks go gm place mark before after begun ended
  puts_marks gm written failures broken place mark before after begun ended out back fresh = record {
    broken = broken begun ∙ ap go.broken out;
    failures = failures begun ∙ ap go.failures out;
    broken_after = broken ended ∙ ap go.broken (sym back);
    failures_after = failures ended ∙ ap go.failures (sym back);
    part = mark_part ended;
    texts = λ text empty grown. ap go.written back ∙ ends_marked begun ended before mark place out fresh text empty
        (subst (λ (o : Option (List ℕ)). Appends (shown_by go begun) o text) (written ended)
        (subst (λ (o : Option (List ℕ)). Appends o (gm.written ended) text) (written begun) grown));
  }
