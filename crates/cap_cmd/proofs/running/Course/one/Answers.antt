use Rattle.std.proofs.Common.{List, Option, [], ap, option_map, refl, subst, sym, unwrap_or, ℕ, ◌∙◌, ◌≡◌}
use Rattle.std.specs.Prelude.{OnSome}
use Rattle.cap_spec.specs.Plain.{plain_ends, plain_is_cut, plain_words}
use Rattle.cap_cmd.proofs.running.Course.one.Goals as goal

at_places : (places : List ℕ) (a b : Option (List ℕ)) → a ≡ b → OnSome a (places ≡ plain_ends 0 (unwrap_or a []))
    → OnSome b (places ≡ plain_ends 0 (unwrap_or b []))
at_places places a b same h = subst (λ known. OnSome known (places ≡ plain_ends 0 (unwrap_or known []))) same h

pub returns-in-Ok-Some : goal.returns-in-Ok-Some
returns-in-Ok-Some g c =
    let bytes = c.new.ensures.to_come ∙ sym c.bytes.ensures in
    record {
      mid = c.read_single.new.source;
      last = c.end_one.new.source;
      answer = c.read_single.result;
      reads = c.read_single.ensures;
      does = rw (c.in-Ok-Some.is, c.in-Ok-Some.field-0-is) (
        c.new-words.result,
        c.under-status.new.err,
        c.under-status.result.0,
        record {
          words = c.new-words.ensures.words ∙ ap (option_map plain_words) bytes;
          is_cut = c.new-words.ensures.is_cut ∙ ap (λ known. plain_is_cut (unwrap_or known [])) bytes;
          places = at_places _ _ _ bytes c.new-words.ensures.places;
          place = c.new-words.ensures.place;
          broken = c.new-words.ensures.broken ∙ c.new.ensures.never_broken c.new.result;
          failures = c.new-words.ensures.failures ∙ c.new.ensures.never_fails c.new.result;
        },
        c.under-status.ensures,
        c.end_one.ensures,
      );
    }

pub returns-in-Ok-None : goal.returns-in-Ok-None
returns-in-Ok-None g c = record {
  mid = c.read_single.new.source;
  last = c.read_single.new.source;
  answer = c.read_single.result;
  reads = c.read_single.ensures;
  does = rw (c.in-Ok-None.is, c.in-Ok-None.field-0-is) (refl, refl, c.report_single.ensures);
}

pub returns-in-Err : goal.returns-in-Err
returns-in-Err g c = record {
  mid = c.read_single.new.source;
  last = c.read_single.new.source;
  answer = c.read_single.result;
  reads = c.read_single.ensures;
  does = rw c.in-Err.is (refl, refl, c.report_first.ensures);
}
