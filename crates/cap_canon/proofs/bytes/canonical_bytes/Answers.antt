-- All that the new vector holds is the copy.
use Rattle.cap_spec.specs.declared.CanonFault.TheVariants.{HasCapability}
use Rattle.cap_spec.proofs.Lemmas.{length_plain, one_copy, one_first_cap}
use Rattle.cap_spec.proofs.ProofNames.{Err, ap, ap₂, arith, inl, inr, subst, take, take_all, ℕ, ◌∙◌, ◌≡◌, HasCopy}
use Rattle.cap_spec.proofs.ProofNames.{plain_text, plain_words, rules}
use Rattle.cap_vet.specs.Vettings.{message_of}
use Rattle.cap_canon.proofs.Copies.{cap_no_copy, same_fault}
use Rattle.cap_canon.proofs.Overs.{new_fault, new_text}
use Rattle.cap_canon.proofs.bytes.canonical_bytes.Goals as goal

pub returns-in-Ok-clause-ok : goal.returns-in-Ok-clause-ok
returns-in-Ok-clause-ok g c =
    let m = g.M.Segments.segments (message_of c.args.v.now) in
    let bytes = c.fill_over.new.buffer.items in
    let reports = rw c.new-bytes.ensures.items at c.in-Ok.ensures.reports in
    let (words, h, text, count) = new_text m _ bytes reports in
    let all : take c.in-Ok.field-0 bytes ≡ bytes = take_all c.in-Ok.field-0 bytes (omega (arith, count)) in
    let made : HasCopy m (plain_words bytes) = subst (λ xs. HasCopy m (plain_words xs)) all c.in-Ok.ensures.ok in
    (made, text ∙ ap plain_text (one_copy m words (plain_words bytes) h made))

pub returns-in-Ok-clause-few : goal.returns-in-Ok-clause-few
returns-in-Ok-clause-few g c = search (rules, new_text)

pub returns-in-Ok-clause-capacity : goal.returns-in-Ok-clause-capacity
returns-in-Ok-clause-capacity g c = search (rules, new_text, length_plain)

pub returns-in-Ok-clause-copy : goal.returns-in-Ok-clause-copy
returns-in-Ok-clause-copy g c = λ words h.
    let reports = rw c.new-bytes.ensures.items at c.in-Ok.ensures.reports in
    let (other, k, text, count) = new_text _ _ _ reports in
    text ∙ ap plain_text (one_copy _ _ _ k h)

pub returns-in-Ok-clause-first_cap : goal.returns-in-Ok-clause-first_cap
returns-in-Ok-clause-first_cap g c = λ s w f.
    let reports = rw c.new-bytes.ensures.items at c.in-Ok.ensures.reports in
    let (words, h, text, count) = new_text _ _ _ reports in
    absurd (cap_no_copy _ s w _ f h)

first : (a b s w : ℕ) → HasCapability a b ≡ HasCapability s w → a ≡ s
first a b s w e = cc

second : (a b s w : ℕ) → HasCapability a b ≡ HasCapability s w → b ≡ w
second a b s w e = cc

pub returns-in-Err-clause-cap : goal.returns-in-Err-clause-cap
returns-in-Err-clause-cap g c = search (rules, new_fault, same_fault, second, first)

pub returns-in-Err-clause-memory : goal.returns-in-Err-clause-memory
returns-in-Err-clause-memory g c = λ e s w f.
    let reports = rw c.new-bytes.ensures.items at c.in-Err.ensures.reports in
    elim (new_fault _ _ _ reports) [
      | inl (s', w', f', k) ↦ absurd (cc)
      | inr (words, h, k) ↦ absurd (cap_no_copy _ s w _ f h)
    ]

pub returns-in-Err-clause-copy : goal.returns-in-Err-clause-copy
returns-in-Err-clause-copy g c = λ words h.
    let reports = rw c.new-bytes.ensures.items at c.in-Err.ensures.reports in
    elim (new_fault _ _ _ reports) [
      | inl (s', w', f, k) ↦ absurd (cap_no_copy _ s' w' _ f h)
      | inr (words', h', k) ↦ k
    ]

pub returns-in-Err-clause-first_cap : goal.returns-in-Err-clause-first_cap
returns-in-Err-clause-first_cap g c = λ s w f.
    let reports = rw c.new-bytes.ensures.items at c.in-Err.ensures.reports in
    elim (new_fault _ _ _ reports) [
      | inl (s', w', f', k) ↦
          let same = one_first_cap _ s' w' s w f' f in
          ap Err (k ∙ ap₂ (λ x y. HasCapability x y) same.0 same.1)
      | inr (words, h, k) ↦ absurd (cap_no_copy _ s w _ f h)
    ]
