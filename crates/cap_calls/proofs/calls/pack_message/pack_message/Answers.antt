-- Nothing else is reported of the bytes and the buffer.
use Rattle.std.proofs.Common.{arith, refl}
use Rattle.cap_calls.proofs.Bounds.{length_inside}
use Rattle.cap_spec.proofs.Lemmas.{length_joined, table_length}
use Rattle.cap_spec.proofs.ProofNames.{Bool, List, ap, length-append, not, sym, ℕ, ◌*◌, ◌/◌, ◌∙◌, ◌≡◌, ◌≤◌, length-map}
use Rattle.cap_spec.proofs.ProofNames.{sizes_of, rules}
use Rattle.cap_calls.specs.CallFindings.{without}
use Rattle.cap_calls.specs.PackedMessages.{Packs, PacksShort, ReportsPackMessage}
use Rattle.cap_calls.specs.CallNames.{ReportsWhole, framed, reports, trailing, allows_trailing, ReportsMessage, Answer}
use Rattle.cap_calls.specs.CallNames.{Found, CallLimits, CallReport}
use Rattle.cap_calls.proofs.Answers.{message_by_flag, one_returned, one_whole_reported, reports_less}
use Rattle.cap_calls.proofs.Copied.{same_found}
use Rattle.cap_calls.proofs.Texts.{one_text}
use Rattle.cap_calls.proofs.calls.pack_message.pack_message.Goals as goal

-- The bytes and the buffer decide what the call that packs a message finds and writes.
-- of a message
one_packed : (old xs ys : List ℕ) (m : List (List ℕ)) (w d : ℕ) (f g : Found) → Packs old xs m w d f
    → Packs old ys m w d g → (f ≡ g) × (xs ≡ ys)
one_packed old xs ys m w d f g (t, e) (u, i) = search (rules, one_text, same_found)

-- The call answers, reports and writes one thing.
one_pack_message_reported : (l : CallLimits) (bs old : List ℕ) (a b : Answer) (n k : ℕ) (xs ys : List ℕ)
    (r q : CallReport) → ReportsPackMessage l bs old a n xs r → ReportsPackMessage l bs old b k ys q
    → (a ≡ b) × (n ≡ k) × (xs ≡ ys) × (r ≡ q)
one_pack_message_reported l bs old a b n k xs ys r q (f, t, h, e) (g, u, i, j) =
    let same = one_whole_reported {S = xs ≡ ys} (not (allows_trailing l)) l bs f g (λ x y. x ∙ sym y)
    (λ m x y p s. one_packed old xs ys m l.charge l.depth x y p s) t u in
    let one = one_returned f g a b r q same.0 h i in
    (one.0, e ∙ (ap (λ (x : Found). x.count) same.0 ∙ sym j), same.1, one.1)

-- What is found of the frame is found of its message, by the flag.
packs_by_flag : (l : CallLimits) (bs old new : List ℕ) (f : Found) (w : Bool) → w ≡ allows_trailing l
    → ReportsWhole (not w) (new ≡ old) (PacksShort old new) l bs f → ReportsMessage (new ≡ old) (Packs old new) l bs f
packs_by_flag l bs old new f w e t = message_by_flag l bs f w e (reports_less (λ k. k) (λ m x y g p. p.0) t)

-- The text has at most ten bytes for each word of the frame.
packed_few : (whole : Bool) (l : CallLimits) (bs old new : List ℕ) (f : Found)
    → ReportsWhole whole (new ≡ old) (PacksShort old new) l bs f → f.count ≤ f.report.length / 8 * 10
packed_few whole l bs old new f (trailing m x y t h more e k) =
    let none = ap (λ (z : Found). z.count) e in omega (arith, none)
packed_few whole l bs old new f (reports only (without c h e k)) =
    let none = ap (λ (z : Found). z.count) e in omega (arith, none)
packed_few whole l bs old new f (reports only (framed m x y g h p e)) =
    search (rules, table_length h.front.frames.table (sizes_of m) h.front.frames.is_table, length-append, length_joined, length-map)

pub returns-clause-reports : goal.returns-clause-reports
returns-clause-reports c =
    let f = c.over-found.result in
    let reported = packs_by_flag c.args.limits.now c.args.bytes.now _ _ f _ c.allows_trailing-whole.ensures c.over-found.ensures in
    (f, reported, (refl, refl), refl)

pub returns-clause-only : goal.returns-clause-only
returns-clause-only c = λ a n new r h.
    one_pack_message_reported c.args.limits.now c.args.bytes.now c.args.out.now _ a _ n _ new _ r (returns-clause-reports c) h

pub returns-clause-few : goal.returns-clause-few
returns-clause-few c = packed_few _ c.args.limits.now c.args.bytes.now _ _ c.over-found.result c.over-found.ensures

pub returns-clause-bound : goal.returns-clause-bound
returns-clause-bound c =
    let inside = length_inside _ c.args.limits.now c.args.bytes.now c.over-found.result c.over-found.ensures in
    let few = packed_few _ c.args.limits.now c.args.bytes.now _ _ c.over-found.result c.over-found.ensures in
    omega (arith, inside, few)
