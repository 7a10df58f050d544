-- What buffered bytes give, one part after the other.
use Rattle.cap_spec.proofs.Bytes.Plain.{length_plain, plain_split}
use Rattle.cap_spec.proofs.ProofNames.{Bool, IfSome, List, None, Option, Some, [], ap, append-nil, append_assoc, arith}
use Rattle.cap_spec.proofs.ProofNames.{drop, drop-drop, false, get_or, length, length-append, length-drop, length-take}
use Rattle.cap_spec.proofs.ProofNames.{length-take-le, lit<, option_map, refl, replicate, subst, suc, sym, take, take-add}
use Rattle.cap_spec.proofs.ProofNames.{take-append-drop, take-take, unwrap_or, zero, ℕ, ◌%◌, ◌*◌, ◌++◌, ◌+◌, ◌<◌, ◌^◌, ◌∙◌}
use Rattle.cap_spec.proofs.ProofNames.{◌∷◌, ◌≡◌, ◌≤◌, nil_from_length, Consumes, AllByRecursion, little_number, capped}
use Rattle.cap_spec.proofs.ProofNames.{plain_text, plain_words, rules}
use Rattle.cap_words.specs.TakingMany.{TakesAll}
use Rattle.cap_words.specs.declared.byte_io.Phase.{Phase}
use Rattle.cap_words.specs.declared.byte_io.Phase.TheVariants.{Open}
use Rattle.cap_words.proofs.Filling.{plain_join}
use Rattle.cap_pack.specs.Buffered.{BytesGive, CourseLeads, UnpacksInto}
use Rattle.cap_pack.specs.Course.{Course, course, course_is_cut, course_places, course_words, first_word, gives}
use Rattle.cap_pack.specs.Course.{head_rest, plain_of, zeros_of, zeros_then}
use Rattle.cap_pack.specs.State.{ahead}
use Rattle.cap_pack.specs.declared.buffered.Unpacked.{Unpacked}
use Rattle.cap_pack.proofs.Courses.{course_head, course_none, course_plain, course_plain_stops}
use Rattle.cap_pack.proofs.Heads.{first_word-append, plain_of-append, zeros_of-append}

-- no words
leads_none : (c : Course) (at : ℕ) → CourseLeads c c at at []
leads_none c at = record { words = refl; cut = refl; places = refl }

-- the next word
leads_word : (c d : Course) (w at to : ℕ) → c ≡ gives w to d → CourseLeads c d at to (w ∷ [])
leads_word c d w at to e = rw e (record { words = refl; cut = refl; places = refl })

-- some words, and then others
leads_both : (c d e : Course) (at mid to : ℕ) (xs ys : List ℕ) → CourseLeads c d at mid xs → CourseLeads d e mid to ys → CourseLeads c e at to (xs ++ ys)
leads_both c d e at mid to xs ys s t = search (rules, append_assoc, drop-drop, length-append)

-- zero words that are held
leads_zeros : (t n m at : ℕ) (c : Course) → t ≡ n + m → CourseLeads (zeros_then t at c) (zeros_then m at c) at at (replicate n 0)
leads_zeros t zero m at c e = let same : m ≡ t = omega arith in
    subst (λ k. CourseLeads (zeros_then t at c) (zeros_then k at c) at at []) (sym same) (leads_none (zeros_then t at c) at)
leads_zeros zero (suc n) m at c e = absurd (omega arith)
leads_zeros (suc t) (suc n) m at c e =
    let more = leads_zeros t n m at c (omega arith) in
    record { words = ap (λ l. 0 ∷ l) more.words; cut = more.cut; places = more.places }

-- no bytes
pub gives_none : (z p : ℕ) → BytesGive z p z p [] []
gives_none z p = search (rules, leads_none)

-- some bytes, and then others
pub gives_both : (z p y q x r : ℕ) (bs cs ws vs : List ℕ) → BytesGive z p y q bs ws → BytesGive y q x r cs vs → BytesGive z p x r (bs ++ cs) (ws ++ vs)
gives_both z p y q x r bs cs ws vs f g = search (rules, length-append, leads_both, append_assoc)

-- zero words that are held need none
pub gives_zeros : (t n m p : ℕ) → t ≡ n + m → BytesGive t p m p [] (replicate n 0)
gives_zeros t n m p e = λ at rest low.
    search (rules, leads_zeros t n m)

-- words as they are
pub gives_plain : (t n m : ℕ) (bs : List ℕ) → t ≡ n + m → length bs ≡ 8 * n → BytesGive 0 t 0 m bs (plain_words bs)
gives_plain t zero m [] e l = let same : m ≡ t = omega arith in subst (λ k. BytesGive 0 t 0 k [] []) (sym same) (gives_none 0 t)
gives_plain (suc t) (suc n) m (a ∷ b ∷ c ∷ d ∷ e ∷ f ∷ g ∷ h ∷ bs) s l =
    let eight : List ℕ = a ∷ b ∷ c ∷ d ∷ e ∷ f ∷ g ∷ h ∷ [] in
    gives_both 0 (suc t) 0 t 0 m eight bs (little_number 8 eight ∷ []) (plain_words bs)
    (λ at rest low. leads_word _ _ _ at _ (course_plain t at eight rest refl)) (gives_plain t n m bs (omega arith) (omega arith))
gives_plain t n m bs e l = search rules

-- the words of zero bytes
pub zeros_are_words : (n : ℕ) → plain_words (replicate (8 * n) 0) ≡ replicate n 0
zeros_are_words zero = refl
zeros_are_words (suc n) =
    let eight : 8 * suc n ≡ suc (suc (suc (suc (suc (suc (suc (suc (8 * n)))))))) = omega arith in
    ap (λ k. plain_words (replicate k 0)) eight ∙ ap (λ l. 0 ∷ l) (zeros_are_words n)

-- the head of a group, whose bytes are before these
pub gives_head : (n w z p : ℕ) (bytes buffer : List ℕ) → n ≤ 9 → 10 ≤ length bytes → buffer ≡ take 9 (drop 1 bytes) → n ≡ head_rest (get_or bytes 0 0)
    → w ≡ first_word (get_or bytes 0 0) buffer → z ≡ zeros_of (get_or bytes 0 0) buffer → p ≡ plain_of (get_or bytes 0 0) buffer
    → BytesGive 0 0 z p (take (1 + n) bytes) (w ∷ [])
gives_head n w z p [] buffer few long same size e f g = absurd (omega arith)
gives_head n w z p (tag ∷ more) buffer few long same size e f g =
    let bs = take n more in
    let front : take n (take 9 more) ≡ bs = take-take n 9 more few in
    let split : buffer ≡ bs ++ drop n (take 9 more) = same ∙ (sym (take-append-drop n (take 9 more)) ∙ ap (λ l. l ++ drop n (take 9 more)) front) in
    let many : length bs ≡ head_rest tag = length-take-le n more (omega arith) ∙ size in
    let word : w ≡ first_word tag bs = e ∙ (ap (first_word tag) split ∙ first_word-append tag bs _ many) in
    let zeros : z ≡ zeros_of tag bs = f ∙ (ap (zeros_of tag) split ∙ zeros_of-append tag bs _ many) in
    let plain : p ≡ plain_of tag bs = g ∙ (ap (plain_of tag) split ∙ plain_of-append tag bs _ many) in
    let head : take (1 + n) (tag ∷ more) ≡ tag ∷ bs = ap (λ k. take k (tag ∷ more)) {x = 1 + n} {y = suc n} (omega arith) in
    rw (head, word, zeros, plain) (λ at rest low. leads_word _ _ _ at _ (course_head at tag bs rest many))

-- what was unpacked, and then some more of the bytes after it, into the buffer after it
pub unpacks_both : (z p : ℕ) (bytes buffer longer part given : List ℕ) (d e : Unpacked) → UnpacksInto z p bytes buffer d →
    UnpacksInto d.zeros d.plain part given e → part ≡ drop d.read bytes
    → take (d.written + e.written) longer ≡ take d.written buffer ++ take e.written given → d.written + e.written ≤ length longer
    → UnpacksInto z p bytes longer (record { read = d.read + e.read; written = d.written + e.written; zeros = e.zeros; plain = e.plain })
unpacks_both z p bytes buffer longer part given d e s t following filled fits =
    let front : length (take d.written buffer) % 8 ≡ 0 = ap (λ k. k % 8) (length-take-le d.written buffer s.fits) ∙ s.whole in
    let words : plain_words (take (d.written + e.written) longer) ≡ plain_words (take d.written buffer) ++ plain_words (take e.written given) =
    ap plain_words filled ∙ plain_join (take d.written buffer) (take e.written given) front in
    let taken : take (d.read + e.read) bytes ≡ take d.read bytes ++ take e.read part = search (rules, take-add) in
    record {
      within = omega (arith, s.within, t.within, ap length following, length-drop d.read bytes);
      fits = fits;
      whole = omega (arith, s.whole, t.whole);
      gives = rw (words, taken)
          (gives_both z p d.zeros d.plain e.zeros e.plain (take d.read bytes) (take e.read part) (plain_words (take d.written buffer))
          (plain_words (take e.written given)) s.gives t.gives);
    }

-- and then a group, where no run is left
pub unpacks_between : (z p : ℕ) (bytes buffer longer part given : List ℕ) (d e : Unpacked) → UnpacksInto z p bytes buffer d → UnpacksInto 0 0 part given e →
    d.zeros ≡ 0 → d.plain ≡ 0 → part ≡ drop d.read bytes
    → take (d.written + e.written) longer ≡ take d.written buffer ++ take e.written given → d.written + e.written ≤ length longer
    → UnpacksInto z p bytes longer (record { read = d.read + e.read; written = d.written + e.written; zeros = e.zeros; plain = e.plain })
unpacks_between z p bytes buffer longer part given d e s t none no_plain =
    unpacks_both z p bytes buffer longer part given d e s
    (subst (λ k. UnpacksInto k d.plain part given e) (sym none) (subst (λ k. UnpacksInto 0 k part given e) (sym no_plain) t))

-- where something was written there are words
pub some_words : (n : ℕ) (out : List ℕ) → n ≤ length out → n % 8 ≡ 0 → 0 < n → 0 < length (plain_words (take n out))
some_words n out fits whole some = at_least (take n out) (let l = length-take-le n out fits in omega arith)
  where
    at_least : (xs : List ℕ) → 8 ≤ length xs → 0 < length (plain_words xs)
    at_least xs l = search rules

-- without bytes there are no words
gives_nothing : (p : ℕ) (bs : List ℕ) → length bs ≡ 0 → course_words (course p 0 bs) ≡ []
gives_nothing zero [] e = ap course_words (course_none 0)
gives_nothing p bs e = search (rules, course_plain_stops, lit<)

-- words were given for zero words that were held, or for bytes
pub given_for : (z p y q : ℕ) (held own : List ℕ) (k : ℕ) (broken : Bool) → BytesGive z p y q (take k held) own → 0 < length own →
    (0 < z → broken ≡ false) → (0 < length held → broken ≡ false) → broken ≡ false
given_for zero p y q [] own k broken g some zeros bytes =
    let nil : List ℕ = [] in
    let none : length (take k nil ++ nil) ≡ 0 = omega (arith, length-append (take k nil) nil, length-take k nil) in
    let first = (g 0 [] (lit< tt)).words in
    let long = ap length (sym (gives_nothing p (take k nil ++ nil) none) ∙ first) in
    absurd (omega (arith, long, length-append own (course_words (ahead Open y q (capped (0 + length (take k nil))) []))))
given_for z p y q held own k broken g some zeros bytes = search rules

-- by a source that is open
pub words_buffered : (phase : Phase) (a b : Option (List ℕ)) (held out : List ℕ) (z p at now : ℕ) (d : Unpacked) → phase ≡ Open →
    UnpacksInto z p held out d → AllByRecursion (λ b. b < 256) (take d.written out)
    → at < 2 ^ 64 → now ≡ capped (at + d.read) → Consumes a b (take d.read held)
    → (take d.written out ≡ plain_text (plain_words (take d.written out)))
    × TakesAll (option_map (λ bs. course_words (ahead phase z p at bs)) a) (option_map (λ bs. course_words (ahead phase d.zeros d.plain now bs)) b)
    (course_is_cut (ahead phase z p at (unwrap_or a []))) (course_is_cut (ahead phase d.zeros d.plain now (unwrap_or b []))) at now
    (course_places (ahead phase z p at (unwrap_or a []))) (course_places (ahead phase d.zeros d.plain now (unwrap_or b []))) (plain_words (take d.written out))
words_buffered phase a b held out z p at now d is_open u small low value lost =
    let bytes = take d.written out in
    let s = plain_split bytes small in
    let rest = drop (8 * length (plain_words bytes)) bytes in
    let long : length bytes ≡ d.written = length-take-le d.written out u.fits in
    let whole : length bytes ≡ length (plain_text (plain_words bytes)) + length rest = ap length s.whole
    ∙ length-append (plain_text (plain_words bytes)) rest in
    let none : rest ≡ [] = nil_from_length rest (omega (arith, whole, length_plain (plain_words bytes), s.partial, long, u.whole)) in
    let all : bytes ≡ plain_text (plain_words bytes) = search (rules, append-nil (plain_text (plain_words bytes))) in
    let place : now ≡ capped (at + length (take d.read held)) = value ∙ ap (λ k. capped (at + k)) (sym (length-take-le d.read held u.within)) in
    rw (is_open, place) (all, go a b lost)
  where
    go : (a b : Option (List ℕ)) → Consumes a b (take d.read held)
        → TakesAll (option_map (λ bs. course_words (ahead Open z p at bs)) a)
        (option_map (λ bs. course_words (ahead Open d.zeros d.plain (capped (at + length (take d.read held))) bs)) b)
        (course_is_cut (ahead Open z p at (unwrap_or a [])))
        (course_is_cut (ahead Open d.zeros d.plain (capped (at + length (take d.read held))) (unwrap_or b []))) at (capped (at + length (take d.read held)))
        (course_places (ahead Open z p at (unwrap_or a [])))
        (course_places (ahead Open d.zeros d.plain (capped (at + length (take d.read held))) (unwrap_or b []))) (plain_words (take d.written out))
    go x b lost = search rules

-- words as they are, appended by a source that is open and holds no zero words
pub words_appended : (phase : Phase) (a b : Option (List ℕ)) (held : List ℕ) (z p q n at now : ℕ) → phase ≡ Open → z ≡ 0 → p ≡ n + q →
    8 * n ≤ length held → AllByRecursion (λ b. b < 256) (take (8 * n) held)
    → at < 2 ^ 64 → now ≡ capped (at + 8 * n) → Consumes a b (take (8 * n) held)
    → (take (8 * n) held ≡ plain_text (plain_words (take (8 * n) held)))
    × TakesAll (option_map (λ bs. course_words (ahead phase z p at bs)) a) (option_map (λ bs. course_words (ahead phase z q now bs)) b)
    (course_is_cut (ahead phase z p at (unwrap_or a []))) (course_is_cut (ahead phase z q now (unwrap_or b []))) at now
    (course_places (ahead phase z p at (unwrap_or a []))) (course_places (ahead phase z q now (unwrap_or b []))) (plain_words (take (8 * n) held))
words_appended phase a b held z p q n at now is_open none run within small low value lost =
    let long : length (take (8 * n) held) ≡ 8 * n = length-take-le (8 * n) held within in
    let done : Unpacked = record { read = 8 * n; written = 8 * n; zeros = 0; plain = q } in
    let all : UnpacksInto 0 p held held done = search (rules, gives_plain p n q (take (8 * n) held) run long) in
    rw none (words_buffered phase a b held held 0 p at now done is_open all small low value lost)

-- the words that buffered bytes give, by a source that is open
pub words_ahead : (phase : Phase) (a : Option (List ℕ)) (held out : List ℕ) (z p at : ℕ) (d : Unpacked) → phase ≡ Open → UnpacksInto z p held out d
    → at < 2 ^ 64 → IfSome a (λ xs. (rest : List ℕ) × (xs ≡ held ++ rest))
    → IfSome (option_map (λ bs. course_words (ahead phase z p at bs)) a) (λ ws. (rest : List ℕ) × (ws ≡ plain_words (take d.written out) ++ rest))
words_ahead phase None held out z p at d is_open u low known = tt
words_ahead phase (Some xs) held out z p at d is_open u low known =
    let rest = drop d.read held ++ known.0 in
    let parts : xs ≡ take d.read held ++ rest = search (rules, take-append-drop d.read held, append_assoc (take d.read held) (drop d.read held) known.0) in
    rw is_open (_, ap (λ bs. course_words (ahead Open z p at bs)) parts ∙ (u.gives at rest low).words)
