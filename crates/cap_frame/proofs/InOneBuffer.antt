-- Words that are read into one buffer, piece by piece.
use Rattle.cap_spec.proofs.Bytes.Plain.{words_exact}
use Rattle.cap_spec.proofs.ProofNames.{List, [], ap, append-nil, append_assoc, arith, drop, length, length-append}
use Rattle.cap_spec.proofs.ProofNames.{length-drop, length-take-le, refl, sum, sym, take, take-add, take-take, take_all, ℕ}
use Rattle.cap_spec.proofs.ProofNames.{◌%◌, ◌*◌, ◌++◌, ◌+◌, ◌-◌, ◌/◌, ◌∙◌, ◌∷◌, ◌≡◌, ◌≤◌, take-append_seam, take-append-le}
use Rattle.cap_spec.proofs.ProofNames.{sum_by-cons, joined, sizes_of, plain_words, rules}
use Rattle.cap_words.proofs.Filling.{plain_join}
use Rattle.cap_frame.specs.FrameNames.{SourceFault, cut, IsUsable, ReadsInput, Stops, Takes}
use Rattle.cap_frame.proofs.Cuts.{words_inside}
use Rattle.cap_frame.proofs.Taking.{Took, took_more, took_stop}
use Rattle.cap_words.specs.declared.sources.WordSource as source

-- what is in a buffer up to the end of a piece that was written over it
pub piece_in : (start end many : ℕ) (before held more items piece post rest : List ℕ) → start ≤ length before → end ≤ many → length piece ≡ end - start
    → start ≤ end
    → held ≡ before ++ more → items ≡ take many ((take start held ++ (piece ++ post)) ++ rest) → take end items ≡ take start before ++ piece
piece_in start end many before held more items piece post rest h e l k b i =
    let front : take start held ≡ take start before = ap (take start) b ∙ take-append-le start before more h in
    let parts : (take start held ++ (piece ++ post)) ++ rest ≡ (take start before ++ piece) ++ (post ++ rest) =
    ap (λ (xs : List ℕ). (xs ++ (piece ++ post)) ++ rest) front ∙ (append_assoc (take start before) (piece ++ post) rest
    ∙ (ap (λ (xs : List ℕ). take start before ++ xs) (append_assoc piece post rest) ∙ sym (append_assoc (take start before) piece (post ++ rest)))) in
    let long : length (take start before ++ piece) ≡ end = omega (arith, length-append (take start before) piece, length-take-le start before h) in
    let shown : take end ((take start before ++ piece) ++ (post ++ rest)) ≡ take start before ++ piece =
    ap (λ (n : ℕ). take n ((take start before ++ piece) ++ (post ++ rest))) (sym long) ∙ take-append_seam (take start before ++ piece) (post ++ rest) in
    ap (take end) i ∙ (take-take end many _ e ∙ (ap (take end) parts ∙ shown))

-- what was appended is after what was read, where that was all
pub appended_in : (done n : ℕ) (before given items : List ℕ) → length before ≤ done → length given ≡ n → items ≡ before ++ given
    → take (done + n) items ≡ take done before ++ given
appended_in done n before given items h l e = search (rules, take_all, length-append)

-- and nothing else
pub nothing_in : (done : ℕ) (items : List ℕ) → take (done + 0) items ≡ take done items ++ []
nothing_in done items = search (rules, append-nil)

-- as many words as there are bytes for
pub words_taken : (n : ℕ) (bytes : List ℕ) → 8 * n ≤ length bytes → length (plain_words (take (8 * n) bytes)) ≡ n
words_taken n bytes h = omega (arith, words_exact (take (8 * n) bytes), length-take-le (8 * n) bytes h)

-- the segments have these sizes
pub held_sizes : (ns bytes : List ℕ) → 8 * sum ns ≤ length bytes → sizes_of (cut ns bytes) ≡ ns
held_sizes [] bytes h = refl
held_sizes (n ∷ ns) bytes h = search (
  rules,
  sum_by-cons (λ x. x) n ns,
  words_taken n bytes (omega (arith, (sum_by-cons (λ x. x) n ns))),
  length-drop (8 * n) bytes,
  held_sizes ns (drop (8 * n) bytes) (omega (arith, (sum_by-cons (λ x. x) n ns), length-drop (8 * n) bytes)),
)

-- joined, they are the words of the bytes in front
pub held_joined : (ns bytes : List ℕ) → 8 * sum ns ≤ length bytes → joined (cut ns bytes) ≡ plain_words (take (8 * sum ns) bytes)
held_joined [] bytes h = refl
held_joined (n ∷ ns) bytes h = search (
  rules,
  sum_by-cons (λ x. x) n ns,
  length-drop (8 * n) bytes,
  length-take-le (8 * n) bytes (omega (arith, (sum_by-cons (λ x. x) n ns))),
  take-add (8 * n) (8 * sum ns) bytes,
  plain_join,
  held_joined ns (drop (8 * n) bytes) (omega (arith, (sum_by-cons (λ x. x) n ns), length-drop (8 * n) bytes)),
)

module _ {X : Type 0} (g : source.Ghosts X) where
  -- The words of this many bytes before a buffer were read.
  pub record BytesSoFar (old now : X) (done : ℕ) (bytes : List ℕ) : Type 0 where
    pub whole : done % 8 ≡ 0
    pub within : done ≤ length bytes
    pub took : Took g old now (plain_words (take done bytes))

  -- one more piece
  pub bytes_more : (old now new : X) (done end : ℕ) (bytes longer piece : List ℕ) → end % 8 ≡ 0 → end ≤ length longer
      → take end longer ≡ take done bytes ++ piece
      → BytesSoFar old now done bytes → Takes g now new (plain_words piece) → ReadsInput g now new → IsUsable g now new → BytesSoFar old new end longer
  bytes_more old now new done end bytes longer piece w i e t takes r u =
      let front : length (take done bytes) % 8 ≡ 0 = omega (arith, length-take-le done bytes t.within, t.whole) in
      let words : plain_words (take end longer) ≡ plain_words (take done bytes) ++ plain_words piece = ap plain_words e
      ∙ plain_join (take done bytes) piece front in
      record {
        whole = w;
        within = i;
        took = took_more g old now new (plain_words (take done bytes)) (plain_words piece) (plain_words (take end longer)) words t.took takes r u;
      }

  -- the source stopped inside a piece
  pub bytes_stop : (old now new : X) (done end words : ℕ) (bytes : List ℕ) (fault : SourceFault) → done ≤ end → end ≤ 8 * words → BytesSoFar old now done bytes
      → Stops g ((end - done) / 8) now new fault → Stops g words old new fault
  bytes_stop old now new done end words bytes fault h w t s = search (rules, words_inside, length-take-le, took_stop)
