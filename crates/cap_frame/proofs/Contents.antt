-- Reading the words of segments, one segment after the other.
use Rattle.cap_spec.proofs.ProofNames.{rules}
use Rattle.std.proofs.Common.{List, [], add-one, ap, append-nil, arith, drop, drop-cons, drop-set-lt, false, get_or}
use Rattle.std.proofs.Common.{length, length-append, length-set, map, set, subst, suc, sum, sym, take, ℕ, ◌++◌}
use Rattle.std.proofs.Common.{◌+◌, ◌<◌, ◌∙◌, ◌∷◌, ◌≡◌, ◌≤◌}
use Rattle.std.proofs.lemmas.Grind.{flat_map-append}
use Rattle.std.proofs.lemmas.List.{map-append, take_more, take_more_set}
use Rattle.cap_spec.specs.Frames.{joined, sizes_of}
use Rattle.cap_spec.proofs.Frames.Endings.{length_joined}
use Rattle.cap_frame.specs.FrameNames.{SourceFault, IsUsable, ReadsInput, Stops, Takes}
use Rattle.cap_frame.specs.Buffers.{AreBuffers}
use Rattle.cap_frame.proofs.Cuts.{front_sum}
use Rattle.cap_frame.proofs.Taking.{Took, took_more, took_none, took_stop}
use Rattle.cap_words.specs.declared.sources.WordSource as source

-- as many buffers as sizes
pub buffers_many : {V : Type 0} (f : V → List ℕ) (buffer : V → ℕ) (vs : List V) (ns : List ℕ) → AreBuffers f buffer vs ns → length vs ≡ length ns
buffers_many f buffer (v ∷ vs) (n ∷ ns) r = ap suc (buffers_many f buffer vs ns r.1)
buffers_many f buffer vs ns r = search rules

-- one more buffer
pub buffers_more : {V : Type 0} (f : V → List ℕ) (buffer : V → ℕ) (vs : List V) (ns : List ℕ) (v : V) (n : ℕ) → f v ≡ [] → n ≤ buffer v
    → AreBuffers f buffer vs ns → AreBuffers f buffer (vs ++ v ∷ []) (ns ++ n ∷ [])
buffers_more f buffer (w ∷ vs) (m ∷ ns) v n e h r = (r.0, buffers_more f buffer vs ns v n e h r.1)
buffers_more f buffer vs ns v n e h r = search rules

-- the buffer at s, and those after it
pub buffers_from : {V : Type 0} (f : V → List ℕ) (buffer : V → ℕ) (s : ℕ) (vs : List V) (ns : List ℕ) (v : V) → s < length vs → s < length ns
    → AreBuffers f buffer (drop s vs) (drop s ns)
    → ((f (get_or vs s v) ≡ []) × (get_or ns s 0 ≤ buffer (get_or vs s v))) × AreBuffers f buffer (drop (s + 1) vs) (drop (s + 1) ns)
buffers_from f buffer s vs ns v h k r = rw add-one (rw (drop-cons vs s v h, drop-cons ns s 0 k) at r)

module _ {X : Type 0} (g : source.Ghosts X) where
  -- These words were read for a segment, this many.
  pub record WordsSoFar (old now : X) (words : List ℕ) (many : ℕ) : Type 0 where
    pub took : Took g old now words
    pub length_is : length words ≡ many

  -- none yet
  pub words_start : (s : X) (words : List ℕ) → g.broken s ≡ false → words ≡ [] → WordsSoFar s s words 0
  words_start s words u e = record { took = subst (Took g s s) (sym e) (took_none g s u); length_is = ap length e }

  -- one more
  pub words_more : (old now new : X) (words longer : List ℕ) (many word : ℕ) → WordsSoFar old now words many → Takes g now new (word ∷ [])
      → ReadsInput g now new → IsUsable g now new → longer ≡ words ++ word ∷ [] → WordsSoFar old new longer (many + 1)
  words_more old now new words longer many word w t r u e = search (rules, took_more g old now new words (word ∷ []) longer e w.took t r u, length-append words (word ∷ []))

  -- the source stopped before the segment had its size
  pub words_stop : (old now new : X) (words : List ℕ) (many size : ℕ) (fault : SourceFault) → many < size → WordsSoFar old now words many
      → Stops g 1 now new fault → Stops g size old new fault
  words_stop old now new words many size fault h w s = took_stop g old now new words 1 size fault (omega (arith, w.length_is)) w.took s

  module _ {V : Type 0} (f : V → List ℕ) (buffer : V → ℕ) where
    -- The first s segments were read, and there is capacity for the others.
    pub record SegmentsSoFar (old now : X) (s : ℕ) (segments : List V) (sizes : List ℕ) : Type 0 where
      pub took : Took g old now (joined (map f (take s segments)))
      pub sizes_are : sizes_of (map f (take s segments)) ≡ take s sizes
      pub many : length segments ≡ length sizes
      pub buffers : AreBuffers f buffer (drop s segments) (drop s sizes)

    -- none yet
    pub segments_start : (s : X) (segments : List V) (sizes : List ℕ) → g.broken s ≡ false → AreBuffers f buffer segments sizes → SegmentsSoFar s s 0 segments sizes
    segments_start s segments sizes u r = search (rules, took_none, buffers_many)

    -- one more segment
    pub segments_more : (old now new : X) (s : ℕ) (segments longer : List V) (sizes : List ℕ) (v : V) (n : ℕ) → s < length sizes → n ≡ get_or sizes s 0
        → SegmentsSoFar old now s segments sizes → Takes g now new (f v) → length (f v) ≡ n → ReadsInput g now new → IsUsable g now new
        → longer ≡ set segments s v → SegmentsSoFar old new (s + 1) longer sizes
    segments_more old now new s segments longer sizes v n h d t takes l reads u e =
        let inside : s < length segments = omega (arith, t.many) in
        let front : take (s + 1) longer ≡ take s segments ++ v ∷ [] = ap (take (s + 1)) e ∙ take_more_set segments s v inside in
        let back : drop (s + 1) longer ≡ drop (s + 1) segments = ap (drop (s + 1)) e ∙ drop-set-lt (s + 1) segments s v (omega arith) in
        let parts : map f (take (s + 1) longer) ≡ map f (take s segments) ++ f v ∷ [] = ap (map f) front ∙ map-append f (take s segments) (v ∷ []) in
        let words : joined (map f (take (s + 1) longer)) ≡ joined (map f (take s segments)) ++ f v =
        ap joined parts ∙ (flat_map-append (λ (ws : List ℕ). ws) (map f (take s segments)) (f v ∷ [])
        ∙ ap (λ (ws : List ℕ). joined (map f (take s segments)) ++ ws) (append-nil (f v))) in
        let r = buffers_from f buffer s segments sizes v inside h t.buffers in
        record {
          took = took_more g old now new (joined (map f (take s segments))) (f v) (joined (map f (take (s + 1) longer))) words t.took takes reads u;
          sizes_are =
              ap sizes_of parts ∙ (map-append (λ (ws : List ℕ). length ws) (map f (take s segments)) (f v ∷ [])
              ∙ (ap (λ (ns : List ℕ). ns ++ length (f v) ∷ []) t.sizes_are ∙ (ap (λ (k : ℕ). take s sizes ++ k ∷ []) (l ∙ d) ∙ sym (take_more sizes s 0 h))));
          many = ap length e ∙ (length-set segments s v ∙ t.many);
          buffers = subst (λ (vs : List V). AreBuffers f buffer vs (drop (s + 1) sizes)) (sym back) r.1;
        }

    -- the source stopped inside a segment
    pub segments_stop : (old now new : X) (s : ℕ) (segments : List V) (sizes : List ℕ) (n : ℕ) (fault : SourceFault) → s < length sizes → n ≡ get_or sizes s 0
        → SegmentsSoFar old now s segments sizes → Stops g n now new fault → Stops g (sum sizes) old new fault
    segments_stop old now new s segments sizes n fault h d t stops = search (rules, length_joined, front_sum, took_stop)
