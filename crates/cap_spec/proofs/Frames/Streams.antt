-- Streams of frames: none, one more in front, one more after, and two joined.
use Rattle.cap_spec.proofs.Frames.Endings.{frame_some}
use Rattle.cap_spec.proofs.Frames.Framing.{one_frame}
use Rattle.cap_spec.proofs.ProofNames.{List, [], ap, append-nil, append_assoc, arith, flat_map, inl, inr, length}
use Rattle.cap_spec.proofs.ProofNames.{length-append, map, refl, sym, ℕ, ◌++◌, ◌∙◌, ◌∷◌, ◌≡◌, ◌⊎◌, AllByRecursion}
use Rattle.cap_spec.proofs.ProofNames.{Frames, Stream, common_steps, rules}

-- no words are the stream of no messages
pub stream_none : Stream [] []
stream_none = record { frames = []; each = tt; whole = refl; messages = refl }

-- one frame is the stream of one message
pub stream_one : (own : List ℕ) (m : List (List ℕ)) → Frames own m → Stream own (m ∷ [])
stream_one own m f = record { frames = (own, m) ∷ []; each = (f, tt); whole = sym (append-nil own); messages = refl }

-- with a frame before a stream
pub stream_cons : (own rest : List ℕ) (m : List (List ℕ)) (ms : List (List (List ℕ))) → Frames own m → Stream rest ms
    → Stream (own ++ rest) (m ∷ ms)
stream_cons own rest m ms f s = record {
  frames = (own, m) ∷ s.frames;
  each = (f, s.each);
  whole = ap (λ k. own ++ k) s.whole;
  messages = ap (λ k. m ∷ k) s.messages;
}

-- two streams, one after the other
pub stream_append : (words rest : List ℕ) (ms ns : List (List (List ℕ))) → Stream words ms → Stream rest ns
    → Stream (words ++ rest) (ms ++ ns)
stream_append words rest ms ns s t = grind (arith, common_steps)

-- frames before others, before any words: the others go on from there
pub frames_front : (fs hs : List (List ℕ × List (List ℕ))) (back : List ℕ) → AllByRecursion (λ f. Frames f.0 f.1) fs
    → AllByRecursion (λ f. Frames f.0 f.1) hs
    → flat_map (λ f. f.0) hs ≡ flat_map (λ f. f.0) fs ++ back
    → (more : List (List ℕ × List (List ℕ))) × (map (λ f. f.1) hs ≡ map (λ f. f.1) fs ++ map (λ f. f.1) more)
    × AllByRecursion (λ f. Frames f.0 f.1) more × (back ≡ flat_map (λ f. f.0) more)
frames_front [] hs back a b e = (hs, refl, b, sym e)
frames_front (f ∷ fs) [] back a b e =
    absurd (omega (
      arith,
      frame_some f.0 f.1 a.0,
      ap length e,
      length-append (f.0 ++ flat_map (λ f. f.0) fs) back,
      length-append f.0 (flat_map (λ f. f.0) fs),
    ))
frames_front (f ∷ fs) (h ∷ hs) back a b e =
    let one = one_frame h.0 f.0 (flat_map (λ f. f.0) hs) (flat_map (λ f. f.0) fs ++ back) h.1 f.1 b.0 a.0
    (e ∙ append_assoc f.0 (flat_map (λ f. f.0) fs) back) in
    search (rules, frames_front fs hs back a.1 b.1 one.2)

-- a stream that begins with another goes on after it
pub stream_front : (words back : List ℕ) (ms ns : List (List (List ℕ))) → Stream words ms → Stream (words ++ back) ns
    → (more : List (List (List ℕ))) × (ns ≡ ms ++ more) × Stream back more
stream_front words back ms ns s t = search (rules, frames_front)

-- A stream has no words, or begins with the frame of its first message.
pub record StreamNext (words : List ℕ) (ms : List (List (List ℕ))) : Type 0 where
  pub own : List ℕ
  pub rest : List ℕ
  pub message : List (List ℕ)
  pub more : List (List (List ℕ))
  pub whole : words ≡ own ++ rest
  pub messages : ms ≡ message ∷ more
  pub frames : Frames own message

pub stream_next : (words : List ℕ) (ms : List (List (List ℕ))) → Stream words ms → (words ≡ []) ⊎ StreamNext words ms
stream_next words ms s = next s.frames s.each s.whole s.messages
  where
    next : (fs : List (List ℕ × List (List ℕ))) → AllByRecursion (λ f. Frames f.0 f.1) fs
        → words ≡ flat_map (λ f. f.0) fs → ms ≡ map (λ f. f.1) fs → (words ≡ []) ⊎ StreamNext words ms
    next [] a e m = inl e
    next (f ∷ fs) a e m = inr (record {
      own = f.0;
      rest = flat_map (λ f. f.0) fs;
      message = f.1;
      more = map (λ f. f.1) fs;
      whole = e;
      messages = m;
      frames = a.0;
    })
