-- Words put to a sink in several calls.
use Rattle.cap_spec.proofs.ProofNames.{Err, List, Result, [], ap, append-nil, append_assoc, arith, drop, drop-cons, false}
use Rattle.cap_spec.proofs.ProofNames.{get_or, length, subst, suc, sym, true, ℕ, ◌*◌, ◌++◌, ◌+◌, ◌/◌, ◌<◌, ◌^◌}
use Rattle.cap_spec.proofs.ProofNames.{◌∙◌, ◌∷◌, ◌≡◌, Keeps-trans, length-map, Keeps, frame_text, joined, paired}
use Rattle.cap_spec.proofs.ProofNames.{segment_of, rules, common_steps}
use Rattle.cap_words.specs.WordNames.{DeviceFails, AllocationFails, WasBroken, StoppedPutting, WasPut}
use Rattle.cap_words.specs.declared.sinks.SinkFault.{SinkFault}
use Rattle.cap_words.specs.declared.sinks.SinkFault.TheVariants.{Device, Memory, Spent}
use Rattle.cap_words.proofs.Known.{begins_kept}
use Rattle.cap_frame.specs.Numbers.{numbers_of, pair_at, table_rest}
use Rattle.cap_frame.specs.Putting.{Blames, Halts, Puts}
use Rattle.cap_words.specs.declared.sinks.WordSink as sink

module _ {K : Type 0} (g : sink.Ghosts K) where
  -- some words, and then others
  pub puts_both : (old mid new : K) (a b : List ℕ) → Puts g old mid a → Puts g mid new b → Puts g old new (a ++ b)
  puts_both old mid new a b p q = search (rules, append_assoc, Keeps-trans)

  -- a fault gives the same of the output as it was before words were put
  pub blames_later : (old mid new : K) (fault : SinkFault) → g.broken mid ≡ g.broken old → g.failures mid ≡ g.failures old → Blames g mid new fault
      → Blames g old new fault
  blames_later old mid new fault s n b = search rules

  -- the words of one call
  pub puts_of : (old new : K) (own : List ℕ) → WasPut g.text old new own
      → (g.closed old ≡ false) × (g.closed new ≡ false) × (g.broken new ≡ g.broken old) × (g.failures new ≡ g.failures old) → Puts g old new own
  puts_of old new own p o = record { put = p; was_open = o.0; is_open = o.1; broken = o.2; none_failed = o.3 }

  -- a fault at the words of one call
  pub halts_of : (old new : K) (own : List ℕ) (r : Result (Unit {0}) SinkFault) (fault : SinkFault) → r ≡ Err fault
      → (g.closed new ≡ true) × StoppedPutting g.text g.taken old new own
      → (r ≡ Err Device → DeviceFails (g.broken old) (g.failures old) (g.failures new))
      → (r ≡ Err Memory → AllocationFails (g.broken old) (g.failures old) (g.failures new))
      → (r ≡ Err Spent → WasBroken (g.broken old) (g.broken new) (g.failures old) (g.failures new) × Keeps (g.taken old) (g.taken new))
      → Halts g old new own fault
  halts_of old new own r fault e h d m s = search rules

  -- a fault before other words
  pub halts_before : (old new : K) (b c : List ℕ) (fault : SinkFault) → Halts g old new b fault → Halts g old new (b ++ c) fault
  halts_before old new b c fault h = search (rules, append_assoc)

  -- a fault after some words
  pub halts_after : (old mid new : K) (a b : List ℕ) (fault : SinkFault) → Puts g old mid a → Halts g mid new b fault → Halts g old new (a ++ b) fault
  halts_after old mid new a b fault p h = search (rules, append_assoc, begins_kept, blames_later)

  -- Of all these words the rest is left to put.
  pub record Leaves (old now : K) (all rest : List ℕ) : Type 0 where
    pub done : List ℕ
    pub whole : all ≡ done ++ rest
    pub puts : Puts g old now done

  -- the next ones were put
  pub leaves_less : (old now new : K) (all rest front less : List ℕ) → rest ≡ front ++ less → Leaves old now all rest → Puts g now new front
      → Leaves old new all less
  leaves_less old now new all rest front less e l p = search (rules, append_assoc l.done front less, puts_both old now new l.done front l.puts p)

  -- the first ones were put
  pub starts : (old new : K) (all front less : List ℕ) → all ≡ front ++ less → WasPut g.text old new front
      → (g.closed old ≡ false) × (g.closed new ≡ false) × (g.broken new ≡ g.broken old) × (g.failures new ≡ g.failures old) → Leaves old new all less
  starts old new all front less e p o = record { done = front; whole = e; puts = puts_of old new front p o }

  -- none is left
  pub leaves_none : (old now : K) (all rest : List ℕ) → rest ≡ [] → Leaves old now all rest → Puts g old now all
  leaves_none old now all rest e l = subst (Puts g old now) (sym (l.whole ∙ (ap (λ (ws : List ℕ). l.done ++ ws) e ∙ append-nil l.done))) l.puts

  -- the next ones were refused
  pub leaves_halts : (old now new : K) (all rest front less : List ℕ) (fault : SinkFault) → rest ≡ front ++ less → Leaves old now all rest
      → Halts g now new front fault → Halts g old new all fault
  leaves_halts old now new all rest front less fault e l h = search (rules, halts_after old now new l.done (front ++ less) fault l.puts (halts_before now new front less fault h), halts_before now new front less fault h)

-- the pair before numbers from k on
paired_at : (numbers : List ℕ) (k : ℕ) → k < length numbers
    → paired (drop k numbers) ≡ (get_or numbers k 0 + 2 ^ 32 * get_or numbers (suc k) 0) ∷ paired (drop (suc (suc k)) numbers)
paired_at (x ∷ numbers) (suc k) h = paired_at numbers k (omega arith)
paired_at numbers k h = search rules

pub paired_from : (numbers : List ℕ) (k : ℕ) → k < length numbers → paired (drop k numbers) ≡ pair_at numbers k ∷ paired (drop (k + 2) numbers)
paired_from numbers k h = grind (arith, common_steps, paired_at)

-- the word before a table from word w + 1 on
pub table_from : (m : List (List ℕ)) (w x : ℕ) → w < length m / 2 → x ≡ pair_at (numbers_of m) (2 * (w + 1))
    → paired (drop (2 * w + 2) (numbers_of m)) ≡ (x ∷ []) ++ paired (drop (2 * (w + 1) + 2) (numbers_of m))
table_from m w x h e = search (rules, length-map, paired_from)

-- the first word of a framed message, the rest of its table, and its contents
pub frame_from : (m : List (List ℕ)) (x : ℕ) → x ≡ pair_at (numbers_of m) 0 → frame_text m ≡ (x ∷ []) ++ (table_rest m ++ joined m)
frame_from m x e = search (rules, paired_from)

-- the segment before segments from s on
pub segments_from : (m : List (List ℕ)) (s : ℕ) → s < length m → joined (drop s m) ≡ segment_of m s ++ joined (drop (s + 1) m)
segments_from m s h = let one : suc s ≡ s + 1 = omega arith in ap joined (drop-cons m s [] h) ∙ ap (λ (j : ℕ). segment_of m s ++ joined (drop j m)) one
