-- Words that are read at once and handed to a sink.
use Rattle.cap_spec.proofs.ProofNames.{List, OnSome, Some, [], false, length, length-append, refl, take}
use Rattle.cap_spec.proofs.ProofNames.{true, ℕ, ◌+◌, ◌∷◌, ◌≡◌, ◌≤◌, ◌⊎◌, Keeps, plain_text, plain_words, rules}
use Rattle.cap_words.specs.ByteIo.{Fails, WasBroken}
use Rattle.cap_words.specs.Sinks.{sink_fault_of}
use Rattle.cap_words.specs.TakingMany.{TakesAll}
use Rattle.cap_words.specs.declared.sources.SourceFault.{SourceFault}
use Rattle.cap_words.specs.declared.sources.SourceFault.TheVariants.{Device, Spent, Truncated}
use Rattle.cap_run.specs.Handed.{HandsOver}
use Rattle.cap_run.specs.RunNames.{OutFault, Transcodes, ReadsWords, StopsMidway}
use Rattle.cap_run.specs.Transcoding.{GivesNone}
use Rattle.cap_run.proofs.Making.{halts_after}
use Rattle.cap_run.proofs.Transcoding.{fills_both, fills_none, gives_both, gives_none}
use Rattle.cap_words.specs.declared.sinks.WordSink as sink
use Rattle.cap_words.specs.declared.sources.WordSource as source

module _ {S : Type 0} (gs : source.Ghosts S) where
  -- the buffered words
  pub gives_ready : (old new : S) (n : ℕ) (buffer : List ℕ) → n ≤ length buffer → take n buffer ≡ plain_text (plain_words (take n buffer))
      → TakesAll (gs.words old) (gs.words new) (gs.is_cut old) (gs.is_cut new) (gs.place old) (gs.place new)
      (gs.places old) (gs.places new) (plain_words (take n buffer))
      → (n ≡ 0) ⊎ (gs.broken old ≡ false) → gs.broken new ≡ gs.broken old → gs.failures new ≡ gs.failures old → ReadsWords gs old new (plain_words (take n buffer))
  gives_ready old new n buffer fits text t u s f = search rules

  -- why there was no next word
  pub gives_no_next : (old new : S) (fault : SourceFault) → gs.failed new ≡ true
      → ((byte : ℕ) → fault ≡ Truncated byte → OnSome (gs.words old) ((gs.words old ≡ Some []) × (gs.is_cut old ≡ true) × (gs.places old ≡ gs.place new ∷ [])))
      → ((byte : ℕ) → fault ≡ Truncated byte → (byte ≡ gs.place new) × (gs.broken old ≡ false) × (gs.broken new ≡ true) × (gs.failures new ≡ gs.failures old))
      → (fault ≡ Device → Fails (gs.broken old) (gs.failures old) (gs.failures new) × (gs.broken new ≡ true))
      → (fault ≡ Spent → WasBroken (gs.broken old) (gs.broken new) (gs.failures old) (gs.failures new)
      × (gs.place new ≡ gs.place old) × Keeps (gs.unread old) (gs.unread new))
      → GivesNone gs old new fault
  gives_no_next old new x3 failed cut at device broken = search rules

module _ {S K : Type 0} {gs : source.Ghosts S} {gk : sink.Ghosts K} where
  -- nothing yet
  pub copies_start : {s : S} {k : K} → Transcodes gs gk s s k k 0
  copies_start {s} {k} = record { own = []; many = refl; gives = gives_none gs s; fills = fills_none gk k }

  -- some words, and then others
  pub copies_both : {old now new : S} {before between after : K} {n m : ℕ} → Transcodes gs gk old now before between n
      → Transcodes gs gk now new between after m → Transcodes gs gk old new before after (n + m)
  copies_both {old} {now} {new} {before} {between} {after} c d =
      search (rules, length-append c.own d.own, gives_both gs old now new c.own d.own c.gives d.gives, fills_both gk before between after c.own d.own c.fills d.fills)

  -- the output failed after words that were put
  pub stops_midway : {at_once most n rest : ℕ} {old now new : S} {before between after : K} {out : OutFault}
      → Transcodes gs gk old now before between n → HandsOver gs gk rest now new between after out → rest ≤ at_once
      → n + rest ≤ most
      → StopsMidway gs gk at_once most old new before after out
  stops_midway {old = old} {now = now} {new = new} {before = before} {between = between} {after = after} {out = out} c h once buffer =
      search (rules, length-append c.own h.piece, gives_both gs old now new c.own h.piece c.gives h.gives, halts_after gk before between after c.own h.piece (sink_fault_of out) c.fills h.halts)
