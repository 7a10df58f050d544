-- What reading a message of a source says of the source before and after, and of the result (profile). g has the
-- members of the source's type.
use Rattle.std.specs.Prelude.{Bool, Err, IfErr, IsOkAnd, IsSomeAnd, List, None, Ok, OnOk, OnSome, Option, Result, Some}
use Rattle.std.specs.Prelude.{[], drop, false, length, sum, true, ℕ, ◌%◌, ◌*◌, ◌+◌, ◌<◌, ◌^◌, ◌∷◌, ◌≡◌, ◌≤◌}
use Rattle.cap_spec.specs.Endings.{BeginsMessage, GivesTooMany, GivesTooMuch}
use Rattle.cap_spec.specs.Frames.{Frames, IsPartial, sizes_of}
use Rattle.cap_frame.specs.ReadingFaults.{Answered, Faults, TakesTable}
use Rattle.cap_frame.specs.Taking.{IsUsable, ReadsInput, Takes}
use Rattle.cap_frame.specs.declared.fault.FrameFault.{FrameFault}
use Rattle.cap_frame.specs.declared.fault.FrameFault.TheVariants.{Spent, TooLarge, TooManySegments, Truncated}
use Rattle.cap_words.specs.declared.sources.WordSource as source

-- a result as whether there was a message
abbrev pub has_message : {M : Type 0} → Result (Option M) FrameFault → Result Bool FrameFault
has_message (Ok (Some k)) = Ok true
has_message (Ok None) = Ok false
has_message (Err fault) = Err fault

-- The result is a message of these segments, which `segments` gives.
abbrev pub IsResult : {M : Type 0} → (M → List (List ℕ)) → Result (Option M) FrameFault → List (List ℕ) → Type 0
IsResult segments result m = IsOkAnd result (λ r. IsSomeAnd r (λ k. segments k ≡ m))

module _ {X : Type 0} (g : source.Ghosts X) where
  -- The words of a frame of this message, within the limit, were taken, and no more.
  pub record TakesFrame (limit : ℕ) (old new : X) (m : List (List ℕ)) : Type 0 where
    pub own : List ℕ
    pub takes : Takes g old new own
    pub frames : Frames own m
    pub within : sum (sizes_of m) ≤ limit

  -- A table within the limit was taken, and no more, whose words need more bytes than this.
  pub record LacksMemory (limit capacity : ℕ) (old new : X) : Type 0 where
    pub sizes : List ℕ
    pub takes : TakesTable g old new sizes
    pub within : sum sizes ≤ limit
    pub lacks : capacity < 8 * sum sizes

  -- The source was asked for the next message of a stream: there was one, or none, or a fault came.
  pub record ReadsNext (limit : ℕ) (old new : X) (result : Result Bool FrameFault) : Type 0 where
    pub works : OnOk result (IsUsable g old new)
    -- There was no word, and the input doesn't end inside one.
    pub none : result ≡ Ok false → OnSome (g.words old)
        ((g.words old ≡ Some []) × (g.is_cut old ≡ false) × (g.places old ≡ g.place new ∷ []))
    pub ended : result ≡ Ok false → g.ended new ≡ true
    pub stays : g.ended old ≡ true → (result ≡ Ok false) × (new ≡ old)
    pub for_good : g.failed old ≡ true → (result ≡ Err Spent) × (new ≡ old)
    pub broken : g.broken old ≡ true → result ≡ Err Spent
    -- Whatever the result is, the place counts the bytes that were read.
    pub reads : ReadsInput g old new
    -- Which words were taken before the fault, and the state of the source after it.
    pub err : IfErr result (Faults g limit old new)

  -- Known words decide the result, unless a device, memory or an earlier fault is in the way. `is`
  -- says that this message was read.
  pub record Decides (is : List (List ℕ) → Type 0) (limit : ℕ) (old new : X)
      (result : Result Bool FrameFault) : Type 0 where
    -- A prefix of them frames a message within the limit: the result is that message, and the
    -- source has the other words.
    pub whole : (ws : List ℕ) → g.words old ≡ Some ws → (b : BeginsMessage limit ws)
        → Answered result ((result ≡ Ok true) × is b.message × (g.words new ≡ Some b.rest))
    -- They end before the first one.
    pub no_word : g.words old ≡ Some [] → g.is_cut old ≡ false → Answered result (result ≡ Ok false)
    -- The first word gives too many segments.
    pub many : (ws : List ℕ) → g.words old ≡ Some ws → (b : GivesTooMany ws)
        → Answered result ((result ≡ Err (TooManySegments (b.first % 2 ^ 32 + 1))) × (g.words new ≡ Some b.rest))
    -- The table is whole and past the limit.
    pub large : (ws : List ℕ) → g.words old ≡ Some ws → (b : GivesTooMuch limit ws)
        → Answered result ((result ≡ Err (TooLarge (sum b.sizes))) × (g.words new ≡ Some b.rest))
    -- They end inside a message.
    pub cut_short : (ws : List ℕ) → g.words old ≡ Some ws → IsPartial limit ws (g.is_cut old)
        → Answered result ((byte : ℕ) × (result ≡ Err (Truncated byte)) × (drop (length ws) (g.places old) ≡ byte ∷ []))

  -- The next message of a stream was read: `is` says of a message that it is the one. Or there was none,
  -- or a fault came.
  pub record ReadsFrame (is : List (List ℕ) → Type 0) (limit : ℕ) (old new : X)
      (result : Result Bool FrameFault) : Type 0 where
    -- The words that were taken frame the message, within the limit.
    pub message : result ≡ Ok true → (m : List (List ℕ)) × TakesFrame limit old new m × is m
    pub next : ReadsNext limit old new result
    -- And the other way round, where the words are known and no device, memory or earlier fault is in the way.
    pub decides : Decides is limit old new result
