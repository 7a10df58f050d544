-- What the flags of a call allow, and the form of its input (profile).
use Rattle.std.specs.Prelude.{Bool, IsTrue, List, max, min, not, replicate, slice_index, ℕ, ◌%◌, ◌*◌, ◌+◌, ◌/◌, ◌==◌, ◌≡◌, ◌≤◌}
use Rattle.cap_vet.specs.VetNames.{words_under}
use Rattle.cap_walk.specs.declared.demands.Demands.{Demands}
use Rattle.cap_calls.specs.declared.limits.CallLimits.{CallLimits}

-- the reserved fields are 0
abbrev pub HasNoReserved : CallLimits → Type 0
HasNoReserved l = (l.padding ≡ 0) × (slice_index l.reserved 0 ≡ 0) × (slice_index l.reserved 1 ≡ 0) × (slice_index l.reserved 2 ≡ 0)
    × (slice_index l.reserved 3 ≡ 0) × (slice_index l.reserved 4 ≡ 0) × (slice_index l.reserved 5 ≡ 0)

-- no other flag is set than 1 and 2, the input is a message or starts with one, and the reserved fields are 0
pub record HasKnownFlags (l : CallLimits) : Type 0 where
  pub known : l.flags ≤ 3
  pub form : l.form ≤ 1
  pub reserved : HasNoReserved l

-- the input starts with the message, and bytes may follow it
abbrev pub allows_trailing : CallLimits → Bool
allows_trailing l = l.form == 1

-- the message need not be strict
abbrev pub allows_nonstrict : CallLimits → Bool
allows_nonstrict l = l.flags % 2 == 1

-- the input is the words of one segment, without a table
abbrev pub has_no_table : CallLimits → Bool
has_no_table l = l.form == 2

-- no other flag is set than 1 and 2, the input is words, and the reserved fields are 0
pub record HasWordFlags (l : CallLimits) : Type 0 where
  pub known : l.flags ≤ 3
  pub form : l.form ≡ 2
  pub reserved : HasNoReserved l

-- the charge may be more than 4096 words above the words of the segments
abbrev pub allows_amplified : CallLimits → Bool
allows_amplified l = l.flags / 2 % 2 == 1

-- For the words of a canonical copy, whatever the form and the flag 2 say: the input is words, which may be amplified. It may
-- have one word more than the limit of the charge. An unknown flag or form stays one.
abbrev pub copy_limits : CallLimits → CallLimits
copy_limits l =
    record l {
      message_words = max l.message_words (min l.charge 268435455 + 1);
      flags = l.flags / 4 * 4 + 2 + l.flags % 2;
      form = max l.form 2;
    }

-- what else a message has to meet
abbrev pub demands_of : CallLimits → Demands
demands_of l = record { strict = not (allows_nonstrict l); unamplified = not (allows_amplified l) }

-- The highest charge of a message: the limit of the call. It is at most 4096 words above the words of the segments, unless
-- a flag allows more.
abbrev pub charge_limit : CallLimits → List (List ℕ) → ℕ
charge_limit l m = words_under (demands_of l) m l.charge

-- the default: 64 MiB, as many words of charge, 64 levels, no flags, a message and nothing else
abbrev pub default_limits : CallLimits
default_limits =
    record {
      message_words = 8388608;
      charge = 8388608;
      depth = 64;
      flags = 0;
      form = 0;
      padding = 0;
      reserved = replicate 6 0;
    }

-- No limit of k is lower than that of l, and k has each flag that l has. Bytes may follow the message in k if they may in
-- l, and k is for words only if l is. The form of l is known.
pub record AllowsMore (l k : CallLimits) : Type 0 where
  pub size : l.message_words ≤ k.message_words
  pub charge : l.charge ≤ k.charge
  pub depth : l.depth ≤ k.depth
  pub trailing : IsTrue (allows_trailing l) → IsTrue (allows_trailing k)
  pub nonstrict : IsTrue (allows_nonstrict l) → IsTrue (allows_nonstrict k)
  pub amplified : IsTrue (allows_amplified l) → IsTrue (allows_amplified k)
  pub table : has_no_table l ≡ has_no_table k
  pub form : l.form ≤ 2
