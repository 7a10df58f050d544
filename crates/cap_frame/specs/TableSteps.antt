-- What is known of the sizes that were read of a table, when a fault comes (profile).
use Rattle.std.specs.Prelude.{List, None, Option, [], ℕ, ⊤, ◌≡◌}
use Rattle.cap_frame.specs.TablesLeft.{HasSizes, sums_of}
use Rattle.cap_frame.specs.declared.fault.FrameFault.{FrameFault}
use Rattle.cap_frame.specs.declared.fault.FrameFault.TheVariants.{Device, Memory, Spent, TooLarge, TooManySegments}
use Rattle.cap_frame.specs.declared.fault.FrameFault.TheVariants.{Truncated}
use Rattle.cap_frame.specs.declared.table.TableSums.{TableSums}

-- the sizes that are known after a fault
abbrev pub LeavesSizes : FrameFault → List ℕ → List ℕ → Type 0
LeavesSizes (TooManySegments count) words sizes = sizes ≡ []
LeavesSizes (TooLarge n) words sizes = HasSizes words sizes
LeavesSizes (Truncated byte) words sizes = HasSizes words sizes
LeavesSizes Device words sizes = ⊤
LeavesSizes Memory words sizes = ⊤
LeavesSizes Spent words sizes = ⊤

-- what is kept of them
abbrev pub sums_after : FrameFault → List ℕ → Option TableSums
sums_after (TooManySegments count) sizes = None
sums_after (TooLarge n) sizes = sums_of sizes
sums_after (Truncated byte) sizes = sums_of sizes
sums_after Device sizes = None
sums_after Memory sizes = None
sums_after Spent sizes = None
