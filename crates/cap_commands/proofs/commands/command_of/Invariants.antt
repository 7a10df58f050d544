-- The command so far is not broken.
use Rattle.std.proofs.Common.{false, ◌≡◌}
use Rattle.clap.specs.Words.{is_broken}
use Rattle.cap_commands.proofs.commands.command_of.Given as goal

abbrev pub invariant-loop-part : goal.invariant-loop-part
invariant-loop-part l = is_broken l.command ≡ false
