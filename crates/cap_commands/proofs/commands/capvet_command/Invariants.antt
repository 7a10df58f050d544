-- The command so far is not broken.
use Rattle.std.proofs.Common.{false, ◌≡◌}
use Rattle.clap.specs.Words.{is_broken}
use Rattle.cap_commands.proofs.commands.capvet_command.Given as goal

abbrev pub invariant-loop-form : goal.invariant-loop-form
invariant-loop-form l = is_broken l.command ≡ false
