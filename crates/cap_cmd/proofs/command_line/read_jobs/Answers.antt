-- A job has named files, or one of its own, or none: by those that the arguments have.
use Rattle.clap.specs.Words.{found_of}
use Rattle.cap_cmd.proofs.NamedFiles.{read_one_or_named}
use Rattle.cap_cmd.proofs.command_line.read_jobs.Goals as goal

pub returns-in-Some-clause-files : goal.returns-in-Some-clause-files
returns-in-Some-clause-files c = read_one_or_named (found_of c.in-Some.options.now) c.subcommand_jobs.result c.subcommand_jobs.ensures.files
