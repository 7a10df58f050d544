-- Which files a command reads, and which of them are named in its lines (profile).
use Rattle.std.specs.Prelude.{List, None, Option, Some, [], codes, if◌then◌else◌, length, map, nat_lt, option_map, slice_get, string_bytes, ℕ, ◌==◌, ◌≡◌, ◌⊎◌}
use Rattle.clap.specs.Words.{matched_of, raw_values}
use Rattle.clap.specs.declared.parser.matches.Found.{Found}
use Rattle.cap_cmd.specs.declared.jobs.Jobs.{Jobs}

-- several FILEs, or no names if there is at most one
abbrev pub named_of_files : Option (List (List ℕ)) → List (List ℕ)
named_of_files None = []
named_of_files (Some names) = if nat_lt 1 (length names) then names else []

-- the files after `--files`, or else several FILEs
abbrev pub named_by : Option (List (List ℕ)) → Option (List (List ℕ)) → List (List ℕ)
named_by (Some names) files = names
named_by None files = named_of_files files

-- the one FILE, if there is exactly one
abbrev pub single_of_files : Option (List (List ℕ)) → Option (List ℕ)
single_of_files None = None
single_of_files (Some names) = if length names == 1 then slice_get names 0 else None

-- without `--files` it is one FILE
abbrev pub single_by : Option (List (List ℕ)) → Option (List (List ℕ)) → Option (List ℕ)
single_by (Some names) files = None
single_by None files = single_of_files files

-- the values of an argument, by its name
abbrev pub argument_values : Found → List ℕ → Option (List (List ℕ))
argument_values found id = option_map raw_values (matched_of found id)

-- the files that are named in each line: those after `--files`, or else several FILEs
abbrev pub named_asked : Found → List (List ℕ)
named_asked found = named_by (argument_values found (codes "files")) (argument_values found (codes "file"))

-- the file that isn't: one FILE, without `--files`
abbrev pub single_asked : Found → Option (List ℕ)
single_asked found = single_by (argument_values found (codes "files")) (argument_values found (codes "file"))

-- a job has files that are named, or one that isn't, or none, and never both
abbrev pub IsOneOrNamed : Jobs → Type 0
IsOneOrNamed jobs = (jobs.named_files.items ≡ []) ⊎ (jobs.job.file ≡ None)

-- the files of a job are those that the arguments have
pub record HasFilesOf (found : Found) (jobs : Jobs) : Type 0 where
  pub single : option_map string_bytes jobs.job.file ≡ single_asked found
  pub named : map string_bytes jobs.named_files.items ≡ named_asked found
