-- What the commands and options of a command line ask (profile).
use Rattle.std.specs.Prelude.{Bool, List, codes, false, if◌then◌else◌, not, true, ℕ, ◌||◌, ◌≡◌, ◌≤◌}
use Rattle.std.specs.Global.{Vec}
use Rattle.cap_spec.specs.GreatestLimits.{most_depth, most_words}
use Rattle.cap_spec.specs.declared.Step.{Step}
use Rattle.cap_frame.specs.Limit.{limit_of}
use Rattle.cap_walk.specs.Demands.{no_demands}
use Rattle.cap_walk.specs.Limits.{depth_of, words_of}
use Rattle.cap_walk.specs.declared.demands.Demands.{Demands}
use Rattle.cap_run.specs.Engines.{most_messages}
use Rattle.cap_run.specs.declared.settings.FilterForm.{FilterForm}
use Rattle.cap_cmd.specs.declared.asking.Command.{Command}
use Rattle.cap_cmd.specs.declared.asking.Command.TheVariants as command
use Rattle.cap_cmd.specs.declared.asking.Options.{Options}
use Rattle.cap_cmd.specs.declared.jobs.Job.{Job}
use Rattle.cap_cmd.specs.declared.jobs.JsonReport.{JsonReport}
use Rattle.cap_cmd.specs.declared.jobs.JsonReport.TheVariants as report
use Rattle.cap_cmd.specs.declared.jobs.Task.{Task}
use Rattle.cap_cmd.specs.declared.jobs.Task.TheVariants as task
use Rattle.cap_cmd.specs.declared.jobs.Work.{Work}
use Rattle.cap_cmd.specs.declared.jobs.Work.TheVariants as work

-- the name of a command
abbrev pub command_name : Command → List ℕ
command_name command.Segments = codes "segments"
command_name command.Vet = codes "vet"
command_name command.Explain = codes "explain"
command_name command.Filter = codes "filter"
command_name command.Dump = codes "dump"
command_name command.Get = codes "get"
command_name command.Check = codes "check"
command_name command.Canon = codes "canon"
command_name command.Hash = codes "hash"
command_name command.Pack = codes "pack"
command_name command.Unpack = codes "unpack"

-- the demands of the options `--strict` and `--unamplified`
abbrev pub demands_given : Options → Demands
demands_given o = record { strict = o.strict; unamplified = o.unamplified }

-- what is demanded of each message: a filter makes both demands, unless an option lifts one
abbrev pub demands_asked : Command → Options → Demands
demands_asked command.Filter o = record { strict = not o.allow_nonstrict; unamplified = not o.allow_amplified }
demands_asked command.Segments o = demands_given o
demands_asked command.Vet o = demands_given o
demands_asked command.Explain o = demands_given o
demands_asked command.Dump o = demands_given o
demands_asked command.Get o = demands_given o
demands_asked command.Check o = demands_given o
demands_asked command.Canon o = demands_given o
demands_asked command.Hash o = demands_given o
demands_asked command.Pack o = demands_given o
demands_asked command.Unpack o = demands_given o

-- what the options of a filter ask
abbrev pub form_asked : Options → FilterForm
form_asked o = record { exclusive = o.exclusive; stop = o.stop; pack = o.pack }

-- work without demands, as a task
abbrev pub plain_task : Work → Task
plain_task (work.Vet exclusive) = task.Vet exclusive
plain_task (work.Explain exclusive canonical) = task.Under no_demands (work.Explain exclusive canonical)
plain_task (work.Filter form) = task.Under no_demands (work.Filter form)
plain_task work.Dump = task.Dump
plain_task (work.Get path) = task.Get path
plain_task work.Check = task.Check
plain_task work.Canon = task.Canon
plain_task (work.Hash alone) = task.Under no_demands (work.Hash alone)
plain_task (work.Json reported) = task.Under no_demands (work.Json reported)

-- the work that writes JSON objects with this report, if that is asked, or else other work
abbrev pub or_json : Bool → JsonReport → Work → Work
or_json json reported w = if json then work.Json reported else w

-- work under demands, as a task: over exactly one message, or over a stream
abbrev pub task_under : Demands → Bool → Work → Task
task_under demands true w = task.One demands w
task_under demands false w = if demands.strict || demands.unamplified then task.Under demands w else plain_task w

-- the task of a command, with this path for `get`
abbrev pub task_asked : Command → Options → Vec Step → Task
task_asked command.Segments o path = task.Segments
task_asked command.Pack o path = task.Pack
task_asked command.Unpack o path = task.Unpack
task_asked command.Vet o path =
    task_under (demands_asked command.Vet o) o.one (or_json o.json (report.Vet o.exclusive) (work.Vet o.exclusive))
task_asked command.Explain o path =
    task_under (demands_asked command.Explain o) o.one
    (or_json o.json (report.Explain o.exclusive o.canonical) (work.Explain o.exclusive o.canonical))
task_asked command.Filter o path = task_under (demands_asked command.Filter o) o.one (work.Filter (form_asked o))
task_asked command.Dump o path = task_under (demands_asked command.Dump o) o.one work.Dump
task_asked command.Get o path = task_under (demands_asked command.Get o) o.one (work.Get path)
task_asked command.Check o path = task_under (demands_asked command.Check o) o.one (or_json o.json report.Check work.Check)
task_asked command.Canon o path = task_under (demands_asked command.Canon o) o.one work.Canon
task_asked command.Hash o path =
    task_under (demands_asked command.Hash o) o.one (or_json o.json report.Hash (work.Hash o.one))

-- each limit is one that there can be
abbrev pub IsInRange : Options → Type 0
IsInRange o = (o.size ≤ most_words) × (o.words ≤ most_words) × (o.depth ≤ most_depth)

-- A job does what a command asks with these options, and with this path for `get`.
pub record IsAsked (c : Command) (o : Options) (path : Vec Step) (job : Job) : Type 0 where
  pub task : job.task ≡ task_asked c o path
  pub packed : job.packed ≡ o.packed
  pub size : limit_of job.settings.size ≡ o.size
  pub words : words_of job.settings.limits ≡ o.words
  pub depth : depth_of job.settings.limits ≡ o.depth
  pub messages : job.settings.messages ≡ most_messages

-- it does what some command asks with some options
abbrev pub IsAskedJob : Job → Type 0
IsAskedJob job = (c : Command) × (o : Options) × (path : Vec Step) × IsAsked c o path job
