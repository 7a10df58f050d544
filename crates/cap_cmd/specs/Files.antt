-- What a job writes about one of several files: the name of the file is in each line (profile).
use Rattle.std.specs.Io.KnownBytes.{Appends}
use Rattle.std.specs.Prelude.{Bool, List, Some, [], codes, false, flat_map, get_or, if◌then◌else◌, nat_lt, take, true, ℕ, ◌%◌, ◌++◌, ◌/◌}
use Rattle.std.specs.Prelude.{◌==◌, ◌||◌, ◌∷◌, ◌≡◌, ◌≢◌, ◌⊎◌}
use Rattle.cap_cmd.specs.Jobs.{DoesJob, WritesAll, input_is_cut, input_words}
use Rattle.cap_cmd.specs.Marking.{marked_text}
use Rattle.cap_cmd.specs.Statuses.{failed_status}
use Rattle.cap_cmd.specs.declared.files.FileMarks.{FileMarks}
use Rattle.cap_cmd.specs.declared.jobs.Job.{Job}
use Rattle.cap_cmd.specs.declared.jobs.Task.{Task}
use Rattle.cap_cmd.specs.declared.jobs.Task.TheVariants as task
use Rattle.cap_cmd.specs.declared.jobs.Work.TheVariants as work
use Rattle.cap_words.specs.declared.byte_io.ByteIn as input
use Rattle.cap_words.specs.declared.byte_io.ByteOut as output
use Rattle.cap_words.specs.declared.sinks.WordSink as sink
use Rattle.cap_words.specs.declared.sources.WordSource as source

-- whether a task writes objects of JSON
abbrev pub writes_objects : Task → Bool
writes_objects (task.Under demands (work.Json reported)) = true
writes_objects (task.One demands (work.Json reported)) = true
writes_objects _ = false

-- a byte in a string of JSON (RFC 8259, section 7)
abbrev pub json_byte : ℕ → List ℕ
json_byte b = if (b == 34) || (b == 92) then 92 ∷ (b ∷ [])
    else (if nat_lt b 32 then codes "\\u00" ++ (get_or (codes "0123456789abcdef") (b / 16) 0 ∷ (get_or (codes "0123456789abcdef") (b % 16) 0 ∷ []))
    else (b ∷ []))

abbrev pub json_bytes : List ℕ → List ℕ
json_bytes bytes = flat_map json_byte bytes

-- the start of a line about a file
abbrev pub name_mark : List ℕ → List ℕ
name_mark name = name ++ codes ": "

-- the first member of an object about a file
abbrev pub name_member : List ℕ → List ℕ
name_member name = codes "\"file\":\"" ++ json_bytes name ++ codes "\","

-- the mark of each line of a task about a file, which comes after the brace of an object
abbrev pub file_mark : Task → List ℕ → List ℕ
file_mark t name = if writes_objects t then name_member name else name_mark name

abbrev pub file_place : Task → ℕ
file_place t = if writes_objects t then 1 else 0

module _ {O M : Type 0} (go : output.Ghosts O) (gm : output.Ghosts M) where
  -- An output in whose lines marks are put: an engine takes it from `begun` to `ended`. If the output was
  -- empty, it has each text of the engine with the marks. A part of a mark may follow, if the output
  -- failed in it.
  pub record PutsMarks (place : ℕ) (mark : List ℕ) (before after : O) (begun ended : M) : Type 0 where
    pub broken : gm.broken begun ≡ go.broken before
    pub failures : gm.failures begun ≡ go.failures before
    pub broken_after : gm.broken ended ≡ go.broken after
    pub failures_after : gm.failures ended ≡ go.failures after
    pub part : ℕ
    pub texts : (text : List ℕ) → go.written before ≡ Some [] → Appends (gm.written begun) (gm.written ended) text
        → go.written after ≡ Some (marked_text place mark text ++ take part mark)

module _ {I S F O E M N P U : Type 0} (gi : input.Ghosts I) (gs : source.Ghosts S) (gf : source.Ghosts F)
    (go : output.Ghosts O) (ge : output.Ghosts E) (gm : output.Ghosts M) (gn : output.Ghosts N)
    (gp : sink.Ghosts P) (gu : sink.Ghosts U) where
  -- A job is done over a file, and each line that it writes gets its mark. Its status is that of the job,
  -- unless a part of a mark is at the end of the output. With the status of success everything was
  -- written, as over one file.
  pub record RunsFile (packed : Bool) (job : Job) (marks : FileMarks) (start : I) (before after : O) (old new : E)
      (status : ℕ) : Type 0 where
    pub begun : M
    pub ended : M
    pub first : N
    pub last : N
    pub done : ℕ
    pub does : DoesJob gi gs gf gm gn gp gu packed job start begun ended first last done
    pub out : PutsMarks go gm marks.place marks.out.items before after begun ended
    pub err : PutsMarks ge gn 0 marks.err.items old new first last
    pub status_is : (status ≡ done) ⊎ (status ≡ failed_status)
    pub whole : status ≢ failed_status → out.part ≡ 0
    pub same : out.part ≡ 0 → status ≡ done
    pub success : status ≡ 0 → WritesAll job.task job.packed job.settings (input_words packed (gi.to_come start))
        (input_is_cut packed (gi.to_come start)) (gm.written begun) (gm.written ended)
