-- A job has files that are named, or one that isn't, and never both.
use Rattle.std.proofs.Common.{List, None, Option, Some, [], Err, IfOk, Ok, Result, ap, arith, codes, false, inl, inr, is_some, length, refl, string_bytes, true≢false, ℕ, ◌∷◌, ◌==◌, ◌∙◌, ◌≡◌, ◌⊎◌}
use Rattle.std.specs.Prelude.{map, option_map}
use Rattle.clap.specs.declared.parser.matches.Found.{Found}
use Rattle.cap_cmd.specs.Naming.{HasFilesOf, IsOneOrNamed, named_by, named_of_files, single_by, single_of_files, argument_values}
use Rattle.cap_cmd.specs.declared.jobs.JobFault.{JobFault}
use Rattle.cap_cmd.specs.declared.jobs.Jobs.{Jobs}

of_files : (names : List (List ℕ)) → (named_of_files (Some names) ≡ []) ⊎ (single_of_files (Some names) ≡ None)
of_files [] = inl refl
of_files (x ∷ []) = inl refl
of_files (x ∷ (y ∷ names)) =
    let many : (length (x ∷ (y ∷ names)) == 1) ≡ false = grind arith in
    inr (rw many refl)

pub never_both : (files file : Option (List (List ℕ))) → (named_by files file ≡ []) ⊎ (single_by files file ≡ None)
never_both (Some names) file = inr refl
never_both None None = inl refl
never_both None (Some names) = of_files names

pub no_names : {A B : Type 0} (f : A → B) (names : List A) → map f names ≡ [] → names ≡ []
no_names f [] e = refl
no_names f (x ∷ names) e = absurd (omega (arith, ap length e))

pub no_name : {A B : Type 0} (f : A → B) (name : Option A) → option_map f name ≡ None → name ≡ None
no_name f None e = refl
no_name f (Some x) e = absurd (true≢false (ap is_some e))

one_or_named : (found : Found) (jobs : Jobs) → HasFilesOf found jobs → IsOneOrNamed jobs
one_or_named found jobs h = elim (never_both (argument_values found (codes "files")) (argument_values found (codes "file"))) [
  | inl none ↦ inl (no_names string_bytes jobs.named_files.items (h.named ∙ none))
  | inr none ↦ inr (no_name string_bytes jobs.job.file (h.single ∙ none))
]

pub read_one_or_named : (found : Found) (r : Result Jobs JobFault) → IfOk r (HasFilesOf found) → IfOk r IsOneOrNamed
read_one_or_named found (Ok jobs) h = one_or_named found jobs h
read_one_or_named found (Err fault) h = tt
