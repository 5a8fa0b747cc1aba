-- The files of a call, and what a job reads of them.
use Rattle.std.specs.Prelude.{◌≡◌, ◌==◌, ◌&&◌, ℕ, Bool, true, false, not, if◌then◌else◌, Option, Some, None, is_none, Result, Ok, Err, List, [], ◌∷◌, length}
use Rattle.std.specs.Str.{bytes_eq}
use Rattle.std.specs.declared.io.ErrorKind.{ErrorKind}
use Rattle.std.specs.declared.io.ErrorKind.TheVariants.{OutOfMemory}
use Rattle.l4_commands.specs.Files.{expected_of, file_of, second_file_of}
use Rattle.l4_commands.specs.declared.job.Job.{Job}
use Rattle.l4_jobs.specs.Inputs.{Names, gives_nothing}
use Rattle.l4_jobs.specs.declared.fault.Fault.{Fault}
use Rattle.l4_jobs.specs.declared.fault.Reason.TheVariants.{NoSuchFile}
use Rattle.l4_c.specs.declared.files.Files.{Files}

-- A file is its name and what it has. One without a name is not there.
abbrev pub three_files : (first_name first second_name second third_name third : List ℕ) →
    List (List ℕ × List ℕ)
three_files first_name first second_name second third_name third =
    (first_name, first) ∷ (second_name, second) ∷ (third_name, third) ∷ []

abbrev pub files_in : Files → List (List ℕ × List ℕ)
files_in files =
    three_files files.first.name.now files.first.text.now files.second.name.now
    files.second.text.now files.third.name.now files.third.text.now

abbrev pub is_named : (name : List ℕ) → (file : List ℕ × List ℕ) → Bool
is_named name file = not (length file.0 == 0) && bytes_eq file.0 name

-- What the first file of this name has.
abbrev pub found : (name : List ℕ) → List (List ℕ × List ℕ) → Option (List ℕ)
found name [] = None
found name (file ∷ files) = if is_named name file then Some file.1 else found name files

-- The same of a name that there may be.
abbrev pub found_where : (name : Option (List ℕ)) → List (List ℕ × List ℕ) → Option (List ℕ)
found_where None files = None
found_where (Some name) files = found name files

-- Reading a file gives what it has, unless memory is refused.
abbrev pub gives_in : (text : Option (List ℕ)) → Result (List ℕ) ErrorKind → Type 0
gives_in (Some text) (Ok read) = read ≡ text
gives_in (Some text) (Err kind) = kind ≡ OutOfMemory
gives_in None read = gives_nothing read

-- The names of the files that a job reads, in the order in which they are looked for.
abbrev pub names_of : Job → List (Option (List ℕ))
names_of job = Some (file_of job) ∷ second_file_of job ∷ expected_of job ∷ []

-- The first of these names whose file is not there.
abbrev pub is_missing : (name : Option (List ℕ)) → List (List ℕ × List ℕ) → Bool
is_missing None files = false
is_missing (Some name) files = is_none (found name files)

abbrev pub first_missing : (names : List (Option (List ℕ))) → List (List ℕ × List ℕ) →
    Option (List ℕ)
first_missing [] files = None
first_missing (name ∷ names) files =
    if is_missing name files then name else first_missing names files

-- The fault that the file of this name is not there.
abbrev pub IsNotThere : (name : Option (List ℕ)) → Fault → Type 0
IsNotThere None f = ⊥
IsNotThere (Some name) f = Names name NoSuchFile f
