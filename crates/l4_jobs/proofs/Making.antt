-- From what is made of a text to what is made of all that the sources of a job give.
use Rattle.std.proofs.Common.{◌≡◌, ℕ, Result, Ok, Err, List, refl, ap, sym, subst, inl, inr}
use Rattle.std.specs.Prelude.{◌⊎◌, IfOk}
use Rattle.l4_model.specs.Machine.{Machine}
use Rattle.l4_script.specs.Versions.{machine_of_text}
use Rattle.l4_script.specs.declared.text.fault.TextFault.{TextFault}
use Rattle.l4_script.specs.declared.text.fault.TextFaultKind.TheVariants.{NoMemory as NoMemoryKind}
use Rattle.l4_commands.specs.declared.job.Job.{Job}
use Rattle.l4_jobs.specs.Inputs.{Gives}
use Rattle.l4_jobs.specs.Jobs.{IsDone, IsDoneFor, IsFaultyDone, IsInLinesFor, name_shown}
use Rattle.l4_jobs.specs.Objects.{is_retold, told}
use Rattle.l4_jobs.specs.Outputs.{Output}
use Rattle.l4_jobs.specs.Inner.Reading.{IsReadAs}
use Rattle.l4_jobs.proofs.Linting.{linted_as}

-- What is made of the part of a text that was read is made of all of it.

-- A text that declares a machine was read whole. Of any other only a lint tells something.
for_as : (job : Job) (read all : List ℕ) (d : Result Machine TextFault) (second expects : Gives) (o : Output) → machine_of_text all ≡ d → IsReadAs read all →
    IsInLinesFor job read d second expects o → IsInLinesFor job all d second expects o
for_as job read all (Ok m) second expects o declares same is = subst (λ t. IsInLinesFor job t (Ok m) second expects o) (same.whole m declares) is
for_as job read all (Err t) second expects o declares same is = (is.0, linted_as (name_shown job) read all o same is.1)

pub done_given : (job : Job) (machine second expects : Gives) (read slice : List ℕ) (o : Output) → (all : List ℕ) × machine (Ok all) × IsReadAs read all → slice ≡ read →
    IsDoneFor job slice (machine_of_text slice) second expects o → IsDone job machine second expects o
done_given job machine second expects read slice o (all, given, same) is done =
    let of_read : IsDoneFor job read (machine_of_text all) second expects o =
    subst (λ d. IsDoneFor job read d second expects o) same.machine (subst (λ t. IsDoneFor job t (machine_of_text t) second expects o) is done) in
    record {
      text = all;
      given = given;
      is = record {
        lines = of_read.lines;
        in_lines = for_as job read all (machine_of_text all) second expects (record o { lines = of_read.lines }) refl same of_read.in_lines;
        told_are = of_read.told_are;
      };
    }

-- Lines that are told as objects, where that is asked for.
pub told_done : (job : Job) (text : List ℕ) (d : Result Machine TextFault) (second expects : Gives) (o objects : Output) → IsInLinesFor job text d second expects o →
    objects ≡ record o { lines = told (is_retold job) o.lines } → IsDoneFor job text d second expects objects
told_done job text d second expects o objects is told_as = rw told_as (record { lines = o.lines; in_lines = is; told_are = refl })

-- For a text with a fault

pub both_ok : {X Y : Type 0} (r : Result X Y) (P Q R : X → Type 0) → ((x : X) → P x → Q x → R x) → IfOk r P → IfOk r Q → IfOk r R
both_ok (Ok x) P Q R h p q = h x p q
both_ok (Err y) P Q R h p q = tt

pub faulty_done : (job : Job) (text : List ℕ) (d : Result Machine TextFault) (t : TextFault) (second expects : Gives) (o : Output) →
    (t ≡ record { line = 0; kind = NoMemoryKind }) ⊎ (d ≡ Err t) → IsFaultyDone job text o → (t.kind ≡ NoMemoryKind → ⊥) → IsInLinesFor job text d second expects o
faulty_done job text d t second expects o (inl none) is declared = elim (declared (ap (λ (f : TextFault). f.kind) none)) [ ]
faulty_done job text d t second expects o (inr at) is declared = subst (λ r. IsInLinesFor job text r second expects o) (sym at) is
