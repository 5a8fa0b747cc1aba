-- From what is done of sources to what is done of files.
use Rattle.std.proofs.Common.{◌≡◌, ◌⊎◌, ℕ, Option, None, List, inr, refl, subst}
use Rattle.l4_commands.specs.Files.{expected_of, file_of, second_file_of}
use Rattle.l4_commands.specs.declared.job.Job.{Job}
use Rattle.l4_jobs.specs.Jobs.{IsDone, IsFault}
use Rattle.l4_jobs.specs.Outputs.{Output}
use Rattle.l4_jobs.specs.Rounds.{IsInRounds}
use Rattle.l4_jobs.specs.declared.fault.Fault.{Fault}
use Rattle.l4_jobs.specs.declared.fault.Fault.TheVariants as fault
use Rattle.l4_c.specs.Answers.{Answered, IsDoneOver, IsFaultyOver, recorded_of}
use Rattle.l4_c.specs.Files.{first_missing, found, found_where, gives_in, names_of}

pub done_over : (job in_place : Job) (files : List (List ℕ × List ℕ)) (machine second expects : Option (List ℕ)) (o : Output) (recorded : List ℕ) →
    first_missing (names_of job) files ≡ None → IsInRounds job in_place → machine ≡ found (file_of job) files →
    second ≡ found_where (second_file_of job) files → expects ≡ found_where (expected_of job) files →
    IsDone in_place (gives_in machine) (gives_in second) (gives_in expects) o → recorded ≡ recorded_of o.list →
    IsDoneOver job files (record { out = o.lines; faults = o.said; recorded = recorded; status = o.status })
done_over job in_place files machine second expects o recorded there is first two three done list = record {
  there = there;
  in_place = in_place;
  is_in_place = is;
  output = o;
  done = subst (λ e. IsDone in_place (gives_in (found (file_of job) files)) (gives_in (found_where (second_file_of job) files)) (gives_in e) o) three
      (subst (λ s. IsDone in_place (gives_in (found (file_of job) files)) (gives_in s) (gives_in expects) o) two
      (subst (λ m. IsDone in_place (gives_in m) (gives_in second) (gives_in expects) o) first done));
  out = refl;
  faults = refl;
  status = refl;
  recorded = list;
}

pub fault_over : (job in_place : Job) (files : List (List ℕ × List ℕ)) (machine second expects : Option (List ℕ)) → first_missing (names_of job) files ≡ None →
    IsInRounds job in_place → machine ≡ found (file_of job) files → second ≡ found_where (second_file_of job) files →
    expects ≡ found_where (expected_of job) files → (f : Fault) → IsFault in_place (gives_in machine) (gives_in second) (gives_in expects) f →
    (f ≡ fault.NoMemory) ⊎ IsFaultyOver job files f
fault_over job in_place files machine second expects there is first two three f faulty = inr (inr (record {
  there = there;
  in_place = in_place;
  is_in_place = is;
  fault = subst (λ e. IsFault in_place (gives_in (found (file_of job) files)) (gives_in (found_where (second_file_of job) files)) (gives_in e) f) three
      (subst (λ s. IsFault in_place (gives_in (found (file_of job) files)) (gives_in s) (gives_in expects) f) two
      (subst (λ m. IsFault in_place (gives_in m) (gives_in second) (gives_in expects) f) first faulty));
}))
