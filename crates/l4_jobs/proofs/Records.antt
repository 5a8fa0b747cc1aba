-- A replay of a record comes to what the run came to.
use Rattle.std.proofs.Common.{◌≡◌, ℕ, Option, Some, None, Ok, List, ◌++◌, refl, ap, sym, subst, ◌∙◌}
use Rattle.l4_model.specs.History.{reached}
use Rattle.l4_model.specs.Machine.{Machine}
use Rattle.l4_model.specs.World.{World}
use Rattle.l4_core_model.specs.Runs.{Run}
use Rattle.l4_core_model.specs.Schedules.{replay_entries}
use Rattle.l4_expect.specs.Expected.{Expected}
use Rattle.l4_machine.specs.Outcomes.{Findings, IsOutcomeOf}
use Rattle.l4_machine.proofs.OneOutcome.{one_outcome}
use Rattle.l4_commands.specs.Files.{list_name}
use Rattle.l4_commands.specs.declared.job.Printed.{Printed}
use Rattle.l4_jobs.specs.Expectations.{status_by, unmet_by}
use Rattle.l4_jobs.specs.Extras.{behind}
use Rattle.l4_jobs.specs.Objects.{told}
use Rattle.l4_jobs.specs.Outputs.{Output}
use Rattle.l4_jobs.specs.Records.{IsRepeatedBy, unrecorded}
use Rattle.l4_jobs.specs.Runs.{IsRecord, IsRunDone, IsWritten, lines_of_outcome, report_of, status_of_ending}
use Rattle.l4_jobs.specs.Schedules.{IsReplayAsked, asked_schedule, named_schedule, run_of_schedule}

by_name : (m : Machine) (list text name : List ℕ) → list_name list ≡ Some name → asked_schedule m list text ≡ named_schedule m (Some name) list text
by_name m list text name is = ap (λ o. named_schedule m o list text) is

asked : (m : Machine) (list text name : List ℕ) (f : Findings) (r : IsRecord m f text) → list_name list ≡ Some name →
    IsReplayAsked m None list text (replay_entries m r.entries)
asked m list text name f r is = ap (run_of_schedule m None) (by_name m list text name is ∙ r.reads)

again : (printed : Printed) (machine_text : List ℕ) (m : Machine) (list text name : List ℕ) (expected : Option (List Expected)) (o : Output) (f : Findings) → list_name list ≡ Some name →
    IsRecord m f text → IsWritten printed machine_text m f o.lines → o.said ≡ unmet_by expected (report_of f) →
    o.status ≡ status_by expected (report_of f) (status_of_ending f.ending) → IsRunDone printed machine_text m (IsReplayAsked m None list text) None expected (unrecorded o)
again printed machine_text m list text name expected o f is r written said ended = record {
  run = replay_entries m r.entries;
  is = asked m list text name f r is;
  findings = f;
  of_run = r.of_replay;
  written = written;
  said = said;
  status_is = ended;
  recorded = refl;
}

-- It comes to nothing else.

one_world : (m : Machine) (f : Findings) (w v : World) → reached m f.history ≡ Some w → reached m f.history ≡ Some v → w ≡ v
one_world m f w v is other = let same : Some w ≡ Some v = sym is ∙ other in cc

one_text : (printed : Printed) (machine_text : List ℕ) (m : Machine) (f : Findings) (lines others : List ℕ) → IsWritten printed machine_text m f lines → IsWritten printed machine_text m f others → others ≡ lines
one_text printed machine_text m f lines others is other =
    other.lines_are
    ∙ ap (λ w. lines_of_outcome printed machine_text m f ++ told printed.json (behind printed.extras m w f.history)) (one_world m f other.world is.world other.reaches is.reaches)
    ∙ sym is.lines_are

one_run : (m : Machine) (list text : List ℕ) (r s : Run) → IsReplayAsked m None list text r → IsReplayAsked m None list text s → r ≡ s
one_run m list text r s is other = let same : Ok r ≡ Ok s = sym is ∙ other in cc

same_output : (o p : Output) → o.lines ≡ p.lines → o.list ≡ p.list → o.said ≡ p.said → o.status ≡ p.status → o ≡ p
same_output o p lines list said status = rw (lines, list, said, status) refl

only : (printed : Printed) (machine_text : List ℕ) (m : Machine) (list text : List ℕ) (expected : Option (List Expected)) (o other : Output) →
    IsRunDone printed machine_text m (IsReplayAsked m None list text) None expected o → IsRunDone printed machine_text m (IsReplayAsked m None list text) None expected other → other ≡ o
only printed machine_text m list text expected o other a b =
    let run = one_run m list text b.run a.run b.is a.is in
    let found : b.findings ≡ a.findings = one_outcome m a.run b.findings a.findings (subst (λ r. IsOutcomeOf m r b.findings) run b.of_run) a.of_run in
    same_output other o
    (one_text printed machine_text m a.findings o.lines other.lines a.written (subst (λ f. IsWritten printed machine_text m f other.lines) found b.written))
    (b.recorded ∙ sym a.recorded)
    (b.said ∙ ap (λ (f : Findings). unmet_by expected (report_of f)) found ∙ sym a.said)
    (b.status_is ∙ ap (λ (f : Findings). status_by expected (report_of f) (status_of_ending f.ending)) found ∙ sym a.status_is)

pub repeated : (printed : Printed) (machine_text : List ℕ) (m : Machine) (IsAsked : Run → Type 0) (name : List ℕ) (expected : Option (List Expected)) (o : Output)
    (d : IsRunDone printed machine_text m IsAsked (Some name) expected o) (list other : List ℕ) → list_name list ≡ Some other →
    IsRepeatedBy printed machine_text m list d.recorded.0 expected o
repeated printed machine_text m IsAsked name expected o d list other is =
    let first = again printed machine_text m list d.recorded.0 other expected o d.findings is d.recorded.2 d.written d.said d.status_is in
    record { again = first; alone = λ p done. only printed machine_text m list d.recorded.0 expected (unrecorded o) p first done }
