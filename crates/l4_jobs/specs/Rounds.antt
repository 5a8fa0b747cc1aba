-- Jobs on one thread of the host, where a run goes in rounds.
use Rattle.std.specs.Prelude.{◌≡◌, Some, List, ℕ, []}
use Rattle.std.specs.Borrow.{Bor}
use Rattle.l4_commands.specs.declared.job.Job.{Job}
use Rattle.l4_commands.specs.declared.job.Job.TheVariants.{Run, Replay}

-- What is done in the place of a job: of a run the replay of no entries, which goes on until rest for
-- the turns of the run.
abbrev pub IsInRounds : Job → Job → Type 0
IsInRounds (Run run) in_place =
    (list : Bor (List ℕ)) × (list.now ≡ []) × (in_place ≡ Replay (record {
      file = run.file;
      schedule = list;
      then_rest = Some run.turns;
      printed = run.printed;
      record_to = run.record_to;
      expected = run.expected;
    }))
IsInRounds job in_place = in_place ≡ job
