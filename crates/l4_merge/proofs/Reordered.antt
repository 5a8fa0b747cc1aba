-- Any core run is one in order of stamp.
use Rattle.std.proofs.Common.{ap, ◌∙◌, sym, subst}
use Rattle.l4_model.specs.Machine.{Machine}
use Rattle.l4_core_model.specs.Runs.{Run, letters, opening_run, merged}
use Rattle.l4_core_model.specs.Laws.{IsCoreRun}
use Rattle.l4_merge.specs.Merges.{SortAsMerged, HasReorderedRun}
use Rattle.l4_merge.proofs.Arranged.{told-arranged}
use Rattle.l4_merge.proofs.AnyOrder.{merged_run}
use Rattle.l4_merge.proofs.Sorted.{sort_as_merged}
use Rattle.l4_merge.proofs.Rest.{same_rest}
use Rattle.l4_merge.proofs.RunDeeds.{has_transitions}

pub reorder : (m : Machine) (r : Run) → IsCoreRun m r → HasReorderedRun m r
reorder m r is =
    let h = has_transitions m is.0 (opening_run m) r is.1 in
    let d = merged_run m (opening_run m) h.transitions r.system.locals (letters r.system.mail) h.ahead in (
      d.run,
      record {
        core_run = (d.actions, d.is);
        events = d.events ∙ told-arranged h.transitions ∙ ap merged (sym h.events);
        locals = d.locals;
        mail = d.mail;
        rest = same_rest m d.run.system r.system d.locals d.mail;
      },
    )

pub run_sorts_as_merged : (m : Machine) (r : Run) → IsCoreRun m r → SortAsMerged r.events
run_sorts_as_merged m r is =
    let h = has_transitions m is.0 (opening_run m) r is.1 in
    subst SortAsMerged (sym h.events) (sort_as_merged m (opening_run m).system h.transitions r.system.locals (letters r.system.mail) h.ahead)
