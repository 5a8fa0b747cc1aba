-- Core runs that go on.
use Rattle.std.proofs.Common.{◌≡◌, Some, List, [], ◌∷◌, ◌++◌, sym, subst}
use Rattle.l4_model.specs.Machine.{Machine}
use Rattle.l4_model.proofs.Chains.{bind_then, some_is}
use Rattle.l4_core_model.specs.Runs.{Action, happens, Run, then_event, core_run, opening_run}
use Rattle.l4_core_model.specs.Laws.{IsCoreRun}
use Rattle.l4_merge.specs.LocalTraces.{LocalTrace}
use Rattle.l4_merge.specs.Merges.{IsMergedRun}

pub core_run-append : (m : Machine) (es more : List Action) (first middle last : Run) → core_run m first es ≡ Some middle →
    core_run m middle more ≡ Some last → core_run m first (es ++ more) ≡ Some last
core_run-append m [] more first middle last is then = subst (λ r. core_run m r more ≡ Some last) (sym (some_is first middle is)) then
core_run-append m (e ∷ es) more first middle last is then =
    bind_then (happens m first.system e) _ middle is λ h may is.
    rw may (core_run-append m es more (then_event first h) middle last is then)

pub stays_core_run : (m : Machine) (before after : Run) (olds news : List LocalTrace) → IsCoreRun m before → IsMergedRun m before olds news after →
    IsCoreRun m after
stays_core_run m before after olds news was is =
    (was.0 ++ is.actions, core_run-append m was.0 is.actions (opening_run m) before after was.1 is.is)
