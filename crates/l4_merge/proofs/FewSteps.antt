-- Each event of a core run tells at most three steps.
use Rattle.std.proofs.Common.{◌≡◌, ℕ, ◌≤◌, Option, Some, None, List, [], ◌∷◌, length, refl, subst}
use Rattle.std.specs.Prelude.{slice_get}
use Rattle.std.specs.Option.{option_map}
use Rattle.std.specs.List.{AllByRecursion}
use Rattle.l4_model.specs.Machine.{Machine}
use Rattle.l4_model.proofs.Chains.{bind_then, some_is}
use Rattle.l4_core_model.specs.Local.{Local}
use Rattle.l4_core_model.specs.Acts.{Work}
use Rattle.l4_core_model.specs.Turns.{turn, advance}
use Rattle.l4_core_model.specs.Mail.{handle}
use Rattle.l4_core_model.specs.Laws.{IsCoreRun}
use Rattle.l4_core_model.specs.Runs.{System, letters, taken, done, Action, Handles, Turns, Ticks, Happened, happens, Event}
use Rattle.l4_core_model.specs.Runs.{Run, then_event, core_run, opening_run}
use Rattle.l4_core_model.proofs.Lists.{all-append}
use Rattle.l4_merge.specs.Transitions.{LocalEvent, Handled, Turned, Ticked, work_of}
use Rattle.l4_merge.proofs.Destinations.{at_most_three_steps}

abbrev HasFew : Event → Type 0
HasFew event = length event.steps ≤ 3

by_work : (m : Machine) (cpu : ℕ) (l : Local) (event : LocalEvent) (g : System) (h : Happened) (o : Option Work) →
    work_of m cpu l event ≡ o → option_map (done cpu g) o ≡ Some h → HasFew h.event
by_work m cpu l event g h None is happened = cc
by_work m cpu l event g h (Some x) is happened =
    subst (λ y. HasFew y.event) (some_is (done cpu g x) h happened) (at_most_three_steps m cpu l event x is)

happened_few : (m : Machine) (g : System) (action : Action) (h : Happened) → happens m g action ≡ Some h → HasFew h.event
happened_few m g (Handles cpu from) h is =
    bind_then (slice_get g.locals cpu) _ h is (λ l here tells.
    bind_then (slice_get (letters g.mail from cpu) 0) _ h tells (λ letter first happened.
    by_work m cpu l (Handled from letter) (taken from cpu g) h (handle m cpu l letter) refl happened))
happened_few m g (Turns cpu) h is =
    bind_then (slice_get g.locals cpu) _ h is (λ l here happened.
    by_work m cpu l Turned g h (turn m cpu l) refl happened)
happened_few m g (Ticks cpu clock) h is =
    bind_then (slice_get g.locals cpu) _ h is (λ l here happened.
    by_work m cpu l (Ticked clock) g h (advance m cpu clock l) refl happened)

goes_on_few : (m : Machine) (actions : List Action) (r after : Run) → core_run m r actions ≡ Some after →
    AllByRecursion HasFew r.events → AllByRecursion HasFew after.events
goes_on_few m [] r after is few = subst (λ run. AllByRecursion HasFew run.events) (some_is r after is) few
goes_on_few m (action ∷ actions) r after is few =
    bind_then (happens m r.system action) _ after is (λ h happened rest.
    goes_on_few m actions (then_event r h) after rest
    (all-append HasFew r.events h.event few (happened_few m r.system action h happened)))

pub few_steps : (m : Machine) (r : Run) → IsCoreRun m r → AllByRecursion HasFew r.events
few_steps m r is = goes_on_few m is.0 (opening_run m) r is.1 tt
