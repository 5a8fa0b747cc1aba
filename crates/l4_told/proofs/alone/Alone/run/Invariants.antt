use Rattle.l4_model.specs.Machine.{Machine}
use Rattle.std.proofs.Common.{[]}
use Rattle.l4_core_model.specs.Runs.{opening_run}
use Rattle.l4_told.specs.Inner.Alone.{HasCome}
use Rattle.l4_told.proofs.Rounds.{IsRunning}
use Rattle.l4_told.proofs.alone.Alone.run.Given as goal

abbrev pub invariant-loop : goal.invariant-loop
invariant-loop g l =
    (m : Machine) → HasCome m (opening_run m) [] l.initial.self →
    IsRunning m l.fn.turns l.counter (λ steps. g.L.Listener.hears l.initial.listener steps l.listener) l.self
