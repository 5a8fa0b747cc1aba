use Rattle.std.proofs.Common.{◌≡◌, ◌+◌, ◌<◌, ◌≤◌}
use Rattle.l4_machine.specs.Inner.Teams.{count_events, IsTeam}
use Rattle.l4_machine.proofs.team.Team.run.Given as goal

abbrev pub invariant-loop : goal.invariant-loop
invariant-loop g l = record {
  team : IsTeam l.self;
  machine : l.self.machine ≡ l.fn.self.machine;
  turns : l.self.turns ≡ l.fn.self.turns;
  fewer : count_events l.self.processors.items < l.fn.self.turns + l.fn.self.machine.now.cpus;
  some : l.counter ≤ count_events l.self.processors.items;
}
