use Rattle.std.proofs.Common.{refl}
use Rattle.l4_replay.proofs.Going.{opening_is}
use Rattle.l4_replay.proofs.processors.Processors.new.Goals as goal

pub returns-clause-run : goal.returns-clause-run
returns-clause-run c =
    opening_is c.args.machine.now
    (record { machine = c.args.machine; nodes = c.in_ok-opening_nodes.field-0; events = 0 }) c.facts.ensures.lawful refl c.in_ok-opening_nodes.ensures refl
