use Rattle.std.proofs.Common.{◌∙◌, arith}
use Rattle.l4_core_model.specs.Runs.{opening_run}
use Rattle.l4_merge.proofs.InRounds.{opening_in_rounds}
use Rattle.l4_machine.proofs.Members.{assembled_in_order, in_order_all}
use Rattle.l4_machine.proofs.Opened.{come_same, opening_come, opening_count}
use Rattle.l4_machine.proofs.Turned.{count_same}
use Rattle.l4_machine.proofs.team.Team.new.Goals as goal

pub come_to_rest-requires-clause-all : goal.come_to_rest-requires-clause-all
come_to_rest-requires-clause-all c =
    let m = c.args.machine.now in
    in_order_all m c.in_ok-processors.processors.items (let some = c.facts.ensures.some in omega arith) (assembled_in_order m c.in_ok-processors.processors.items c.in_ok-processors.ensures)

pub returns-clause-team : goal.returns-clause-team
returns-clause-team c =
    let m = c.args.machine.now in
    let e = c.in_ok-all_handled.ensures in
    record {
      run = opening_run m;
      come = come_same m c.in_ok-processors.processors.items c.come_to_rest.new.processors.items (opening_run m) e.same e.one
          (opening_come m c.in_ok-processors.processors.items c.in_ok-processors.ensures);
      rounds = opening_in_rounds m c.args.turns;
      whole = e.whole;
      handled = e.handled;
    }

pub returns-clause-fresh : goal.returns-clause-fresh
returns-clause-fresh c =
    count_same c.in_ok-processors.processors.items c.come_to_rest.new.processors.items c.in_ok-all_handled.ensures.same
    ∙ opening_count c.args.machine.now c.in_ok-processors.processors.items c.in_ok-processors.ensures
