use Rattle.std.proofs.Common.{ap, sym, subst, ◌∙◌}
use Rattle.std.proofs.lemmas.Result.{IfOk-weaker}
use Rattle.l4_machine.specs.Gathers.{HaveNumbers}
use Rattle.l4_machine.specs.Inner.Recorded.{recorded_entries}
use Rattle.l4_machine.specs.Inner.Rising.{HaveRisingLogs}
use Rattle.l4_machine.proofs.EventsLeft.{logs_rise}
use Rattle.l4_machine.proofs.Members.{in_order_have_numbers}
use Rattle.l4_machine.proofs.team.Team.recorded.Goals as goal

pub recorded-requires-clause-rising : goal.recorded-requires-clause-rising
recorded-requires-clause-rising c =
    let m = c.args.self.now.machine.now in
    let ps = c.args.self.now.processors.items in
    subst (HaveRisingLogs m) (sym c.as_slice.ensures.value) (logs_rise m ps 0 m.cpus c.requires.come.in_order.of_one)

pub recorded-requires-clause-numbers : goal.recorded-requires-clause-numbers
recorded-requires-clause-numbers c =
    let m = c.args.self.now.machine.now in
    subst (HaveNumbers m.cpus) (sym c.as_slice.ensures.value) (in_order_have_numbers m c.args.self.now.processors.items c.requires.come.in_order)

pub returns : goal.returns
returns c =
    IfOk-weaker c.recorded.result _ _ (λ entries are. are ∙ ap (recorded_entries c.args.self.now.machine.now) c.as_slice.ensures.value) c.recorded.ensures
