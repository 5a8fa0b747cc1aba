use Rattle.std.proofs.Common.{◌+◌, ◌*◌, ◌^◌, ap, sym, ◌∙◌, arith}
use Rattle.std.specs.Prelude.{slice_get}
use Rattle.l4_machine.specs.Inner.Teams.{count_events}
use Rattle.l4_machine.proofs.Ticked.{nearer}
use Rattle.l4_machine.proofs.team.Team.first_deadline.Goals as goal

pub returns-clause-near : goal.returns-clause-near
returns-clause-near c =
    let count = count_events c.args.self.now.processors.items in
    nearer c.first_deadline.result (count * 2 ^ 42 + 2 ^ 42) ((count + 1) * 2 ^ 42) (omega arith)
    (c.first_deadline.ensures.near (count * 2 ^ 42) (λ i p at. c.requires.team.come.clocks i p (sym (ap (λ ps. slice_get ps i) c.as_slice.ensures.value) ∙ at)))
