use Rattle.std.proofs.Common.{ap, sym, ◌∙◌}
use Rattle.std.specs.Option.{option_map}
use Rattle.l4_model.specs.World.{Message, Send}
use Rattle.l4_core.proofs.Sending.{from_own}
use Rattle.l4_core.proofs.known.ProcessorState.message.Goals as goal

pub returns-clause-actual : goal.returns-clause-actual
returns-clause-actual c =
    let core = c.facts.ensures.core in
    let send = sym c.unwrap.ensures ∙ c.send_of.ensures in
    ap (λ (n : Message). n.actual) c.message.ensures ∙ from_own _ _ _ c.unwrap.result.message (core.settled.sent c.args.sender) (ap (option_map (λ (s : Send). s.message)) (sym send))
