use Rattle.std.proofs.Common.{ap, ◌∙◌}
use Rattle.std.specs.Prelude.{◌==◌}
use Rattle.l4_core_model.specs.Local.{declared}
use Rattle.l4_core.proofs.Elsewhere.{same_space_at}
use Rattle.l4_core.proofs.known.ProcessorState.share_space.Goals as goal

pub returns : goal.returns
returns c =
    let p = c.args.self.now in
    let core = c.facts.ensures.core in
    ap (λ n. n == c.space_of-2.result) c.space_of.ensures
    ∙ ap (λ n. (declared p.machine c.args.one).space == n) c.space_of-2.ensures
    ∙ same_space_at p.machine c.args.one c.args.other (core.machine.placed c.args.one c.requires.one) (core.machine.placed c.args.other c.requires.other)
