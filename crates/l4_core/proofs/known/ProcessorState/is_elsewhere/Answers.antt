use Rattle.std.proofs.Common.{sym, ap, ◌∙◌}
use Rattle.std.specs.Prelude.{◌==◌, not}
use Rattle.l4_core_model.specs.Local.{declared}
use Rattle.l4_core.proofs.Elsewhere.{elsewhere_at}
use Rattle.l4_core.proofs.known.ProcessorState.is_elsewhere.Goals as goal

pub returns-in-Some-place_of : goal.returns-in-Some-place_of
returns-in-Some-place_of c =
    let p = c.args.self.now in
    let core = c.facts.ensures.core in
    ap (λ n. not (n == c.cpu_of-in-Some-place_of.result)) c.cpu_of.ensures
    ∙ ap (λ n. not ((declared p.machine c.in-Some-place_of.other).cpu == n)) c.cpu_of-in-Some-place_of.ensures
    ∙ elsewhere_at p.machine c.args.to c.in-Some.to c.in-Some-place_of.other c.args.place (sym c.in-Some.is ∙ c.as_global.ensures) (sym c.place_of.ensures.value ∙ c.in-Some-place_of.is) (core.machine.placed c.args.place c.requires)
