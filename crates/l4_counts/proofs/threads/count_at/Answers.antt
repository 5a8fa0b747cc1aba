use Rattle.std.proofs.Common.{Option, ℕ, ap, sym, ◌∙◌, arith}
use Rattle.l4_model.proofs.Chains.{set_changed}
use Rattle.l4_core_model.proofs.Standing.{place_within}
use Rattle.l4_types.specs.StepView.{seen}
use Rattle.l4_counts.specs.Counts.{with_step}
use Rattle.l4_counts.specs.Inner.Threads.{with_step_at}
use Rattle.l4_counts.proofs.threads.count_at.Goals as goal

pub returns-in-Some : goal.returns-in-Some
returns-in-Some c =
    let m = c.args.machine.now in
    let step = seen c.args.step.now in
    let at = sym c.in-Some.ensures in
    let within = place_within m c.args.id c.in-Some.place at in
    set_changed (with_step c.args.id step) c.args.counts.now c.in-Some.place _ c.add.new.self (omega (arith, within, c.requires.each)) c.add.ensures
    ∙ ap (λ (o : Option ℕ). with_step_at o c.args.id step c.args.counts.now) c.in-Some.ensures
