use Rattle.std.proofs.Common.{◌≡◌, false, subst, sym}
use Rattle.l4_jobs.specs.Inputs.{gives_nothing}
use Rattle.l4_jobs.specs.Jobs.{IsDone, IsStatusOf}
use Rattle.l4_jobs.specs.Outputs.{Output}
use Rattle.l4_jobs.specs.Performing.{IsPerformed, keeps_none, sinks}
use Rattle.l4_jobs.proofs.Performed.{nothing_done, performed_as, performed_status}
use Rattle.l4_jobs.proofs.perform.perform.Goals as goal

pub returns-clause-performed : goal.returns-clause-performed
returns-clause-performed g c =
    let machine = g.M.Source.gives c.args.machine.now in
    let trace = g.T.Source.gives c.args.trace.now in
    let out = g.W.Sink.takes c.args.out.now c.perform_over.new.out in
    let faults = g.E.Sink.takes c.args.faults.now c.perform_over.new.faults in
    subst
    (λ job. IsPerformed false job machine trace gives_nothing
    (sinks keeps_none (Unit {0}) out (c.perform_over.new.out ≡ c.args.out.now) faults (c.perform_over.new.faults ≡ c.args.faults.now)) c.perform_over.result)
    c.alone.ensures
    (performed_as false c.alone.result machine trace gives_nothing _ keeps_none _ (Unit {0}) out _ faults _ c.perform_over.result
    (λ name bytes all is. is) (λ same. tt) c.perform_over.ensures.performed)

pub returns-clause-faulty : goal.returns-clause-faulty
returns-clause-faulty g c = λ never.
    let machine = g.M.Source.gives c.args.machine.now in
    let trace = g.T.Source.gives c.args.trace.now in
    nothing_done false c.alone.result machine trace gives_nothing _ _
    (subst (λ job. (o : Output) → IsDone job machine trace gives_nothing o → ⊥) (sym c.alone.ensures) never) c.perform_over.ensures.performed

pub returns-clause-statuses : goal.returns-clause-statuses
returns-clause-statuses g c =
    subst (λ job. IsStatusOf job c.perform_over.result) c.alone.ensures (performed_status false c.alone.result _ _ _ _ _ c.perform_over.ensures.performed)
