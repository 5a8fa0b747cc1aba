use Rattle.std.proofs.Common.{map, ap, ◌∙◌}
use Rattle.std.specs.Prelude.{length, replicate, []}
use Rattle.l4_core_model.specs.Plain.{Plain}
use Rattle.l4_types.specs.Inner.OwedView.{owed_of}
use Rattle.l4_audit.proofs.Reporting.{opened_is, opened_of}
use Rattle.l4_audit.proofs.world.World.new.Goals as goal

pub invariant_of-result : goal.invariant_of-result
invariant_of-result c =
    opened_of c.args.machine.now _ _ c.in_ok-blocks.ensures
    (ap (λ (p : Plain). p.waiting) c.in_ok-new.ensures ∙ ap (λ ds. replicate (length ds) []) c.threads.ensures.value)

pub returns : goal.returns
returns c =
    opened_is c.args.machine.now _ _ _ _ c.in_ok-blocks.ensures
    (ap (λ (p : Plain). p.waiting) c.in_ok-new.ensures ∙ ap (λ ds. replicate (length ds) []) c.threads.ensures.value)
    c.in_ok-clocks.ensures (ap (map owed_of) c.new-2.ensures.items)
