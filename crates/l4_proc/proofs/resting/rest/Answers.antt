use Rattle.std.proofs.Common.{List, length, ap, sym, ◌∙◌}
use Rattle.std.specs.Prelude.{is_some}
use Rattle.std.specs.List.{list_any}
use Rattle.l4_proc.specs.declared.processor.Processor.{Processor}
use Rattle.l4_proc.proofs.Rested.{alone_handled}
use Rattle.l4_proc.proofs.resting.rest.Goals as goal

pub returns-then-len-eq1-clause-all : goal.returns-then-len-eq1-clause-all
returns-then-len-eq1-clause-all c =
    alone_handled c.args.processors.now.items c.any_in_hand.result (ap (λ (ps : List Processor). length ps) (sym c.deref-then-len-eq1.ensures.value) ∙ c.deref-then-len-eq1.ensures.len ∙ sym c.len.ensures ∙ c.if-len-eq1.true) (c.any_in_hand.ensures ∙ ap (list_any (λ (p : Processor). is_some p.worker.hand)) c.deref-then-len-eq1.ensures.value)
