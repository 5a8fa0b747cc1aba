use Rattle.std.proofs.Common.{is_some, sym, ap, ◌∙◌}
use Rattle.l4_core_model.specs.Local.{owed_beside}
use Rattle.l4_core.specs.Processor.{Processor}
use Rattle.l4_core.proofs.Keeping.{none_read}
use Rattle.l4_core.proofs.known.ProcessorState.keeps_owed.Goals as goal

pub returns-else-retargets : goal.returns-else-retargets
returns-else-retargets c =
    let s = c.self.inside in
    c.if-retargets.false ∙ sym (ap is_some (none_read s.machine.now s.owed.items c.args.place (sym c.retargets.ensures ∙ c.if-retargets.false))) ∙ ap (λ (p : Processor). is_some (owed_beside p.local c.args.place)) c.self.view_is
