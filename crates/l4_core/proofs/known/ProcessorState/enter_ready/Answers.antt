use Rattle.std.proofs.Common.{◌≡◌, false, ap, sym, subst, ◌∙◌}
use Rattle.l4_core_model.specs.Local.{thread, relists}
use Rattle.l4_core.specs.Processor.{Processor, with_local}
use Rattle.l4_core.specs.Inner.PhaseLists.{readies}
use Rattle.tcb_arena.specs.Inner.Blocks.{is_armed}
use Rattle.l4_core.proofs.Running.{unarmed_enters}
use Rattle.l4_core.proofs.known.ProcessorState.enter_ready.Goals.{then-is_armed, else-is_armed}
use Rattle.l4_core.proofs.known.ProcessorState.enter_ready.Goals as goal

pub returns : goal.returns
returns c =
    let made : Processor → Processor = λ p. with_local p (relists (readies (thread p.local c.args.place) c.args.place) p.local) in
    elim c.if-is_armed.branch [
      | then-is_armed w ↦ c.make_ready.ensures ∙ ap made (w.self-is ∙ w.rearm.ensures)
      | else-is_armed w ↦
          c.make_ready.ensures ∙ ap made w.self-is
          ∙ ap (with_local c.args.self.now) (unarmed_enters c.args.self.now.local c.args.place c.requires.ready
          (subst (λ (p : Processor). is_armed p.local.lists c.args.place ≡ false) c.self.view_is (sym c.is_armed.ensures ∙ w.if-is_armed.false)))
    ]
