use Rattle.std.proofs.Common.{◌≡◌, true, false, subst, sym, ◌∙◌}
use Rattle.l4_model.specs.World.{is_deleted}
use Rattle.l4_core_model.specs.Local.{thread}
use Rattle.l4_core.specs.Inner.Parts.{AreCore}
use Rattle.l4_core.specs.Processor.{Processor}
use Rattle.l4_core.proofs.Handling.{caller_unready, caller_free, caller_fits, deleted_obeys}
use Rattle.l4_core.proofs.processor.Core.finish_order.Goals as goal

pub forget_order-requires-clause-unready : goal.forget_order-requires-clause-unready
forget_order-requires-clause-unready c = caller_unready c.args.self.now c.args.place (subst AreCore c.self.view_is c.facts.ensures.core) c.requires

pub apply_change-requires-clause-free : goal.apply_change-requires-clause-free
apply_change-requires-clause-free c = caller_free c.args.self.now c.args.place (subst AreCore c.self.view_is c.facts.ensures.core) c.requires
    (subst (λ (p : Processor). is_deleted (thread p.local c.args.place).phase ≡ false) c.self.view_is (sym c.is_deleted.ensures ∙ c.if-is_deleted.false))

pub apply_change-requires-clause-fits : goal.apply_change-requires-clause-fits
apply_change-requires-clause-fits c = caller_fits c.args.self.now c.args.place (subst AreCore c.self.view_is c.facts.ensures.core) c.requires
    (subst (λ (p : Processor). is_deleted (thread p.local c.args.place).phase ≡ false) c.self.view_is (sym c.is_deleted.ensures ∙ c.if-is_deleted.false))

pub returns-then-is_deleted : goal.returns-then-is_deleted
returns-then-is_deleted c =
    deleted_obeys c.args.self.now c.forget_order.new.self c.args.place
    (subst (λ (p : Processor). is_deleted (thread p.local c.args.place).phase ≡ true) c.self.view_is (sym c.is_deleted.ensures ∙ c.if-is_deleted.true)) c.forget_order.ensures
