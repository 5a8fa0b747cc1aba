use Rattle.std.proofs.Common.{ap, sym, ◌∙◌}
use Rattle.std.specs.Result.{result_err}
use Rattle.l4_model.specs.World.{change}
use Rattle.l4_model.specs.Effects.{turns}
use Rattle.l4_types.specs.Inner.OwedView.{owed_of}
use Rattle.l4_audit.specs.Inner.Audited.{with_world}
use Rattle.l4_audit.proofs.Taking.{turns_on}
use Rattle.l4_audit.proofs.Places.{found_within}
use Rattle.l4_audit.proofs.world.World.retarget.Goals as goal

pub turn-requires : goal.turn-requires
turn-requires c =
    rw (c.forget.ensures, c.place-place.ensures) (found_within c.args.self.now.machine c.args.self.now.world _ _ c.in_ok-owed.ensures.originator)

pub returns : goal.returns
returns c =
    let a = c.args.self.now in
    let none = sym c.may_retarget.ensures.reason ∙ ap result_err c.in_ok-owed.was in
    turns_on a c.forget.new.self _ c.args.name _ _ c.in_ok-owed.ensures.owed c.in_ok-owed.ensures.originator none c.forget.ensures
    (c.turn.ensures ∙ ap (λ x. with_world c.forget.new.self (change c.forget.new.self.world x (turns (owed_of c.in_ok-owed.owed)))) c.place-place.ensures)
