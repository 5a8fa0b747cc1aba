use Rattle.std.specs.Prelude.{Some}
use Rattle.std.proofs.Common.{◌≡◌, ◌∙◌, sym, ap, subst}
use Rattle.l4_core_model.specs.Plain.{due_block, without_block}
use Rattle.tcb_arena.specs.Inner.Blocks.{has_entry}
use Rattle.tcb_arena.specs.Inner.Due.{Due, armed_of, AreOnce}
use Rattle.tcb_arena.proofs.Once.{none-left}
use Rattle.tcb_arena.proofs.Showing.{without-due}
use Rattle.tcb_arena.proofs.wheel.Wheel.pop_due.Goals as goal

pub returns-clause-armed : goal.returns-clause-armed
returns-clause-armed c =
    let first = c.in_ok-first.first in
    let old : Due = c.args.self.now in
    let P : Due → Type 0 = λ (v : Due). AreOnce v in
    let due : due_block c.args.now (armed_of old) ≡ Some first = sym c.first_due.ensures.due ∙ c.in_ok-first.was in
    c.disarm.ensures.armed ∙ ap (λ (v : Due). without_block first (armed_of v)) c.first_due.ensures.same
    ∙ without-due c.args.now first (armed_of old) due ((subst P c.first_due.ensures.same c.disarm.ensures.once).once first)

pub returns-clause-gone : goal.returns-clause-gone
returns-clause-gone c =
    let first = c.in_ok-first.first in
    ap (has_entry first) c.disarm.ensures.armed ∙ none-left first (armed_of c.first_due.new.self)
