-- What a turn opens with.
use Rattle.std.proofs.Common.{◌≡◌, ℕ, false, Some, ap, sym, ◌∙◌, subst}
use Rattle.std.specs.Prelude.{slice_get}
use Rattle.l4_core_model.specs.Plain as plain
use Rattle.l4_core_model.specs.Local.{relists}
use Rattle.tcb_arena.specs.Inner.Blocks.{is_ready as is_ready_in}
use Rattle.l4_core.specs.declared.processor.Choice.{Choice}
use Rattle.l4_core.specs.declared.processor.Choice.TheVariants.{ByDuty, ByDue, ByReady}
use Rattle.l4_core.specs.Inner.Choosing.{IsPossible}
use Rattle.l4_core.specs.Inner.Parts.{AreCore}
use Rattle.l4_core.specs.Processor.{Processor, with_local}
use Rattle.l4_core.specs.Inner.Turning.{IsAtHand}
use Rattle.l4_core.proofs.Dues.{ready_there}

-- The stamp is of no matter for what is to be done.
pub possible_stamped : (p q : Processor) (choice : Choice) (stamp : ℕ) → IsPossible choice p → q ≡ with_local p (record p.local { stamp = stamp }) → IsPossible choice q
possible_stamped p q (ByDuty place duty) stamp first is = subst (IsPossible (ByDuty place duty)) (sym is) (record { own = first.own; has_duty = first.has_duty; first = first.first })
possible_stamped p q (ByDue place) stamp due is = subst (IsPossible (ByDue place)) (sym is) due
possible_stamped p q (ByReady place) stamp first is = subst (IsPossible (ByReady place)) (sym is) first

-- The first ready thread is at hand once it is taken out of its list.
pub taken_at_hand : (p q : Processor) (i : ℕ) → AreCore p → slice_get p.local.lists.ready 0 ≡ Some i → is_ready_in q.local.lists i ≡ false → q ≡ with_local p (relists plain.popped p.local) → IsAtHand q i
taken_at_hand p q i core first gone is =
    let there = core.settled.ready i (ready_there i p.local.lists.ready first) in
    subst (λ (x : Processor). IsAtHand x i) (sym is) (record { own = there.own; ready = there.phase; unready = ap (λ (x : Processor). is_ready_in x.local.lists i) (sym is) ∙ gone })
