use Rattle.std.proofs.Common.{Some, ap, refl, subst, sym, ◌<◌, ◌+◌, ◌≡◌, ◌∙◌}
use Rattle.l4_types.specs.StepView.{seen}
use Rattle.l4_audit.specs.Inner.Taking.{JudgedLate}
use Rattle.l4_outlooks.specs.Inner.Foreseen.{Foreseen}
use Rattle.l4_outlooks.specs.Inner.Named.{open_step}
use Rattle.l4_outlooks.proofs.Leading.{are_placed, knows}
use Rattle.l4_outlooks.proofs.Opening.{leads}
use Rattle.l4_outlooks.proofs.Taking.{goes_behind, is_taken}
use Rattle.l4_outlooks.proofs.outlook.Outlook.take.Goals as goal

pub take_late-requires : goal.take_late-requires
take_late-requires c =
    let i = c.self.inside in
    are_placed i.world i.taken (knows i.world.machine i.world.world i.taken c.self.invariant)

pub take_late-requires-in-Err : goal.take_late-requires-in-Err
take_late-requires-in-Err c =
    let i = c.self.inside in
    are_placed i.world i.taken (knows i.world.machine i.world.world i.taken c.self.invariant)

pub invariant_of-self-in-Ok : goal.invariant_of-self-in-Ok
invariant_of-self-in-Ok c =
    let i = c.self.inside in
    let s = seen c.in-Some.step in
    let named = subst (λ (o : Foreseen). Some s ≡ open_step o.machine o.world c.args.entry) (sym c.self.view_is) c.in-Some.ensures in
    let judged = subst (λ x. JudgedLate i.world x c.in_ok-take_late-in-Ok.field-0 c.take_late.new.self) (c.from.ensures ∙ c.to_delivery-delivery.ensures ∙ sym (ap seen c.in-Ok.ensures)) c.in_ok-take_late-in-Ok.ensures.ok in
    goes_behind i.world c.take_late.new.self i.taken c.args.entry s c.in_ok-take_late-in-Ok.field-0 c.self.invariant
    (subst (λ n. n + 1 < 1048576) (sym (ap (λ (o : Foreseen). o.taken) c.self.view_is)) c.requires.room) (sym named) judged

pub returns-in_ok-take_late-in-Ok-clause-ok : goal.returns-in_ok-take_late-in-Ok-clause-ok
returns-in_ok-take_late-in-Ok-clause-ok c =
    let i = c.self.inside in
    let s = seen c.in-Some.step in
    let named = subst (λ (o : Foreseen). Some s ≡ open_step o.machine o.world c.args.entry) (sym c.self.view_is) c.in-Some.ensures in
    let judged = subst (λ x. JudgedLate i.world x c.in_ok-take_late-in-Ok.field-0 c.take_late.new.self) (c.from.ensures ∙ c.to_delivery-delivery.ensures ∙ sym (ap seen c.in-Ok.ensures)) c.in_ok-take_late-in-Ok.ensures.ok in
    let t = is_taken i.world c.take_late.new.self c.args.entry s c.in_ok-take_late-in-Ok.field-0 (sym named) judged in
    rw (← c.self.view_is) (record {
      machine = t.machine;
      leads = leads i.world.machine i.world.world c.take_late.new.self.world c.args.entry s (sym named) t.possible;
      one_more = refl;
    })

pub invariant_of-self-in-Err : goal.invariant_of-self-in-Err
invariant_of-self-in-Err c =
    let i = c.self.inside in
    let s = seen c.in-Some.step in
    let named = subst (λ (o : Foreseen). Some s ≡ open_step o.machine o.world c.args.entry) (sym c.self.view_is) c.in-Some.ensures in
    let judged = subst (λ x. JudgedLate i.world x c.in_ok-take_late-in-Err.field-0 c.take_late-in-Err.new.self) (c.in-Err.ensures.seen _ _) c.in_ok-take_late-in-Err.ensures.ok in
    goes_behind i.world c.take_late-in-Err.new.self i.taken c.args.entry s c.in_ok-take_late-in-Err.field-0 c.self.invariant
    (subst (λ n. n + 1 < 1048576) (sym (ap (λ (o : Foreseen). o.taken) c.self.view_is)) c.requires.room) (sym named) judged
