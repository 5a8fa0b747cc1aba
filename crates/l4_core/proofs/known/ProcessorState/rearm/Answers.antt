use Rattle.std.proofs.Common.{◌+◌, ◌<◌, ◌^◌, sym, subst, ap, ◌∙◌}
use Rattle.std.specs.Prelude.{◌==◌, ℕ, IfSome}
use Rattle.std.specs.List.{list_any}
use Rattle.l4_core_model.specs.Plain.{Plain, disarmed}
use Rattle.l4_core.specs.Processor.{Processor}
use Rattle.l4_core.specs.Inner.Turning.{IsOwnOf}
use Rattle.l4_core.proofs.Writing.{kept-settled, state, with_lists}
use Rattle.l4_core.proofs.Settling.{settled-disarmed, settled-armed, none-filter}
use Rattle.l4_core.proofs.known.ProcessorState.rearm.Goals as goal

pub arm-requires-clause-free : goal.arm-requires-clause-free
arm-requires-clause-free c =
    let s = c.self.inside in
    ap (λ (v : Plain). list_any (λ (e : ℕ × ℕ). c.args.place == e.1) v.armed) c.disarm.ensures ∙ none-filter (λ (e : ℕ × ℕ). c.args.place == e.1) s.lists.armed

pub invariant_of-self : goal.invariant_of-self
invariant_of-self c =
    let s = c.self.inside in
    let own = subst (λ (p : Processor). IsOwnOf p c.args.place) (sym c.self.view_is) c.requires in
    let first = c.disarm.ensures in
    let then_is = c.arm.ensures in
    let l = with_lists s (disarmed c.args.place s.lists) in
    let near = subst (λ o. IfSome o (λ d. d < s.clock + 2 ^ 42)) c.in-Some.is c.deadline.ensures.near in
    let settled = settled-disarmed s.machine.now s.cpu (state s) c.args.place c.self.invariant.core.settled in
    rw (then_is, first) (kept-settled s _ _ _ _ _ c.self.invariant (settled-armed s.machine.now s.cpu l c.args.place c.in-Some.deadline own near settled))

pub invariant_of-self-in_default : goal.invariant_of-self-in_default
invariant_of-self-in_default c =
    let s = c.self.inside in
    let lists = c.disarm.ensures in
    rw lists (kept-settled s _ _ _ _ _ c.self.invariant (settled-disarmed s.machine.now s.cpu (state s) c.args.place c.self.invariant.core.settled))
