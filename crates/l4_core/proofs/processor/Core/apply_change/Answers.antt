use Rattle.std.proofs.Common.{ap, sym, subst, ◌∙◌}
use Rattle.l4_thread.specs.Inner.Changes.{change_of}
use Rattle.l4_model.specs.World.{Thread}
use Rattle.l4_core_model.specs.Local.{comes_to, thread}
use Rattle.l4_core.specs.Inner.Changing.{IsFitting}
use Rattle.l4_core.specs.Inner.Covered.{IsCovered}
use Rattle.l4_core.specs.Inner.Parts.{AreCore}
use Rattle.l4_core.specs.Processor.{Processor, with_local}
use Rattle.l4_core.specs.Inner.Turning.{IsFree}
use Rattle.l4_core.proofs.Fitting.{calm-change, fits-keeps, keeps-change, next-change}
use Rattle.l4_core.proofs.Noting.{but-come}
use Rattle.l4_core.proofs.Writing.{block_thread, come-written, kept-changed, state}
use Rattle.l4_core.proofs.processor.Core.apply_change.Goals as goal

pub change-requires : goal.change-requires
change-requires c =
    let s = c.known.inside in
    let v = sym (c.known.view_is ∙ c.self.view_is) in
    let free = subst (λ (p : Processor). IsFree p c.args.place) v c.requires.free in
    let fits = subst (λ (p : Processor). IsFitting c.args.change.now (thread p.local c.args.place)) v c.requires.fits in
    let read = block_thread s c.args.place c.index_mut.result.now c.known.invariant free.own.within c.index_mut.ensures.value in
    record { room = (subst (λ (t : Thread). IsFitting c.args.change.now t) (sym read) fits).room }

pub invariant_of-known : goal.invariant_of-known
invariant_of-known c =
    let s = c.known.inside in
    let v = sym (c.known.view_is ∙ c.self.view_is) in
    let free = subst (λ (p : Processor). IsFree p c.args.place) v c.requires.free in
    let fits = subst (λ (p : Processor). IsFitting c.args.change.now (thread p.local c.args.place)) v c.requires.fits in
    let settled = c.known.invariant.core.settled in
    kept-changed s c.args.place (change_of c.args.change.now s.clock) _ _ c.known.invariant c.index_mut.ensures.value c.change.ensures
    (fits-keeps s.machine.now s.cpu (state s) c.args.place _ settled free.own free.unready free.unqueued (calm-change c.args.change.now s.clock _ fits)
    (next-change c.args.change.now s.clock _ fits (settled.ordering c.args.place free.own.own)) (keeps-change c.args.change.now s.clock _ fits))

pub note_duty-requires : goal.note_duty-requires
note_duty-requires c =
    let w = c.self.inside in
    let s = c.known.inside in
    let v = c.known.view_is ∙ c.self.view_is in
    let free = subst (λ (p : Processor). IsFree p c.args.place) (sym v) c.requires.free in
    but-come w.duties w.zeros c.args.self.now _ c.args.place (change_of c.args.change.now s.clock) (subst (IsCovered w.duties w.zeros) c.self.view_is c.self.invariant) (subst AreCore v c.known.invariant.core)
    c.requires.free.own (keeps-change c.args.change.now s.clock _ c.requires.fits).dead c.requires.free.unqueued
    (come-written s c.args.place (change_of c.args.change.now s.clock) _ _ _ _ c.known.invariant free.own.within c.index_mut.ensures.value c.change.ensures v c.enter_lists.ensures)

pub returns : goal.returns
returns c =
    let s = c.known.inside in
    let v = c.known.view_is ∙ c.self.view_is in
    let free = subst (λ (p : Processor). IsFree p c.args.place) (sym v) c.requires.free in
    come-written s c.args.place (change_of c.args.change.now s.clock) _ _ _ _ c.known.invariant free.own.within c.index_mut.ensures.value c.change.ensures v c.enter_lists.ensures
    ∙ ap (λ n. with_local c.args.self.now (comes_to c.args.place (change_of c.args.change.now n) c.args.self.now.local)) (ap (λ (p : Processor). p.local.clock) v)
