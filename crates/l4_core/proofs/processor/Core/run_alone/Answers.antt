use Rattle.std.proofs.Common.{◌<◌, length, ap, sym, subst, ◌∙◌, arith}
use Rattle.l4_model.specs.World.{Thread, is_deleted}
use Rattle.l4_model.specs.Effects.{runs}
use Rattle.l4_script.specs.Inner.Scripts.{instr_of}
use Rattle.l4_core_model.specs.Local.{thread}
use Rattle.l4_core.specs.Inner.Covered.{IsCovered}
use Rattle.l4_core.specs.Inner.Parts.{AreCore}
use Rattle.l4_core.specs.Processor.{Processor}
use Rattle.l4_core.specs.Inner.Turning.{IsAtHand}
use Rattle.l4_core.proofs.Fitting.{fits-runs, keeps-runs}
use Rattle.l4_core.proofs.Noting.{but-come, hand_free}
use Rattle.l4_core.proofs.Running.{covered-ran, ran_on}
use Rattle.l4_core.proofs.Writing.{change-written, come-written, kept-changed, state}
use Rattle.l4_core.proofs.processor.Core.run_alone.Goals as goal

pub invariant_of-known : goal.invariant_of-known
invariant_of-known c =
    let s = c.known.inside in
    let v = sym (c.known.view_is ∙ c.self.view_is) in
    let hand = subst (λ (p : Processor). IsAtHand p c.args.place) v c.requires.hand in
    kept-changed s c.args.place (runs (instr_of c.args.instr.now)) _ _ c.known.invariant c.index_mut.ensures.value c.run.ensures
    (fits-runs s.machine.now s.cpu (state s) c.args.place (instr_of c.args.instr.now) c.known.invariant.core.settled hand.own hand.ready hand.unready)

pub note_duty-requires : goal.note_duty-requires
note_duty-requires c =
    let w = c.self.inside in
    let s = c.known.inside in
    let v = c.known.view_is ∙ c.self.view_is in
    let p : Processor = c.args.self.now in
    let core = subst AreCore v c.known.invariant.core in
    let hand = subst (λ (q : Processor). IsAtHand q c.args.place) (sym v) c.requires.hand in
    but-come w.duties w.zeros p _ c.args.place (runs (instr_of c.args.instr.now)) (subst (IsCovered w.duties w.zeros) c.self.view_is c.self.invariant) core c.requires.hand.own
    (keeps-runs (instr_of c.args.instr.now) (thread p.local c.args.place) (ap is_deleted c.requires.hand.ready)).dead (hand_free p c.args.place core c.requires.hand)
    (come-written s c.args.place (runs (instr_of c.args.instr.now)) _ _ _ _ c.known.invariant hand.own.within c.index_mut.ensures.value c.run.ensures v c.run_on-runs_on.ensures.state)

-- The thread can run on, so it has the duties that it had.
pub invariant_of-self-else-not-runs_on : goal.invariant_of-self-else-not-runs_on
invariant_of-self-else-not-runs_on c =
    let w = c.self.inside in
    let s = c.known.inside in
    let v = c.known.view_is ∙ c.self.view_is in
    let p : Processor = c.args.self.now in
    let f : Thread → Thread = runs (instr_of c.args.instr.now) in
    let core = subst AreCore v c.known.invariant.core in
    let hand = subst (λ (q : Processor). IsAtHand q c.args.place) (sym v) c.requires.hand in
    let within = c.requires.hand.own.within in
    let count = core.settled.threads in
    let there : c.args.place < length p.local.threads = omega arith in
    let changed = change-written s c.args.place f _ _ p c.known.invariant hand.own.within c.index_mut.ensures.value c.run.ensures v in
    covered-ran w.duties w.zeros p _ c.args.place f (subst (IsCovered w.duties w.zeros) c.self.view_is c.self.invariant) core c.requires.hand
    (ran_on p _ c.args.place f there changed (sym c.run_on-runs_on.ensures.runs ∙ c.if-not-runs_on.false))
    (come-written s c.args.place f _ _ p _ c.known.invariant hand.own.within c.index_mut.ensures.value c.run.ensures v c.run_on-runs_on.ensures.state)

pub returns-then-not-runs_on : goal.returns-then-not-runs_on
returns-then-not-runs_on c =
    let s = c.known.inside in
    let v = c.known.view_is ∙ c.self.view_is in
    let hand = subst (λ (p : Processor). IsAtHand p c.args.place) (sym v) c.requires.hand in
    come-written s c.args.place (runs (instr_of c.args.instr.now)) _ _ _ _ c.known.invariant hand.own.within c.index_mut.ensures.value c.run.ensures v c.run_on-runs_on.ensures.state

pub returns-else-not-runs_on : goal.returns-else-not-runs_on
returns-else-not-runs_on c =
    let s = c.known.inside in
    let v = c.known.view_is ∙ c.self.view_is in
    let hand = subst (λ (p : Processor). IsAtHand p c.args.place) (sym v) c.requires.hand in
    come-written s c.args.place (runs (instr_of c.args.instr.now)) _ _ _ _ c.known.invariant hand.own.within c.index_mut.ensures.value c.run.ensures v c.run_on-runs_on.ensures.state
