use Rattle.std.proofs.Common.{ap, sym, ◌∙◌}
use Rattle.std.specs.Result.{result_err}
use Rattle.l4_script.specs.Inner.Scripts.{instr_of}
use Rattle.std.specs.Prelude.{◌&&◌}
use Rattle.l4_thread.specs.Inner.Ipcs.{may_show}
use Rattle.l4_thread.specs.Inner.Requests.{propagates}
use Rattle.l4_audit.specs.Inner.Audited.{Audited, with_world}
use Rattle.l4_audit.specs.Starting.{starting}
use Rattle.l4_audit.proofs.Taking.{waits_on}
use Rattle.l4_audit.proofs.Starting.{can_start, no_send}
use Rattle.l4_audit.proofs.world.World.wait.Goals as goal

pub start-requires : goal.start-requires
start-requires c =
    let a = c.args.self.now in
    let none = sym c.may_wait.ensures.reason ∙ ap result_err c.in_ok-thread.was in
    rw c.place-place.ensures
    (can_start a c.args.id c.in_ok-thread.thread (instr_of c.instruction-instr.result) c.shows-permitted.result c.in_ok-thread.ensures.thread c.instruction-instr.ensures.within
    (no_send a c.args.id c.in_ok-thread.thread _ c.instruction-instr.ensures.value c.in_ok-thread.ensures.thread none) (c.shows-permitted.ensures ∙ ap (λ (x : Audited). propagates c.in_ok-thread.thread.now.context &&
    may_show x.machine c.in_ok-thread.thread.declared.id c.in_ok-thread.thread.now.context.actual) c.self.view_is))

pub returns : goal.returns
returns c =
    let a = c.args.self.now in
    let none = sym c.may_wait.ensures.reason ∙ ap result_err c.in_ok-thread.was in
    let i = instr_of c.instruction-instr.result in
    waits_on a _ c.args.id c.in_ok-thread.thread i c.in_ok-thread.ensures.thread none c.instruction-instr.ensures.value
    (c.start.ensures ∙ ap (λ x. with_world a (starting a x c.clock-clock.result i)) c.place-place.ensures ∙ ap (λ x. with_world a (starting a c.in_ok-thread.thread.at x i)) c.clock-clock.ensures)
