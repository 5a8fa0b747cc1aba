use Rattle.std.proofs.Common.{ap, refl, sym}
use Rattle.std.specs.Option.{option_map}
use Rattle.l4_model.specs.World.{Thread}
use Rattle.l4_types.specs.Inner.PeriodView.{period_of}
use Rattle.l4_script.specs.Inner.Scripts.{instr_of}
use Rattle.l4_thread.specs.Inner.Held.{sent_of}
use Rattle.l4_thread.specs.Inner.PhaseView.{phase_of}
use Rattle.l4_thread.specs.Inner.Requests.{phases_begun, phases_held, phases_of, send_held}
use Rattle.l4_thread.proofs.Asking.{starts_held}
use Rattle.l4_thread.proofs.tcb.Tcb.ipc.Goals as goal

-- src/tcb/effects.rt:59:13
pub returns-in-Some-clause-thread : goal.returns-in-Some-clause-thread
returns-in-Some-clause-thread c m h =
    let i = c.self.inside in
    let apart = i.apart.items in
    let registers = i.thread.context.words in
    let t : Thread = record { context = i.thread.context; phase = phase_of i.phase; send = option_map (sent_of apart registers) i.send; order = i.order; cancel_send = i.cancel_send; cancel_receive = i.cancel_receive } in
    let r = c.begin_phases-request.result in
    let p = phases_held apart registers r in
    let h2 = rw (← c.self.view_is) at h in
    let is = c.begin_phases-request.ensures.stays apart in
    let k = starts_held m i.thread.id c.args.now t (instr_of c.args.instr.now) c.args.permitted p (send_held apart registers c.in-Some.phase)
    (phases_begun (phases_of c.args.permitted i.thread.id i.thread.context (instr_of c.args.instr.now)) i.thread.context) apart
    (record { to = c.in-Some.phase.0; head = c.in-Some.phase.1; period = period_of c.in-Some.phase.2; since = c.args.now; receive = p.receive }) h2 is
    (ap (option_map (send_held apart registers)) c.in-Some.is) (ap (λ q. phases_begun q i.thread.context) (sym is)) refl in
    rw (← c.self.view_is, c.send_of.ensures, c.receive_of-receive.ensures, c.begin_phases-request.ensures.context, c.in-Some.phase-is) (ap (λ (thread : Thread). record { id = i.thread.id; thread = thread }) k)
