use Rattle.std.proofs.Common.{◌≡◌, ◌↔◌, IfOk, IsErrOf, IsSome, false, ap, sym, subst}
use Rattle.l4_core_model.specs.Letters.{Letter}
use Rattle.l4_core_model.specs.Mail.{handle}
use Rattle.l4_core_model.specs.Turns.{can_stamp}
use Rattle.l4_types.specs.declared.letters.Content.TheVariants.{Send, Done}
use Rattle.l4_core.specs.declared.processor.Fault.TheVariants.{Stamp}
use Rattle.l4_core.specs.Processor.{Processor}
use Rattle.l4_core.specs.Inner.Tasks.{task_of}
use Rattle.l4_core.specs.Inner.Turning.{IsEvent}
use Rattle.l4_core.proofs.Handling.{asked, asked_nothing, asked_something}
use Rattle.l4_core.proofs.processor.Core.handle_into.Goals as goal

pub returns-in-Send-clause-ok : goal.returns-in-Send-clause-ok
returns-in-Send-clause-ok g c =
    let p = c.args.self.now in
    let found = subst (λ (p : Processor). c.arrival-task.result ≡ task_of p.machine p.cpu p.local c.parts.result.1.now (Send c.in-Send.name c.in-Send.receiver c.in-Send.message c.in-Send.zero_timeout)) c.self.view_is c.arrival-task.ensures.value in
    let is = asked p c.args.letter.now c.parts.result.1.now c.parts.result.0.now (Send c.in-Send.name c.in-Send.receiver c.in-Send.message c.in-Send.zero_timeout) c.arrival-task.result c.parts.ensures.value c.in-Send.is found in
    subst (λ event. IfOk c.handle_task.result (λ stamp. IsEvent event p c.handle_task.new.self c.args.buffer.now c.handle_task.new.buffer stamp)) (sym is) c.handle_task.ensures.ok

pub returns-in-Send-clause-mail : goal.returns-in-Send-clause-mail
returns-in-Send-clause-mail g c =
    let p = c.args.self.now in
    let found = subst (λ (p : Processor). c.arrival-task.result ≡ task_of p.machine p.cpu p.local c.parts.result.1.now (Send c.in-Send.name c.in-Send.receiver c.in-Send.message c.in-Send.zero_timeout)) c.self.view_is c.arrival-task.ensures.value in
    let is = asked p c.args.letter.now c.parts.result.1.now c.parts.result.0.now (Send c.in-Send.name c.in-Send.receiver c.in-Send.message c.in-Send.zero_timeout) c.arrival-task.result c.parts.ensures.value c.in-Send.is found in
    asked_nothing _ _ _ c.arrival-task.result is c.handle_task.ensures.mail

pub returns-in-Send-clause-stamp : goal.returns-in-Send-clause-stamp
returns-in-Send-clause-stamp g c =
    let p = c.args.self.now in
    let found = subst (λ (p : Processor). c.arrival-task.result ≡ task_of p.machine p.cpu p.local c.parts.result.1.now (Send c.in-Send.name c.in-Send.receiver c.in-Send.message c.in-Send.zero_timeout)) c.self.view_is c.arrival-task.ensures.value in
    let is = asked p c.args.letter.now c.parts.result.1.now c.parts.result.0.now (Send c.in-Send.name c.in-Send.receiver c.in-Send.message c.in-Send.zero_timeout) c.arrival-task.result c.parts.ensures.value c.in-Send.is found in
    let stamped = ap (λ (l : Letter). l.stamp) c.parts.ensures.value in
    subst (λ n. IsErrOf c.handle_task.result Stamp ↔ (IsSome (handle p.machine p.cpu p.local c.args.letter.now) × (can_stamp p.local n ≡ false))) stamped
    (asked_something _ _ _ _ c.arrival-task.result is c.handle_task.ensures.stamp)

pub returns-in-Done-clause-ok : goal.returns-in-Done-clause-ok
returns-in-Done-clause-ok g c =
    let p = c.args.self.now in
    let found = subst (λ (p : Processor). c.end-task.result ≡ task_of p.machine p.cpu p.local c.parts.result.1.now (Done c.in-Done.name c.in-Done.decision)) c.self-in-Done.view_is c.end-task.ensures.value in
    let is = asked p c.args.letter.now c.parts.result.1.now c.parts.result.0.now (Done c.in-Done.name c.in-Done.decision) c.end-task.result c.parts.ensures.value c.in-Done.is found in
    subst (λ event. IfOk c.handle_task-in-Done.result (λ stamp. IsEvent event p c.handle_task-in-Done.new.self c.args.buffer.now c.handle_task-in-Done.new.buffer stamp)) (sym is) c.handle_task-in-Done.ensures.ok

pub returns-in-Done-clause-mail : goal.returns-in-Done-clause-mail
returns-in-Done-clause-mail g c =
    let p = c.args.self.now in
    let found = subst (λ (p : Processor). c.end-task.result ≡ task_of p.machine p.cpu p.local c.parts.result.1.now (Done c.in-Done.name c.in-Done.decision)) c.self-in-Done.view_is c.end-task.ensures.value in
    let is = asked p c.args.letter.now c.parts.result.1.now c.parts.result.0.now (Done c.in-Done.name c.in-Done.decision) c.end-task.result c.parts.ensures.value c.in-Done.is found in
    asked_nothing _ _ _ c.end-task.result is c.handle_task-in-Done.ensures.mail

pub returns-in-Done-clause-stamp : goal.returns-in-Done-clause-stamp
returns-in-Done-clause-stamp g c =
    let p = c.args.self.now in
    let found = subst (λ (p : Processor). c.end-task.result ≡ task_of p.machine p.cpu p.local c.parts.result.1.now (Done c.in-Done.name c.in-Done.decision)) c.self-in-Done.view_is c.end-task.ensures.value in
    let is = asked p c.args.letter.now c.parts.result.1.now c.parts.result.0.now (Done c.in-Done.name c.in-Done.decision) c.end-task.result c.parts.ensures.value c.in-Done.is found in
    let stamped = ap (λ (l : Letter). l.stamp) c.parts.ensures.value in
    subst (λ n. IsErrOf c.handle_task-in-Done.result Stamp ↔ (IsSome (handle p.machine p.cpu p.local c.args.letter.now) × (can_stamp p.local n ≡ false))) stamped
    (asked_something _ _ _ _ c.end-task.result is c.handle_task-in-Done.ensures.stamp)
