use Rattle.std.proofs.Common.{◌≡◌, IfOk, refl, sym, subst}
use Rattle.l4_types.specs.Inner.LetterHeads.{letter_with}
use Rattle.l4_core.specs.Processor.{Processor}
use Rattle.l4_core.specs.Inner.Tasks.{task_of}
use Rattle.l4_core.specs.Inner.Turning.{IsEvent}
use Rattle.l4_core.proofs.Handling.{asked, asked_nothing, asked_something}
use Rattle.l4_core.proofs.processor.Core.handle_other.Goals as goal

pub returns-clause-ok : goal.returns-clause-ok
returns-clause-ok g c =
    let p = c.args.self.now in
    let found = subst (λ (p : Processor). c.task-asked.result ≡ task_of p.machine p.cpu p.local c.args.words.now c.args.head.now.content) c.self.view_is c.task-asked.ensures.value in
    let is = asked p (letter_with c.args.words.now c.args.head.now) c.args.words.now c.args.head.now c.args.head.now.content c.task-asked.result refl refl found in
    subst (λ event. IfOk c.handle_task.result (λ stamp. IsEvent event p c.handle_task.new.self c.args.buffer.now c.handle_task.new.buffer stamp)) (sym is) c.handle_task.ensures.ok

pub returns-clause-mail : goal.returns-clause-mail
returns-clause-mail g c =
    let p = c.args.self.now in
    let found = subst (λ (p : Processor). c.task-asked.result ≡ task_of p.machine p.cpu p.local c.args.words.now c.args.head.now.content) c.self.view_is c.task-asked.ensures.value in
    let is = asked p (letter_with c.args.words.now c.args.head.now) c.args.words.now c.args.head.now c.args.head.now.content c.task-asked.result refl refl found in
    asked_nothing _ _ _ c.task-asked.result is c.handle_task.ensures.mail

pub returns-clause-stamp : goal.returns-clause-stamp
returns-clause-stamp g c =
    let p = c.args.self.now in
    let found = subst (λ (p : Processor). c.task-asked.result ≡ task_of p.machine p.cpu p.local c.args.words.now c.args.head.now.content) c.self.view_is c.task-asked.ensures.value in
    let is = asked p (letter_with c.args.words.now c.args.head.now) c.args.words.now c.args.head.now c.args.head.now.content c.task-asked.result refl refl found in
    asked_something _ _ _ _ c.task-asked.result is c.handle_task.ensures.stamp
