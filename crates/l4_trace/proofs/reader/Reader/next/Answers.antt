use Rattle.std.proofs.Common.{ℕ, List, ◌∙◌, refl, ap}
use Rattle.std.specs.Prelude.{codes}
use Rattle.l4_model.specs.Steps.{Local, Begin, Queue, Wait, ReceiveTimeout, Tick}
use Rattle.l4_trace.specs.Lines.{name_word, thread_word}
use Rattle.l4_trace.specs.Inner.Forward.{Ahead, told_step}
use Rattle.l4_trace.proofs.InFront.{is_next, word_line}
use Rattle.l4_trace.proofs.reader.Reader.next.Goals as goal

abbrev read_of : Ahead → ℕ
read_of a = a.read

abbrev rest_of : Ahead → List ℕ
rest_of a = a.rest

pub returns-in-Some : goal.returns-in-Some
returns-in-Some c =
    let found = c.in-Some in
    let step = Local found.thread in
    is_next step c.thread_line.new.self _ c.args.self.now _
    (word_line step (codes "local ") (thread_word found.thread) _ _ refl found.ensures.global found.ensures.line)
    (c.of-front.ensures ∙ ap rest_of c.self.view_is) (ap read_of c.pass.ensures) (ap rest_of c.pass.ensures ∙ c.rest.ensures)

pub returns-in-Some-name_line : goal.returns-in-Some-name_line
returns-in-Some-name_line c =
    let found = c.in-Some-name_line in
    let step = Begin found.name in
    is_next step c.name_line.new.self _ c.args.self.now _
    (word_line step (codes "begin ") (name_word found.name) _ _ refl found.ensures.name found.ensures.line)
    (c.of-front-2.ensures ∙ ap rest_of c.self.view_is) (ap read_of c.pass-in-Some-name_line.ensures) (ap rest_of c.pass-in-Some-name_line.ensures ∙ c.rest-in-Some-name_line.ensures)

pub returns-in-Some-name_line-2 : goal.returns-in-Some-name_line-2
returns-in-Some-name_line-2 c =
    let found = c.in-Some-name_line-2 in
    let step = Queue found.name in
    is_next step c.name_line-2.new.self _ c.args.self.now _
    (word_line step (codes "queue ") (name_word found.name) _ _ refl found.ensures.name found.ensures.line)
    (c.of-front-3.ensures ∙ ap rest_of c.self.view_is) (ap read_of c.pass-in-Some-name_line-2.ensures) (ap rest_of c.pass-in-Some-name_line-2.ensures ∙ c.rest-in-Some-name_line-2.ensures)

pub returns-in-Some-delivery_line : goal.returns-in-Some-delivery_line
returns-in-Some-delivery_line c =
    let found = c.in-Some-delivery_line in
    let pass = c.pass-in-Some-delivery_line.ensures in
    rw (c.delivery.ensures, c.as_slice.ensures.value)
    (is_next (told_step found.told _) c.delivery_line.new.self _ c.args.self.now _ found.ensures
    (c.of-front-4.ensures ∙ ap rest_of c.self.view_is) (ap read_of pass) (ap rest_of pass ∙ c.rest-in-Some-delivery_line.ensures))

pub returns-in-Some-thread_line : goal.returns-in-Some-thread_line
returns-in-Some-thread_line c =
    let found = c.in-Some-thread_line in
    let step = Wait found.thread in
    is_next step c.thread_line-2.new.self _ c.args.self.now _
    (word_line step (codes "wait ") (thread_word found.thread) _ _ refl found.ensures.global found.ensures.line)
    (c.of-front-5.ensures ∙ ap rest_of c.self.view_is) (ap read_of c.pass-in-Some-thread_line.ensures) (ap rest_of c.pass-in-Some-thread_line.ensures ∙ c.rest-in-Some-thread_line.ensures)

pub returns-in-Some-thread_line-2 : goal.returns-in-Some-thread_line-2
returns-in-Some-thread_line-2 c =
    let found = c.in-Some-thread_line-2 in
    let step = ReceiveTimeout found.thread in
    is_next step c.thread_line-3.new.self _ c.args.self.now _
    (word_line step (codes "rtimeout ") (thread_word found.thread) _ _ refl found.ensures.global found.ensures.line)
    (c.of-front-6.ensures ∙ ap rest_of c.self.view_is) (ap read_of c.pass-in-Some-thread_line-2.ensures) (ap rest_of c.pass-in-Some-thread_line-2.ensures ∙ c.rest-in-Some-thread_line-2.ensures)

pub returns-in-Some-tick_line : goal.returns-in-Some-tick_line
returns-in-Some-tick_line c =
    let found = c.in-Some-tick_line in
    let pass = c.pass-in-Some-tick_line.ensures in
    is_next (Tick found.tick.cpu found.tick.clock) c.tick_line.new.self _ c.args.self.now _ found.ensures
    (c.of-front-7.ensures ∙ ap rest_of c.self.view_is) (ap read_of pass) (ap rest_of pass ∙ c.rest-in-Some-tick_line.ensures)
