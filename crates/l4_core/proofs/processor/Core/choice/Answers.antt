use Rattle.std.proofs.Common.{sym, ◌∙◌, ap}
use Rattle.std.specs.Prelude.{slice_get}
use Rattle.std.specs.Option.{option_map}
use Rattle.l4_core_model.specs.Plain.{due_block}
use Rattle.l4_core_model.specs.Turns as turns
use Rattle.l4_core.specs.Inner.Choosing.{choice_of, duty_of}
use Rattle.l4_core.specs.Processor.{Processor}
use Rattle.l4_core.proofs.Choosing.{chooses_duty, chooses_other, due_first, ready_next}
use Rattle.l4_core.proofs.processor.Core.choice.Goals as goal

pub returns-in-Some-clause-choice : goal.returns-in-Some-clause-choice
returns-in-Some-clause-choice c = sym (chooses_duty c.args.self.now.machine c.args.self.now.cpu c.args.self.now.local c.in-Some.place (duty_of c.args.self.now.local.owed c.in-Some.place c.in-Some.duty) c.in-Some.ensures.found)

pub returns-in-Some-first_due-clause-choice : goal.returns-in-Some-first_due-clause-choice
returns-in-Some-first_due-clause-choice c =
    let p = c.args.self.now in
    let due = ap (λ (q : Processor). due_block q.local.clock q.local.lists.armed) (sym c.first_duty.ensures.same) ∙ sym c.first_due.ensures.due ∙ c.in-Some-first_due.is in
    sym (chooses_other p.machine p.cpu p.local c.in_default.ensures.found ∙ due_first (due_block p.local.clock p.local.lists.armed) c.in-Some-first_due.place _ due)

pub returns-in_err-place-clause-choice : goal.returns-in_err-place-clause-choice
returns-in_err-place-clause-choice c =
    let p = c.args.self.now in
    let due = ap (λ (q : Processor). due_block q.local.clock q.local.lists.armed) (sym c.first_duty.ensures.same) ∙ sym c.first_due.ensures.due ∙ c.in_default-first_due.is in
    let ready = sym c.in_err-place.was ∙ c.first_ready.ensures ∙ ap (λ (q : Processor). slice_get q.local.lists.ready 0) (c.self.view_is ∙ c.first_due.ensures.same ∙ c.first_duty.ensures.same) in
    ap (option_map (choice_of c.args.self.now.local.owed)) c.from_residual.ensures ∙ ap (option_map turns.ByReady) ready
    ∙ sym (chooses_other p.machine p.cpu p.local c.in_default.ensures.found ∙ ready_next (due_block p.local.clock p.local.lists.armed) (slice_get p.local.lists.ready 0) due)

pub returns-clause-choice : goal.returns-clause-choice
returns-clause-choice c =
    let p = c.args.self.now in
    let due = ap (λ (q : Processor). due_block q.local.clock q.local.lists.armed) (sym c.first_duty.ensures.same) ∙ sym c.first_due.ensures.due ∙ c.in_default-first_due.is in
    let ready = sym c.in_ok-place.was ∙ c.first_ready.ensures ∙ ap (λ (q : Processor). slice_get q.local.lists.ready 0) (c.self.view_is ∙ c.first_due.ensures.same ∙ c.first_duty.ensures.same) in
    ap (option_map turns.ByReady) ready
    ∙ sym (chooses_other p.machine p.cpu p.local c.in_default.ensures.found ∙ ready_next (due_block p.local.clock p.local.lists.armed) (slice_get p.local.lists.ready 0) due)
