use Rattle.std.proofs.Common.{◌≡◌, ℕ, None, refl, ap, ap₂, ◌∙◌}
use Rattle.l4_model.specs.World.{Thread}
use Rattle.l4_model.specs.Machine.{Machine}
use Rattle.l4_model.specs.History.{report_of}
use Rattle.l4_core_model.specs.Local.{after_decision, declared, thread}
use Rattle.l4_types.specs.Inner.LetterView.{decision_of}
use Rattle.l4_thread.specs.Inner.Parts.{Block}
use Rattle.l4_replay.proofs.Hearing.{sends_nothing, thread_changed}
use Rattle.l4_replay.proofs.homes.OwnerView.end_send.Goals as goal

pub returns-clause-heard : goal.returns-clause-heard
returns-clause-heard c = λ t are.
    let m = c.args.machine.now in
    let l = c.args.core.now.local in
    let result = decision_of c.args.decision in
    let u : Thread = after_decision result l.clock (thread l c.args.place) in
    let changed = c.change.ensures
    ∙ ap (λ (b : Block). record b { thread = after_decision result c.clock.result b.thread })
    c.duplicate-block.ensures in
    let told = ap₂ (λ (clock : ℕ) (t : Thread). after_decision result clock t) c.clock.ensures.value
    c.block.ensures.thread in
    let reported = c.view.ensures ∙ ap (λ (b : Block). report_of b.id b.thread) changed
    ∙ ap₂ (λ id (t : Thread). report_of id t)
    (c.block.ensures.id ∙ ap (λ (m : Machine). (declared m c.args.place).id) c.requires.machine) told in
    thread_changed m t c.args.self.now _ c.args.place c.view.result (record { k = c.begun.result; to = None }) u
    c.requires.place are refl refl reported
    (ap (λ k. record { k = k; to = None }) c.begun.ensures ∙ sends_nothing result l.clock (thread l c.args.place))
