use Rattle.std.proofs.Common.{◌≡◌, ℕ, Option, refl, ap, ap₂, sym, ◌∙◌}
use Rattle.l4_model.specs.Words.{Id}
use Rattle.l4_model.specs.World.{Thread}
use Rattle.l4_model.specs.Machine.{Machine}
use Rattle.l4_model.specs.Effects.{obeyed}
use Rattle.l4_model.specs.History.{Report, report_of}
use Rattle.l4_core_model.specs.Local.{declared, thread}
use Rattle.l4_replay.specs.Inner.Homes.{last_send}
use Rattle.l4_replay.proofs.Hearing.{sends_still, thread_changed}
use Rattle.l4_replay.proofs.homes.OwnerView.end_order.Goals as goal

pub returns-clause-heard : goal.returns-clause-heard
returns-clause-heard c = λ t are.
    let m = c.args.machine.now in
    let now : Thread = thread c.args.core.now.local c.args.place in
    let id = ap (λ (r : Report). r.id) c.view.ensures in
    let told = c.after_order.ensures now (c.view.ensures ∙ ap (λ id. report_of id now) (sym id)) in
    let named = id ∙ ap (λ (m : Machine). (declared m c.args.place).id) c.requires.machine in
    let sent : record { k = c.begun.result; to = c.destination.result } ≡ last_send now =
    ap₂ (λ (k : ℕ) (to : Option Id). record { k = k; to = to }) c.begun.ensures c.destination.ensures in
    thread_changed m t c.args.self.now _ c.args.place c.after_order.result
    (record { k = c.begun.result; to = c.destination.result }) (obeyed now)
    c.requires.place are refl refl (told ∙ ap (λ id. report_of id (obeyed now)) named) (sent ∙ sends_still now)
