use Rattle.std.proofs.Common.{ℕ, Bool, sym, ap, ◌∙◌, rules, tests}
use Rattle.std.specs.Prelude.{find, slice_get}
use Rattle.std.proofs.lemmas.Iterator.Adapters.{option_map_id}
use Rattle.std.proofs.lemmas.Iterator.Consumers.{YieldsList-from_first}
use Rattle.std.proofs.lemmas.Iterator.Search.{find_from_yields_List}
use Rattle.std.proofs.lemmas.Option.{slice_get_within}
use Rattle.l4_model.specs.Conditions.{shows_accepted}
use Rattle.l4_audit.proofs.Lists.{list_there, senders_within}
use Rattle.l4_audit.proofs.world.World.first_accepted.Goals as goal

pub waiting_at-requires : goal.waiting_at-requires
waiting_at-requires c =
    let i = c.self.inside in
    let a = c.args.self.now in
    let r = c.args.receiver.now in
    rw c.place.ensures
    (senders_within i.machine.now i.threads.items i.lists.waiting i.clocks.items _ a r.at c.self.view_is c.self.invariant (slice_get_within a.world.threads r.at r.now c.requires))

pub returns : goal.returns
returns c =
    let i = c.self.inside in
    let a = c.args.self.now in
    let r = c.args.receiver.now in
    let test : ℕ → Bool = λ s. shows_accepted a.machine c.args.from r.declared.id (slice_get a.world.threads s) in
    sym (option_map_id c.find.result)
    ∙ find_from_yields_List test _ _ c.find.result c.find.ensures.ran (YieldsList-from_first (λ x. x) (λ left. left) _ c.waiting_at.ensures.blocks) (λ x b q k. search (rules, tests))
    ∙ ap (find test) (rw c.place.ensures (list_there i.machine.now i.threads.items i.lists.waiting i.clocks.items _ a r.at c.self.view_is))
