use Rattle.std.specs.Prelude.{not}
use Rattle.std.proofs.Common.{rules, tests}
use Rattle.std.proofs.lemmas.Fn.{filter_same}
use Rattle.l4_audit.specs.Inner.Audited.{senders_of}
use Rattle.l4_audit.specs.Inner.Owing.{is_of_name}
use Rattle.l4_audit.proofs.Owing.{forgotten}
use Rattle.l4_audit.proofs.world.World.forget.Goals as goal

pub returns : goal.returns
returns c =
    let i = c.self.inside in
    let others = filter_same _ (λ o. not (is_of_name c.args.name o)) _ (λ x b q k. search (rules, tests)) _ _ c.retain.ensures.filtered in
    forgotten i.machine.now i.threads.items (senders_of i.lists.waiting) i.clocks.items i.owed.items _ c.args.self.now c.args.name c.self.view_is others
