use Rattle.l4_history.proofs.Pushed.{slots-told}
use Rattle.l4_history.proofs.history.History.grow.Goals as goal

pub returns-clause-steps : goal.returns-clause-steps
returns-clause-steps c =
    rw (c.reserve_more.ensures.items, c.reserve_indexes.ensures.items, c.reserve_indexes-2.ensures.items, c.reserve_indexes-3.ensures.items, ← c.self.view_is)
    (slots-told c.self.inside.threads.slots.items c.open.new.self.slots.items c.open.ensures.kept c.self.inside.records.items c.self.inside.heads.items c.self.inside.wide.items c.self.inside.words.items c.self.invariant.0)
