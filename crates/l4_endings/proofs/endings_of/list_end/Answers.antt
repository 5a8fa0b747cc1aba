use Rattle.std.proofs.Common.{sym, ◌∙◌}
use Rattle.l4_explore.specs.Search.{seen_at}
use Rattle.l4_endings.specs.Inner.Tried.{told}
use Rattle.l4_endings.proofs.Ending.{no_end, one_end}
use Rattle.l4_endings.proofs.endings_of.list_end.Goals as goal

pub returns-then-not-is_end : goal.returns-then-not-is_end
returns-then-not-is_end c =
    no_end c.args.machine.now (seen_at c.args.found.now c.args.place) (told c.args.ends.now.items)
    (sym c.is_end.ensures ∙ c.if-not-is_end.true)

pub returns : goal.returns
returns c =
    one_end c.args.machine.now (seen_at c.args.found.now c.args.place) c.args.ends.now.items
    c.push.new.self.items c.in_ok-entries_at.field-0 (sym c.is_end.ensures ∙ c.if-not-is_end.false)
    c.in_ok-push.ensures.items c.in_ok-entries_at.ensures
