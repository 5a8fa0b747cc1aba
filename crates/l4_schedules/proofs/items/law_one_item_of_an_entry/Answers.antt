use Rattle.l4_schedules.proofs.ItemSpelling.{item_spells, item_alone}
use Rattle.l4_schedules.proofs.items.law_one_item_of_an_entry.Goals as goal

pub returns-clause-spelled : goal.returns-clause-spelled
returns-clause-spelled c = item_spells

pub returns-clause-alone : goal.returns-clause-alone
returns-clause-alone c = item_alone
