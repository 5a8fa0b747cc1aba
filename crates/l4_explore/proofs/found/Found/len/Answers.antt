use Rattle.std.proofs.Common.{◌∙◌, sym}
use Rattle.l4_explore.specs.Inner.Views.{all_arrived}
use Rattle.l4_explore.proofs.Growing.{length-seen}
use Rattle.l4_explore.proofs.found.Found.len.Goals as goal

pub returns-clause-value : goal.returns-clause-value
returns-clause-value c = rw (← c.self.view_is)
    (c.len.ensures.value
    ∙ sym (length-seen c.self.inside.codes (all_arrived c.self.inside.arrivals.items c.self.inside.ends.items)
    c.self.invariant.are))
