use Rattle.std.proofs.Common.{◌+◌, sym, ◌∙◌}
use Rattle.std.proofs.lemmas.List.{take_rest}
use Rattle.l4_schedules.specs.Items.{letter_between}
use Rattle.l4_schedules.proofs.ItemSpelling.{at_place, whole_turn}
use Rattle.l4_schedules.proofs.items.turn_of.Goals as goal

pub returns-in-Some : goal.returns-in-Some
returns-in-Some c =
    let word = c.args.word.now in
    rw (take_rest word (c.in-Some.colon + 1)) at c.letter_between.ensures
    ∙ sym (at_place whole_turn letter_between word _ (sym c.find_byte.ensures ∙ c.in-Some.is))
