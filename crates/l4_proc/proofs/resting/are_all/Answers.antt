use Rattle.std.proofs.Common.{sym, ◌∙◌}
use Rattle.l4_proc.proofs.Rested.{all_found, none_found, other_found}
use Rattle.l4_proc.proofs.resting.are_all.Goals as goal
use Rattle.l4_proc.proofs.resting.are_all.Goals.{then-not-is_empty, else-not-is_empty}

pub returns-then-have_size : goal.returns-then-have_size
returns-then-have_size c = elim c.if-not-is_empty.branch [
  | then-not-is_empty w ↦ all_found c.args.processors.now c.is_empty.result w.have_size.result c.have_numbers.result c.is_empty.ensures w.if-not-is_empty.true
      w.have_size.ensures (sym w.value-is ∙ c.if-have_size.true) c.have_numbers.ensures
  | else-not-is_empty w ↦ absurd (let no = sym w.value-is ∙ c.if-have_size.true in cc)
]

pub returns-else-have_size : goal.returns-else-have_size
returns-else-have_size c = c.if-have_size.false ∙ elim c.if-not-is_empty.branch [
  | then-not-is_empty w ↦ other_found c.args.processors.now w.have_size.result w.have_size.ensures (sym w.value-is ∙ c.if-have_size.false)
  | else-not-is_empty w ↦ none_found c.args.processors.now c.is_empty.result c.is_empty.ensures w.if-not-is_empty.false
]
