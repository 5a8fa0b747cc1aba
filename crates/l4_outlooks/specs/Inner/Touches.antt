-- What an instruction of another thread may do to a thread.
use Rattle.std.specs.Prelude.{Bool}
use Rattle.std.specs.List.{list_any}
use Rattle.l4_model.specs.Words.{GlobalId}
use Rattle.l4_model.specs.Machine.{Instr, Declaration}
use Rattle.l4_first.specs.First.{instruction_deletes, instruction_concerns, instruction_tries, may_ask}
use Rattle.l4_outlooks.specs.declared.scripts.Touch.{Touch}
use Rattle.l4_outlooks.specs.declared.scripts.Touch.TheVariants as variants

abbrev pub touches : Touch → GlobalId → Instr → Bool
touches variants.Deletion id = instruction_deletes id
touches variants.Order id = instruction_concerns id
touches variants.Trial id = instruction_tries id

abbrev pub script_asks : Declaration → Bool
script_asks d = list_any may_ask d.script
