-- The values of the code, as the definitions have them.
use Rattle.l4_schedules.specs.declared.faulty.ItemFault.{ItemFault}
use Rattle.l4_schedules.specs.Faulty.{Fault, fault}

abbrev pub fault_of : ItemFault → Fault
fault_of f = fault f.number f.word.now f.hint
