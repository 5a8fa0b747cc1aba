-- Why processors come to no outcome.
use Rattle.l4_mail.specs.declared.rests.RestFault.{RestFault}
use Rattle.l4_mail.specs.declared.rests.RestFault.TheVariants as rest_fault
use Rattle.l4_replay.specs.declared.fault.RunFault.{RunFault}
use Rattle.l4_replay.specs.declared.fault.RunFault.TheVariants as run_fault

abbrev pub fault_of_rest : RestFault → RunFault
fault_of_rest rest_fault.Numbers = run_fault.Strangers
fault_of_rest rest_fault.NoMemory = run_fault.NoMemory
