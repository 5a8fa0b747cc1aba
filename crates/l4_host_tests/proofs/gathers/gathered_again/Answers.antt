use Rattle.l4_host_tests.proofs.gathers.gathered_again.Goals as goal

pub gather_once-requires : goal.gather_once-requires
gather_once-requires g c = c.in-Err-NoMemory-default.ensures
