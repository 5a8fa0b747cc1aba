use Rattle.l4_host_tests.proofs.GoneOn.{of_one_behind}
use Rattle.l4_host_tests.proofs.nowait.without_wait.Goals as goal

pub gather_once-requires : goal.gather_once-requires
gather_once-requires g c =
    of_one_behind c.expect-machine.result c.in-Some.processors c.as_mut_slice.result.now c.all_work_on.new.processors c.as_mut_slice.ensures.value
    c.as_mut_slice.ensures.len c.all_work_on.ensures.for_each c.all_work_on.ensures.each c.in-Some.ensures
