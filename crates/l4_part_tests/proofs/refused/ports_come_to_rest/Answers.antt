use Rattle.std.proofs.Common.{ap, ◌∙◌}
use Rattle.l4_mail.specs.Ports.{place}
use Rattle.l4_mail.proofs.Fabrics.{fabric_set}
use Rattle.l4_part_tests.proofs.refused.ports_come_to_rest.Goals as goal

pub rests-requires : goal.rests-requires
rests-requires g c = fabric_set _ 2 _ c.index_mut.result.now (c.send_two.ensures ∙ ap place c.index_mut.ensures.value) c.in_ok-ports.ensures.one
