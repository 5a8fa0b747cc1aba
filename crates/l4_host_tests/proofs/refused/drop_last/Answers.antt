use Rattle.std.proofs.Common.{List, map, subst}
use Rattle.std.specs.Option.{option_to_list}
use Rattle.l4_mail.specs.Ports.{AreOneFabric}
use Rattle.l4_proc.specs.declared.processor.Processor.{Processor}
use Rattle.l4_proc.proofs.Rested.{one_of_first, port_of}
use Rattle.l4_host_tests.proofs.refused.drop_last.Goals as goal

pub returns : goal.returns
returns c = one_of_first c.pop-last.new.self.items (option_to_list c.pop-last.result)
    (subst (λ (ps : List Processor). AreOneFabric (map port_of ps)) c.pop-last.ensures.items c.requires)
