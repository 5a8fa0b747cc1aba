use Rattle.std.proofs.Common.{ap, ◌∙◌}
use Rattle.l4_mail.specs.Ports.{place}
use Rattle.l4_proc.specs.declared.processor.Processor.{Processor}
use Rattle.l4_proc.proofs.Rested.{one_of_set}
use Rattle.l4_host_tests.proofs.processors.runs_idle.Goals as goal

pub returns : goal.returns
returns c = one_of_set c.args.processors.now.items c.args.at c.work.new.processor c.index_mut.result.now
    (c.work.ensures.place ∙ ap (λ (q : Processor). place q.port) c.index_mut.ensures.value) c.requires
