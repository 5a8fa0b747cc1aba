use Rattle.std.proofs.Common.{List, sym, subst}
use Rattle.l4_machine.specs.Gathers.{merged_steps}
use Rattle.l4_replay.specs.Inner.Waiting.{AreBegunOnce}
use Rattle.l4_proc.specs.declared.processor.Processor.{Processor}
use Rattle.l4_machine.proofs.logs.Logs.waiting.Goals as goal

pub waiting_sends-requires-clause-once : goal.waiting_sends-requires-clause-once
waiting_sends-requires-clause-once c =
    subst (λ (ps : List Processor). AreBegunOnce (merged_steps c.args.self.now.machine.now ps)) (sym c.as_slice.ensures.value) c.requires.once
