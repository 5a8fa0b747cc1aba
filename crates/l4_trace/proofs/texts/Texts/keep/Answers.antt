use Rattle.std.proofs.lemmas.List.Elements.{All-set}
use Rattle.l4_trace.specs.Inner.Texts.{IsThreadText}
use Rattle.l4_trace.proofs.texts.Texts.keep.Goals as goal

pub invariant_of-self-clause-threads_are : goal.invariant_of-self-clause-threads_are
invariant_of-self-clause-threads_are c =
    All-set IsThreadText c.args.self.now.threads.items c.slot_of-slot.result c.new.result c.new.ensures.text c.args.self.now.threads_are
