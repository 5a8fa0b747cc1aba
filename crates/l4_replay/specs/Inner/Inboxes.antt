-- The letters that have come to a processor, by the processor that posted them.
use Rattle.std.specs.Prelude.{List}
use Rattle.l4_core_model.specs.Letters.{Letter}
use Rattle.l4_replay.specs.declared.inbox.Inbox.{Inbox}

abbrev pub letters_in : Inbox → List (List Letter)
letters_in i = i.queues.items
