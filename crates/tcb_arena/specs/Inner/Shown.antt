-- The plain lists that the rings, the senders and the armed blocks of an `Arena` show.
use Rattle.std.specs.Prelude.{◌≡◌, ℕ, false, List, length, slice_index_or, map}
use Rattle.l4_model.specs.Words.{global_id}
use Rattle.l4_core_model.specs.Plain.{Plain, Waiting}
use Rattle.tcb_arena.specs.declared.Sender.{Sender}
use Rattle.tcb_arena.specs.Inner.Due.{Due, armed_of}
use Rattle.tcb_arena.specs.Inner.Rings.{Lists, list_at}

-- Past the end.
abbrev pub no_sender : Sender
no_sender = record { shown = global_id 0 1; local = false }

abbrev pub sender_at : List Sender → ℕ → Sender
sender_at senders block = slice_index_or senders block no_sender

abbrev pub waiting_of : ℕ → Sender → Waiting
waiting_of block sender = record { block = block; shown = sender.shown; local = sender.local }

abbrev pub waiting_at : List Sender → ℕ → Waiting
waiting_at senders block = waiting_of block (sender_at senders block)

abbrev pub shown_lists : Lists → List Sender → Lists → Due → Plain
shown_lists waiting senders ready due =
    record {
      waiting = map (map (waiting_at senders)) waiting.lists;
      ready = list_at ready 0;
      armed = armed_of due;
    }

-- Each has room for each block, and each block has a ring of its own.
pub record AreBlocks (waiting : Lists) (senders : List Sender) (ready : Lists) (due : Due) :
    Type 0 where
  pub names : waiting.names ≡ length senders
  pub heads : length waiting.lists ≡ length senders
  pub ready_names : ready.names ≡ length senders
  pub ready_heads : length ready.lists ≡ 1
  pub due_blocks : due.blocks ≡ length senders
