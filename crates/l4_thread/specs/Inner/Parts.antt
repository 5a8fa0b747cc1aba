-- What contracts see of a thread and of its control block.
use Rattle.l4_model.specs.Words.{GlobalId}
use Rattle.l4_model.specs.World.{Context, Thread}

-- A thread: its id, and what its own instructions read and write.
pub record Part : Type 0 where
  pub id : GlobalId
  pub context : Context

-- A thread control block: the thread's id, and all that is known of the thread.
pub record Block : Type 0 where
  pub id : GlobalId
  pub thread : Thread
