-- Threads that wait and may wait for ever.
use Rattle.std.specs.Prelude.{Bool, true, false, ◌||◌, Option, None, Some, is_some}
use Rattle.std.specs.List.{list_any}
use Rattle.l4_model.specs.Words.{Id, NilThread, AnyThread, AnyLocalThread, LocalThread, GlobalThread}
use Rattle.l4_model.specs.World.{Receive, Thread, World, receive_now}

-- A receive from one thread is closed to all others. A receive from any, or from any local thread,
-- is open, as that of an idle server.

abbrev pub names_one : Id → Bool
names_one NilThread = false
names_one AnyThread = false
names_one AnyLocalThread = false
names_one (LocalThread word) = true
names_one (GlobalThread t) = true

abbrev pub is_closed : Option Receive → Bool
is_closed None = false
is_closed (Some receive) = names_one receive.from

-- Its last send is undecided, or it is in a receive phase that takes one thread alone.
abbrev pub is_stuck_thread : Thread → Bool
is_stuck_thread t = is_some t.send || is_closed (receive_now t.phase)

-- Some thread is stuck there.
abbrev pub is_stuck_world : World → Bool
is_stuck_world w = list_any is_stuck_thread w.threads
