-- What becomes of a thread that makes an Ipc.
use Rattle.std.specs.Prelude.{◌≡◌, ℕ, Bool, true, Option, is_some}
use Rattle.l4_model.specs.Words.{GlobalId, Id}
use Rattle.l4_model.specs.Machine.{Machine}
use Rattle.l4_model.specs.World as world
use Rattle.l4_model.specs.World.{Context, Thread}
use Rattle.l4_model.specs.Rules.{permitted, Act, Sends, Receives}
use Rattle.l4_model.specs.Effects.{begins, goes_on, waits}
use Rattle.l4_thread.specs.Inner.Requests.{counted, propagates}
use Rattle.l4_thread.specs.declared.phases.Began.{Began}
use Rattle.l4_thread.specs.declared.phases.Began.TheVariants.{Nothing, Send, Receive}

-- A thread may show the originator that an id names.
abbrev pub may_show : Machine → (sender : GlobalId) → Id → Bool
may_show m sender actual = is_some (permitted m sender actual)

-- If the sender asks for propagation, `permitted` is whether it may show the originator that it
-- names.
abbrev pub IsPermission : (permitted : Bool) → Machine → (sender : GlobalId) → Context → Type 0
IsPermission permitted m sender c = propagates c ≡ true → permitted ≡ may_show m sender c.actual

-- It begins the phase that it asks for.
abbrev pub starts : Act → (now : ℕ) → Thread → Thread
starts (Sends send) now t = begins send t
starts (Receives receive) now t = waits receive now t
starts _ now t = t

abbrev pub began_of : Act → Began
began_of (Sends send) = Send
began_of (Receives receive) = Receive
began_of _ = Nothing

-- Its send begins, and is taken at once: nothing of it is kept, and its Ipc goes on as after a
-- delivery.
abbrev pub passes : Option world.Receive → (now : ℕ) → Thread → Thread
passes receive now t = goes_on receive now (record t { context = counted t.context })
