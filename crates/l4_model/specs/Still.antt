-- A world where nothing but clocks can go on, now or later.
use Rattle.std.specs.Prelude.{◌+◌, ◌-◌, ◌≡◌, ◌&&◌, Bool, true, false, Option, Some, None, is_none, List, [], ◌∷◌, ◌++◌, map}
use Rattle.std.specs.List.{list_all, AllByRecursion}
use Rattle.l4_model.specs.Words.{GlobalId, clock_limit}
use Rattle.l4_model.specs.Machine.{Machine}
use Rattle.l4_model.specs.World.{World, PendingOrder, Name}
use Rattle.l4_model.specs.Steps.{Step, OfThread, OfSend, Fails, Failed, Local, Begin, Queue, Deliver, Wait, Drop, Order, Obey, Tick, Retarget, order_of, next}
use Rattle.l4_model.specs.Conditions.{Pending, Found, found, undecided, receiver_of, act_of}
use Rattle.l4_model.specs.Rules.{Failure, TimeOver, NobodyThere, CancelAsked, received_tag, is_cross}
use Rattle.l4_model.specs.History.{run}

abbrev pub is_tick : Step → Bool
is_tick (Tick cpu clock) = true
is_tick _ = false

-- No step but a tick is possible here, nor after any ticks.
abbrev pub IsStill : Machine → World → Type 0
IsStill m w =
    (ticks : List Step) (later : World) (step : Step) →
    AllByRecursion (λ tick. is_tick tick ≡ true) ticks → run m w ticks ≡ Some later →
    is_tick step ≡ false →
    next m later step ≡ None

-- A test of it: with every clock at its last value, no candidate step of a thread and no owed
-- retarget is possible.

abbrev pub deliveries : Machine → World → Option Pending → Name → List Step
deliveries m w None s = []
deliveries m w (Some p) s = at (receiver_of m w p)
  where
    at : Option Found → List Step
    at None = []
    at (Some r) = Deliver s r.declared.id p.send.message.shown p.send.message.actual
        (received_tag (is_cross m r.declared.id p.send.message) p.send.message)
        p.send.message.words ∷ []

abbrev pub orders : GlobalId → Option PendingOrder → List Step
orders caller None = []
orders caller (Some order) = Order caller order.target order.what ∷ []

abbrev pub failures : List Failure
failures = TimeOver ∷ NobodyThere ∷ CancelAsked ∷ []

abbrev pub candidates : Machine → World → Option Found → List Step
candidates m w None = []
candidates m w (Some t) = all t.declared.id (record {
  thread = t.declared.id;
  k = t.now.context.begun;
})
  where
    all : GlobalId → Name → List Step
    all id last =
        (Local id ∷ Begin (record { thread = id; k = last.k + 1 }) ∷ Wait id ∷ Obey id
        ∷ map (λ why. OfThread (Fails why) id) failures)
        ++ (Queue last ∷ map (λ why. OfSend (Failed why) last) failures)
        ++ (Drop last ∷ deliveries m w (undecided m w last) last)
        ++ orders id (order_of (act_of m t))

abbrev pub late : World → World
late w = record w { clocks = map (λ clock. clock_limit - 1) w.clocks }

abbrev pub is_still_thread : Machine → World → GlobalId → Bool
is_still_thread m w id = list_all (λ step. is_none (next m w step)) (candidates m w (found m w id))

abbrev pub is_still : Machine → World → Bool
is_still m w = list_all (λ d. is_still_thread m (late w) d.id) m.threads &&
    list_all (λ o. is_none (next m (late w) (Retarget o.send))) w.owed
