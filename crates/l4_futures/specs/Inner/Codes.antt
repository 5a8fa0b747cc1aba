-- The code of a world, a list of numbers. It leaves out clocks, when phases and sends began, numbers of sends, and of
-- deleted threads their registers, their place, and the order of what waits at them.
use Rattle.std.specs.Prelude.{ℕ, List, [], length}
use Rattle.l4_model.specs.Machine.{Machine}
use Rattle.l4_model.specs.World.{World}
use Rattle.l4_states.specs.Inner.Codes.{number_code, chained, sized, thread_code, owed_code}
use Rattle.l4_worlds.specs.Bare.{bare}

-- Threads, lists of waiting senders by their places, and owed retargets. Codes of threads and owed
-- retargets have no number of a send, and no clock.
abbrev pub parts_code : Machine → World → List ℕ
parts_code m w =
    sized (length m.threads) thread_code w.threads
    (sized (length m.threads) (chained number_code) w.waiting (chained owed_code w.owed []))

abbrev pub code_of : Machine → World → List ℕ
code_of m w = parts_code m (bare w)
