use Rattle.std.proofs.Common.{◌≡◌, ◌++◌, drop, map}
use Rattle.l4_model.specs.World.{Thread}
use Rattle.l4_forever.specs.Waits.{wait_in, waits_in}
use Rattle.l4_outlooks.proofs.outlook.Outlook.waits.Given as goal

-- With those of the threads that are left it is all.
abbrev pub invariant-loop-place : goal.invariant-loop-place
invariant-loop-place l =
    l.waits.items ++ map (λ (t : Thread). wait_in t.phase) (drop l.place l.self.world.threads)
    ≡ waits_in l.self.world
