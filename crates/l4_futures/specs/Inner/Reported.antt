-- What a report tells of a world.
use Rattle.std.specs.Prelude.{◌≡◌, Option, List, map}
use Rattle.std.specs.Option.{option_map}
use Rattle.l4_model.specs.Words.{Id}
use Rattle.l4_model.specs.Machine.{Machine}
use Rattle.l4_model.specs.World.{World}
use Rattle.l4_model.specs.History.{view}
use Rattle.l4_worlds.specs.Bare.{bare}

-- For each thread to whom its undecided send goes, if it has one.
abbrev pub destinations : World → List (Option Id)
destinations w = map (λ t. option_map (λ send. send.to) t.send) w.threads

-- Reports of them are equal but for the registers of deleted threads and the order of sends.
pub record AreReportedAlike (m : Machine) (w v : World) : Type 0 where
  pub threads : view m (bare w) ≡ view m (bare v)
  pub sends : destinations w ≡ destinations v
