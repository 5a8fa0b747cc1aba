use Rattle.std.proofs.Common.{◌≡◌, ◌++◌, drop}
use Rattle.std.specs.Prelude.{flat_map}
use Rattle.std.specs.String.{string_bytes}
use Rattle.l4_always.proofs.Telling.{members, send_told}
use Rattle.l4_always.proofs.told.push_sends.Given as goal

-- With the lines of the threads that are left it is all.
abbrev pub invariant-loop-place : goal.invariant-loop-place
invariant-loop-place l =
    string_bytes l.text ++ flat_map send_told (drop l.place (members l.machine l.outlook.world))
    ≡ string_bytes l.initial.text ++ flat_map send_told (members l.machine l.outlook.world)
