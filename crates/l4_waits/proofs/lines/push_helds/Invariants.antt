use Rattle.std.proofs.Common.{◌≡◌, ◌++◌, take}
use Rattle.std.specs.Prelude.{flat_map}
use Rattle.std.specs.String.{string_bytes}
use Rattle.l4_waits.specs.Lines.{held_line}
use Rattle.l4_waits.proofs.lines.push_helds.Given as goal

abbrev pub invariant-loop-send : goal.invariant-loop-send
invariant-loop-send l = string_bytes l.text ≡ string_bytes l.initial.text ++ flat_map held_line (take l.send-index l.sends)
