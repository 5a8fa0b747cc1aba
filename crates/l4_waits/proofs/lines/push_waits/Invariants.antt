use Rattle.std.proofs.Common.{◌≡◌, ◌++◌, take}
use Rattle.std.specs.Prelude.{flat_map}
use Rattle.std.specs.String.{string_bytes}
use Rattle.l4_waits.specs.Lines.{wait_line}
use Rattle.l4_waits.proofs.lines.push_waits.Given as goal

abbrev pub invariant-loop-id : goal.invariant-loop-id
invariant-loop-id l = string_bytes l.text ≡ string_bytes l.initial.text ++ flat_map wait_line (take l.id-index l.waits)
