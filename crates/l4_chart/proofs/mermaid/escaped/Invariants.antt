use Rattle.std.proofs.Common.{◌≡◌, take}
use Rattle.std.specs.Prelude.{flat_map}
use Rattle.l4_chart.specs.Diagrams.{escaped_byte}
use Rattle.l4_chart.proofs.mermaid.escaped.Given as goal

abbrev pub invariant-loop-byte : goal.invariant-loop-byte
invariant-loop-byte l =
    l.bytes.items ≡ flat_map escaped_byte (take l.byte-index l.text)
