use Rattle.std.proofs.Common.{◌≡◌, true, drop}
use Rattle.l4_script.proofs.SimpleLines.{is_simple_left}
use Rattle.l4_script.proofs.text.second.lines.is_simple.Given as goal

abbrev pub invariant-loop-byte : goal.invariant-loop-byte
invariant-loop-byte l = is_simple_left true l.line ≡ is_simple_left l.begins (drop l.byte-index l.line)
