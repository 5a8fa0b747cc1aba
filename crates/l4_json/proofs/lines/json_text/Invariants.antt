use Rattle.std.proofs.Common.{◌≡◌, ◌++◌, length}
use Rattle.l4_json.specs.Lines.{json_text}
use Rattle.l4_json.proofs.lines.json_text.Given as goal

abbrev pub invariant-loop-line : goal.invariant-loop-line
invariant-loop-line l = l.out.items ++ json_text l.left ≡ json_text l.text

abbrev pub decreases-loop-line : goal.decreases-loop-line
decreases-loop-line l = length l.left
