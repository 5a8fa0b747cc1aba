use Rattle.std.proofs.Common.{◌≡◌, ◌+◌, ◌≤◌, [], length, map}
use Rattle.l4_words.specs.Lines.{parts_of}
use Rattle.l4_script.specs.Inner.Second.{stage_of}
use Rattle.l4_script.specs.Second.Texts.{Start}
use Rattle.l4_json.specs.Lines.{all_but_last}
use Rattle.l4_json.specs.Scripts.{second_script_lines}
use Rattle.l4_json.proofs.scripts.second_lines.Given as goal

abbrev pub invariant-lines : goal.invariant-lines
invariant-lines l =
    record {
      whole : second_script_lines (all_but_last (parts_of l.left)) l.number (stage_of l.stage) (map (λ lines. lines.items) l.scripts.items)
          ≡ second_script_lines (all_but_last (parts_of l.text)) 1 Start [];
      counted : l.number + length l.left ≤ length l.text + 1;
    }

abbrev pub decreases-lines : goal.decreases-lines
decreases-lines l = length l.left
