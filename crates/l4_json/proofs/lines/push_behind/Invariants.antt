use Rattle.std.proofs.Common.{◌≡◌, ◌++◌, length}
use Rattle.std.specs.Option.{option_copied}
use Rattle.l4_words.specs.Words.{words_left}
use Rattle.l4_json.specs.Objects.{behind_text}
use Rattle.l4_json.proofs.lines.push_behind.Given as goal

abbrev pub invariant-loop-left : goal.invariant-loop-left
invariant-loop-left l =
    l.out.items ++ behind_text (words_left (option_copied l.left)) ≡ l.initial.out.items ++ behind_text (words_left (option_copied l.initial.left))

abbrev pub decreases-loop-left : goal.decreases-loop-left
decreases-loop-left l = length (words_left (option_copied l.left))
