use Rattle.std.proofs.Common.{◌≡◌, true, drop}
use Rattle.l4_script.proofs.PlainWords.{is_plain_left}
use Rattle.l4_script.proofs.text.lines.has_plain_words.Given as goal

abbrev pub invariant-loop-byte : goal.invariant-loop-byte
invariant-loop-byte l = is_plain_left true l.line ≡ is_plain_left l.begins (drop l.byte-index l.line)
