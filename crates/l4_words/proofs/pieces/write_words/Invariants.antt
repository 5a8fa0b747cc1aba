use Rattle.std.proofs.Common.{◌≡◌, ◌+◌, ◌*◌, ◌≤◌, ◌++◌, length, drop}
use Rattle.std.specs.Prelude.{codes, flat_map}
use Rattle.std.specs.List.{list_all}
use Rattle.l4_words.specs.Numbers.{hexadecimal, is_word}
use Rattle.l4_words.proofs.pieces.write_words.Given as goal

abbrev pub invariant-words : goal.invariant-words
invariant-words l = record {
  room : 17 * length l.rest ≤ l.at;
  used : l.end + 17 * length l.rest ≤ l.at + 17 * length l.words;
  within : l.at ≤ l.end;
  written : flat_map (λ word. codes " " ++ hexadecimal word) l.rest ++ drop l.at l.line ≡ flat_map (λ word. codes " " ++ hexadecimal word) l.words ++ drop l.end l.fn.line;
  spelled : list_all is_word l.rest ≡ list_all is_word l.words;
}

abbrev pub decreases-words : goal.decreases-words
decreases-words l = length l.rest
