use Rattle.std.proofs.Common.{◌≡◌, ◌++◌, true, take}
use Rattle.std.specs.Prelude.{codes, flat_map}
use Rattle.std.specs.List.{list_all}
use Rattle.std.specs.String.{string_bytes}
use Rattle.l4_words.specs.Numbers.{hexadecimal, is_word}
use Rattle.l4_words.proofs.spelling.push_words.Given as goal

abbrev pub invariant-loop-word : goal.invariant-loop-word
invariant-loop-word l = record {
  written : string_bytes l.line ≡ string_bytes l.initial.line ++ flat_map (λ word. codes " " ++ hexadecimal word) (take l.word-index l.words);
  spelled : list_all is_word (take l.word-index l.words) ≡ true;
}
