use Rattle.std.proofs.Common.{◌≡◌, ◌≤◌, ◌++◌, length, map}
use Rattle.std.specs.Prelude.{All}
use Rattle.l4_words.specs.Lines.{parts_of}
use Rattle.l4_lint.proofs.missed.parts_of.Given as goal

abbrev pub invariant-lines : goal.invariant-lines
invariant-lines l =
    record {
      whole : map (λ part. part.now) l.parts.items ++ parts_of l.rest ≡ parts_of l.text;
      short : All (λ part. length part.now ≤ 0x10_0000) l.parts.items;
      within : length l.rest ≤ length l.text;
    }

abbrev pub decreases-lines : goal.decreases-lines
decreases-lines l = length l.rest
