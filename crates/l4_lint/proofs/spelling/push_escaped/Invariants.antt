use Rattle.std.proofs.Common.{◌≡◌, ◌≤◌, ◌++◌}
use Rattle.std.specs.Char.Escape.{escape_ascii}
use Rattle.std.specs.Char.Iter.{escape_byte_rest, escape_byte_left, escape_byte_end}
use Rattle.l4_lint.proofs.spelling.push_escaped.Given as goal

abbrev pub invariant-pieces : goal.invariant-pieces
invariant-pieces l =
    record {
      whole : l.out.items ++ escape_byte_rest l.pieces ≡ l.initial.out.items ++ escape_ascii l.byte;
      bound : escape_byte_end l.pieces ≤ 4;
    }

abbrev pub decreases-pieces : goal.decreases-pieces
decreases-pieces l = escape_byte_left l.pieces
