use Rattle.std.proofs.Common.{◌≡◌, ◌++◌, length, take}
use Rattle.std.specs.List.{zip}
use Rattle.std.specs.Prelude.{flat_map}
use Rattle.std.specs.String.{string_bytes}
use Rattle.l4_counts.specs.Inner.Threads.{line_of}
use Rattle.l4_counts.proofs.lines.push_all.Given as goal

abbrev pub invariant-loop-declared : goal.invariant-loop-declared
invariant-loop-declared l =
    string_bytes l.text ≡ string_bytes l.initial.text ++ flat_map line_of (take (length l.yielded) (zip l.threads l.counts))
