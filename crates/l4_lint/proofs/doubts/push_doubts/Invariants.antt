use Rattle.std.proofs.Common.{◌≡◌, ◌++◌, take, map}
use Rattle.std.specs.Option.{option_copied}
use Rattle.l4_lint.specs.Doubts.{doubts_text}
use Rattle.l4_lint.specs.Inner.Views.{doubtful_of}
use Rattle.l4_lint.proofs.doubts.push_doubts.Given as goal

abbrev pub invariant-loop-doubtful : goal.invariant-loop-doubtful
invariant-loop-doubtful l =
    l.out.items ≡ l.initial.out.items ++ doubts_text (option_copied l.file) (map doubtful_of (take l.doubtful-index l.found))
