use Rattle.std.proofs.Common.{◌≡◌, take}
use Rattle.l4_futures.specs.Inner.Search.{ends_of}
use Rattle.l4_all_endings.specs.Tried.{schedules_from}
use Rattle.l4_all_endings.proofs.search.ends.Given as goal

-- Of the worlds before the next one the ends were listed.
abbrev pub invariant-loop-place : goal.invariant-loop-place
invariant-loop-place l = schedules_from l.ends.items ≡ ends_of (take l.place l.found)
