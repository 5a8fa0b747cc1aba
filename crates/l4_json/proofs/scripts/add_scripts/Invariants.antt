use Rattle.std.proofs.Common.{◌≡◌, ◌-◌, ◌++◌, length, map, replicate}
use Rattle.l4_json.proofs.scripts.add_scripts.Given as goal

abbrev pub invariant-threads : goal.invariant-threads
invariant-threads l =
    map (λ lines. lines.items) l.scripts.items ++ replicate (l.count - length l.scripts.items) l.lines
    ≡ map (λ lines. lines.items) l.initial.scripts.items ++ replicate (l.count - length l.initial.scripts.items) l.lines

abbrev pub decreases-threads : goal.decreases-threads
decreases-threads l = l.count - length l.scripts.items
