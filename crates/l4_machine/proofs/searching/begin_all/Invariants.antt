use Rattle.std.proofs.Common.{◌≤◌, ◌+◌, drop}
use Rattle.l4_replay.specs.Inner.Waiting.{count_sought, count_undecided, sought}
use Rattle.l4_machine.specs.Inner.Waiting.{all_at_end}
use Rattle.l4_machine.proofs.searching.begin_all.Given as goal

abbrev pub invariant-loop-log : goal.invariant-loop-log
invariant-loop-log l =
    count_undecided l.search.at_home.now.sends.items + count_sought (sought l.search) (all_at_end l.processors l.most (drop l.log-index l.logs))
    ≤ l.missing + count_sought (sought l.search) (all_at_end l.processors l.most l.logs)
