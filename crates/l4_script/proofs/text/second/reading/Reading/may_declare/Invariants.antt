use Rattle.std.proofs.Common.{◌≡◌, suc, ◌-◌, ◌≤◌}
use Rattle.std.specs.List.{list_any, range_with_len}
use Rattle.l4_script.specs.Machines.{is_taken}
use Rattle.l4_script.proofs.text.second.reading.Reading.may_declare.Given as goal

abbrev pub invariant-numbers : goal.invariant-numbers
invariant-numbers l =
    record {
      rises : l.number ≤ l.heir.last;
      whole : list_any (λ number. is_taken number l.self.machine) (range_with_len l.heir.id.number (suc l.heir.last - l.heir.id.number))
          ≡ list_any (λ number. is_taken number l.self.machine) (range_with_len l.number (suc l.heir.last - l.number));
    }

abbrev pub decreases-numbers : goal.decreases-numbers
decreases-numbers l = l.heir.last - l.number
