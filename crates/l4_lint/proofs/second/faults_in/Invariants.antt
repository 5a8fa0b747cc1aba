use Rattle.std.proofs.Common.{◌≡◌, ◌+◌, ◌≤◌, ◌++◌, length, map}
use Rattle.l4_words.specs.Lines.{parts_of}
use Rattle.l4_lint.specs.Second.Faults.{faults_from, not_read}
use Rattle.l4_lint.specs.Inner.Views.{fault_of, second_reader_of}
use Rattle.l4_lint.proofs.second.faults_in.Given as goal

abbrev pub invariant-lines : goal.invariant-lines
invariant-lines l =
    record {
      whole : map fault_of l.found.items ++ faults_from (parts_of l.text) (parts_of l.rest) (second_reader_of l.reader) l.number ≡ faults_from (parts_of l.text) (parts_of l.text) not_read 1;
      within : length l.rest ≤ length l.text;
      counted : l.number + length l.rest ≤ 1 + length l.text;
    }

abbrev pub decreases-lines : goal.decreases-lines
decreases-lines l = length l.rest
