use Rattle.std.proofs.Common.{◌≡◌, ◌*◌, ◌≤◌, ◌++◌, length, drop}
use Rattle.std.specs.List.{list_all}
use Rattle.l4_trace.specs.Lines.{has_line, trace_of}
use Rattle.l4_trace.specs.declared.lines.TheConstants.{LONGEST_LINE}
use Rattle.l4_trace.specs.declared.traces.TheConstants.{BLOCK_BYTES}
use Rattle.l4_trace.proofs.traces.Block.write.Given as goal

-- The lines of the steps that are left stand before those that are written.
abbrev pub invariant-loop-left : goal.invariant-loop-left
invariant-loop-left l = record {
  room : length l.self.bytes.items ≡ BLOCK_BYTES;
  within : l.self.start ≤ BLOCK_BYTES;
  enough : LONGEST_LINE * length l.left ≤ l.self.start;
  lines : trace_of l.left ++ drop l.self.start l.self.bytes.items ≡ trace_of l.fn.steps;
  spelled : list_all has_line l.left ≡ list_all has_line l.fn.steps;
}

abbrev pub decreases-loop-left : goal.decreases-loop-left
decreases-loop-left l = length l.left
