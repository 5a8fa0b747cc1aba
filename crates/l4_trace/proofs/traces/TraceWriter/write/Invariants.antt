use Rattle.std.proofs.Common.{◌≡◌, ◌++◌, length}
use Rattle.std.specs.List.{list_all}
use Rattle.l4_trace.specs.Lines.{has_line, trace_of}
use Rattle.l4_trace.specs.declared.traces.TheConstants.{BLOCK_BYTES}
use Rattle.l4_trace.proofs.traces.TraceWriter.write.Given as goal

-- The lines so far, and those of the steps to come.
abbrev pub invariant-loop-left : goal.invariant-loop-left
invariant-loop-left l = record {
  room : length l.self.block.bytes.items ≡ BLOCK_BYTES;
  lines : l.self.lines.items ++ trace_of l.left ≡ l.fn.self.lines.items ++ trace_of l.fn.steps;
  spelled : list_all has_line l.left ≡ list_all has_line l.fn.steps;
}

abbrev pub decreases-loop-left : goal.decreases-loop-left
decreases-loop-left l = length l.left
