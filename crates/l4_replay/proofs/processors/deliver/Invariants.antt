use Rattle.std.proofs.Common.{◌≡◌, length, map}
use Rattle.l4_replay.specs.UnderWay.{CanPost, with_letters}
use Rattle.l4_replay.specs.Inner.Nodes.{station_of}
use Rattle.l4_replay.proofs.processors.deliver.Given as goal

abbrev pub invariant-letters : goal.invariant-letters
invariant-letters l = record {
  come : with_letters l.from l.buffer.letters (map station_of l.nodes) ≡
      with_letters l.from l.initial.buffer.letters (map station_of l.initial.nodes);
  can : CanPost l.from l.buffer.letters (map station_of l.nodes);
  before : l.buffer.before ≡ l.initial.buffer.before;
  steps : l.buffer.steps ≡ l.initial.buffer.steps;
}

abbrev pub decreases-letters : goal.decreases-letters
decreases-letters l = length l.buffer.letters
