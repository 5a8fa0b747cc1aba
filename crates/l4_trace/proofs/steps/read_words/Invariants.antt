use Rattle.std.proofs.Common.{◌≡◌, [], length}
use Rattle.l4_trace.specs.Reading.{message_words}
use Rattle.l4_trace.proofs.steps.read_words.Given as goal

abbrev pub invariant-spelled : goal.invariant-spelled
invariant-spelled l = message_words l.words.items l.spelled ≡ message_words [] l.initial.spelled

abbrev pub decreases-spelled : goal.decreases-spelled
decreases-spelled l = length l.spelled
