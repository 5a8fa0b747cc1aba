use Rattle.std.proofs.Common.{length}
use Rattle.l4_questions.proofs.printed.+share_processor.Given as goal

abbrev pub decreases-share_processor : goal.decreases-share_processor
decreases-share_processor l = length l.threads.now
