-- Parts of a letter of the program as those of one of the core run.
use Rattle.l4_types.specs.declared.letters.Refusal.{Refusal}
use Rattle.l4_types.specs.declared.letters.Refusal.TheVariants.{TimedOut, Nobody, Cancelled, Dropped}
use Rattle.l4_types.specs.declared.letters.Decision.{Decision}
use Rattle.l4_types.specs.declared.letters.Decision.TheVariants.{Delivered, Refused}
use Rattle.l4_types.specs.declared.letters.Cause.{Cause}
use Rattle.l4_types.specs.declared.letters.Cause.TheVariants.{ByTimeout, ByCancel, ByDeletion}
use Rattle.l4_core_model.specs.Letters as letters

abbrev pub refusal_of_send : Refusal → letters.Refusal
refusal_of_send TimedOut = letters.TimedOut
refusal_of_send Nobody = letters.Nobody
refusal_of_send Cancelled = letters.Cancelled
refusal_of_send Dropped = letters.Dropped

abbrev pub decision_of : Decision → letters.Result
decision_of Delivered = letters.Delivered
decision_of (Refused refusal) = letters.Refused (refusal_of_send refusal)

abbrev pub cause_of_withdrawal : Cause → letters.Cause
cause_of_withdrawal ByTimeout = letters.ByTimeout
cause_of_withdrawal ByCancel = letters.ByCancel
cause_of_withdrawal ByDeletion = letters.ByDeletion
