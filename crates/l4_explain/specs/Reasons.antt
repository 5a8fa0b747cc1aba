-- Why a step is refused, and the line of it.
use Rattle.std.specs.Prelude.{ℕ, ◌≡◌, Bool, true, false, if◌then◌else◌, Some, None, List, [], ◌++◌, codes, decimal}
use Rattle.l4_model.specs.Words.{W64, GlobalId, is_global, has_word_in}
use Rattle.l4_model.specs.Machine.{Machine, OrderKind, is_declared, same_space}
use Rattle.l4_model.specs.World.{World}
use Rattle.l4_model.specs.Rules.{is_admitted}
use Rattle.l4_model.specs.Steps as steps
use Rattle.l4_model.specs.Steps.{Step, next}
use Rattle.l4_audit.specs.Reasons.{reason}
use Rattle.l4_audit.specs.declared.reasons.Reason.{Reason}
use Rattle.l4_audit.specs.declared.reasons.Reason.TheVariants.{Undeclared, NotReady, NotLocal, NotNext, NoSendPhase, NoReceivePhase, NoOrder, OtherOrder, NotUndecided, NoReceiver, ReceiverDeleted, Waiting, NotWaiting, MustWait, NotReceiving, AcceptsNone, NotFirst, OtherReceiver, OtherShown, OtherSender, OtherTag, OtherWords, NotTimedOut, HasDestination, SendNotCancelled, SenderNotDeleted, ReceiveNotPassed, HasPartner, AcceptsFirst, ReceiveNotCancelled, AskedNothing, TargetUndeclared, NoProcessor, ClockAt, PastClocks, NotOwed, OriginatorUndeclared}
use Rattle.l4_reports.specs.ReportLines.{id_word, state_word}
use Rattle.l4_trace.specs.Lines.{hexadecimal, is_word, thread_word, order_kind_word}
use Rattle.l4_types.specs.ReportView.{state_of_view}
use Rattle.l4_explain.specs.declared.reasons.Cause.{Cause}
use Rattle.l4_explain.specs.declared.reasons.Cause.TheVariants as causes
use Rattle.l4_explain.specs.declared.reasons.Value.{Value}
use Rattle.l4_explain.specs.declared.reasons.Value.TheVariants.{Nothing, State, Thread, Id, Number, Word, Order}

-- The cause of a refused step is the first condition of its rule that is false. But where the
-- instruction gives no admitted order, and the order of the step is not admitted either, it is that.

abbrev pub cause_of_order : Machine → (caller target : GlobalId) → OrderKind → Cause
cause_of_order m caller target what =
    if is_admitted m caller target what then causes.Rule NoOrder
    else if is_declared m target then causes.OtherSpace
    else causes.TargetUndeclared target

abbrev pub cause_by_step : Machine → Step → Cause
cause_by_step m (steps.Order caller target what) = cause_of_order m caller target what
cause_by_step m step = causes.Rule NoOrder

abbrev pub cause : Machine → Step → Reason → Cause
cause m step NoOrder = cause_by_step m step
cause m step r = causes.Rule r

-- What is told of a refused step is so.

-- The step is an order for an undeclared thread, and possible in no world.
pub record IsForUndeclared (m : Machine) (step : Step) (target : GlobalId) : Type 0 where
  pub caller : GlobalId
  pub what : OrderKind
  pub order : step ≡ steps.Order caller target what
  pub undeclared : is_declared m target ≡ false
  pub never : (w : World) → next m w step ≡ None

-- The step is an order between two declared threads of different spaces, and possible in no world.
pub record IsForOtherSpace (m : Machine) (step : Step) : Type 0 where
  pub caller : GlobalId
  pub target : GlobalId
  pub what : OrderKind
  pub order : step ≡ steps.Order caller target what
  pub declared : (is_declared m caller ≡ true) × (is_declared m target ≡ true)
  pub other : same_space m caller target ≡ false
  pub never : (w : World) → next m w step ≡ None

abbrev pub Holds : Machine → World → Step → Cause → Type 0
Holds m w step (causes.Rule r) = reason m w step ≡ Some r
Holds m w step (causes.TargetUndeclared target) = IsForUndeclared m step target
Holds m w step causes.OtherSpace = IsForOtherSpace m step

-- The words of a cause are fixed. Behind them stands the value that the world has.

abbrev pub sentence_of_reason : Reason → List ℕ × Value
sentence_of_reason Undeclared = (codes "the thread is not declared", Nothing)
sentence_of_reason (NotReady state) = (codes "the thread is not ready but", State state)
sentence_of_reason NotLocal = (codes "the instruction is an ipc with a phase or an order", Nothing)
sentence_of_reason (NotNext begun) = (codes "the send is not the next after number", Number begun)
sentence_of_reason NoSendPhase = (codes "the instruction has no send phase", Nothing)
sentence_of_reason NoReceivePhase = (codes "the instruction does not begin with a receive phase", Nothing)
sentence_of_reason NoOrder = (codes "the instruction gives no admitted order", Nothing)
sentence_of_reason (OtherOrder order) = (codes "the instruction gives the order", Order order)
sentence_of_reason NotUndecided = (codes "no send of this name is undecided", Nothing)
sentence_of_reason (NoReceiver to) = (codes "the destination is no declared thread but", Id to)
sentence_of_reason (ReceiverDeleted deleted) = (codes "the destination is the deleted thread", Thread deleted)
sentence_of_reason Waiting = (codes "the send waits in a list already", Nothing)
sentence_of_reason NotWaiting = (codes "the send waits in no list", Nothing)
sentence_of_reason (MustWait to) = (codes "the send must wait for a retarget of", Id to)
sentence_of_reason (NotReceiving state) = (codes "the receiver is not receiving but", State state)
sentence_of_reason AcceptsNone = (codes "the receiver accepts no send in its list", Nothing)
sentence_of_reason (NotFirst sender) = (codes "the receiver accepts first the send of", Thread sender)
sentence_of_reason (OtherReceiver receiver) = (codes "the send goes to", Thread receiver)
sentence_of_reason (OtherShown sender) = (codes "the shown sender is", Thread sender)
sentence_of_reason (OtherSender sender) = (codes "the actual sender is", Thread sender)
sentence_of_reason (OtherTag tag) = (codes "the received tag is", Word tag)
sentence_of_reason OtherWords = (codes "the message has other words", Nothing)
sentence_of_reason (NotTimedOut clock) = (codes "the send does not time out at clock", Number clock)
sentence_of_reason (HasDestination to) = (codes "the destination is the living thread", Id to)
sentence_of_reason SendNotCancelled = (codes "no cancellation of the send is asked for", Nothing)
sentence_of_reason (SenderNotDeleted state) = (codes "the sender is not deleted but", State state)
sentence_of_reason (ReceiveNotPassed clock) = (codes "the receive does not time out at clock", Number clock)
sentence_of_reason (HasPartner from) = (codes "the receive is not from nobody but from", Id from)
sentence_of_reason (AcceptsFirst sender) = (codes "the receiver accepts the waiting send of", Thread sender)
sentence_of_reason ReceiveNotCancelled = (codes "no cancellation of the receive is asked for", Nothing)
sentence_of_reason AskedNothing = (codes "the thread has no undone order", Nothing)
sentence_of_reason (TargetUndeclared target) = (codes "the order is for the undeclared thread", Thread target)
sentence_of_reason NoProcessor = (codes "the machine has no such processor", Nothing)
sentence_of_reason (ClockAt clock) = (codes "the clock is already at", Number clock)
sentence_of_reason PastClocks = (codes "the clock stays below 4611686018427387904", Nothing)
sentence_of_reason NotOwed = (codes "no retarget of this name is owed", Nothing)
sentence_of_reason (OriginatorUndeclared originator) =
    (codes "the retarget is of the undeclared thread", Thread originator)

abbrev pub sentence : Cause → List ℕ × Value
sentence (causes.Rule r) = sentence_of_reason r
sentence (causes.TargetUndeclared target) =
    (codes "the order is not admitted, as it is for the undeclared thread", Thread target)
sentence causes.OtherSpace =
    (codes "the order is not admitted, as the threads are of different spaces", Nothing)

-- A value is spelled as in reports and traces.
abbrev pub value_text : Value → List ℕ
value_text Nothing = []
value_text (State state) = codes " " ++ state_word (state_of_view state)
value_text (Thread thread) = codes " " ++ thread_word thread
value_text (Id id) = codes " " ++ id_word id
value_text (Number number) = codes " " ++ decimal number
value_text (Word word) = codes " " ++ hexadecimal word
value_text (Order order) =
    codes " " ++ thread_word order.target ++ codes " " ++ order_kind_word order.what

abbrev pub line_of_sentence : List ℕ × Value → List ℕ
line_of_sentence s = codes "because " ++ s.0 ++ value_text s.1 ++ codes "\n"

abbrev pub cause_text : Cause → List ℕ
cause_text c = line_of_sentence (sentence c)

-- The values that the world of a machine may have: numbers that are words, and ids that have a
-- word.
abbrev pub is_value : Value → Bool
is_value (Thread thread) = is_global thread
is_value (Id id) = has_word_in W64 id
is_value (Number number) = is_word number
is_value (Word word) = is_word word
is_value (Order order) = is_global order.target
is_value _ = true

abbrev pub has_word : Cause → Bool
has_word c = is_value (sentence c).1
