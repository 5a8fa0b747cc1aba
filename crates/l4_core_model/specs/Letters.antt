-- What processors tell each other.
use Rattle.std.specs.Prelude.{ℕ, Bool, Option, Some, None}
use Rattle.l4_model.specs.Words.{GlobalId}
use Rattle.l4_model.specs.Machine.{OrderKind, CancelSend, CancelReceive, CancelBoth, Delete}
use Rattle.l4_model.specs.World.{Message, Name, Owed}
use Rattle.l4_model.specs.Steps.{Step, SendTimeout, SendNobody, SendCancel, Drop}

-- How a send ends without delivery; and `Result`, how it ends at all.

pub data Refusal : Type 0 where
  TimedOut : Refusal
  Nobody : Refusal
  Cancelled : Refusal
  Dropped : Refusal

pub data Result : Type 0 where
  Delivered : Result
  Refused : Refusal → Result

-- Why a send is withdrawn.
pub data Cause : Type 0 where
  ByTimeout : Cause
  ByCancel : Cause
  ByDeletion : Cause

pub data Content : Type 0 where
  SendLetter : Name → (receiver : GlobalId) → Message → (zero_timeout : Bool) → Content
  DoneLetter : Name → Result → Content
  WithdrawLetter : Name → (receiver : GlobalId) → Cause → Content
  GoneLetter : GlobalId → Content
  OrderLetter : (caller target : GlobalId) → OrderKind → Content
  OrderDoneLetter : (caller : GlobalId) → Content
  RetargetLetter : Owed → Content

-- A letter has the stamp of the event that posted it.
pub record Letter : Type 0 where
  pub stamp : ℕ
  pub content : Content

abbrev pub refusal_step : Refusal → Name → Step
refusal_step TimedOut s = SendTimeout s
refusal_step Nobody s = SendNobody s
refusal_step Cancelled s = SendCancel s
refusal_step Dropped s = Drop s

abbrev pub refusal_of : Cause → Refusal
refusal_of ByTimeout = TimedOut
refusal_of ByCancel = Cancelled
refusal_of ByDeletion = Dropped

-- Whether an order withdraws a send of its target.
abbrev pub cause_of : OrderKind → Option Cause
cause_of CancelSend = Some ByCancel
cause_of CancelReceive = None
cause_of CancelBoth = Some ByCancel
cause_of Delete = Some ByDeletion
