-- An undecided send, whose words stay in its sender's registers.
use Rattle.std.specs.Prelude.{ℕ, Bool, ◌<◌, List, Option, take, drop}
use Rattle.l4_model.specs.Words.{GlobalId, Id, Period, register_count}
use Rattle.l4_model.specs.World.{Message, Send, Receive}
use Rattle.l4_thread.specs.declared.sends.Words.{Words}
use Rattle.l4_thread.specs.declared.sends.Words.TheVariants.{InRegisters, Apart}

-- A message but for its words.
pub record Headed : Type 0 where
  pub label : ℕ
  pub words : Words
  pub propagated : Bool
  pub shown : GlobalId
  pub actual : GlobalId

-- A send but for the words of its message.
pub record Held : Type 0 where
  pub to : Id
  pub head : Headed
  pub period : Period
  pub since : ℕ
  pub receive : Option Receive

-- A message has at most 63 words.
abbrev pub AreFew : Words → Type 0
AreFew (InRegisters count) = count < register_count
AreFew Apart = Unit {0}

-- The words of a message: the separate copy, or those in the registers.
abbrev pub words_of : (apart registers : List ℕ) → Words → List ℕ
words_of apart registers (InRegisters count) = take count (drop 1 registers)
words_of apart registers Apart = apart

abbrev pub with_words : List ℕ → Headed → Message
with_words words h = record {
  label = h.label;
  words = words;
  propagated = h.propagated;
  shown = h.shown;
  actual = h.actual;
}

abbrev pub message_of : (apart registers : List ℕ) → Headed → Message
message_of apart registers h = with_words (words_of apart registers h.words) h

abbrev pub sent_with : List ℕ → Held → Send
sent_with words h = record {
  to = h.to;
  message = with_words words h.head;
  period = h.period;
  since = h.since;
  receive = h.receive;
}

abbrev pub sent_of : (apart registers : List ℕ) → Held → Send
sent_of apart registers h = sent_with (words_of apart registers h.head.words) h
