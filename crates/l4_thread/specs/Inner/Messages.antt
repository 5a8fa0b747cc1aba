-- What comes to a receiver of a message, and what a sender gives.
use Rattle.std.specs.Prelude.{ℕ, List, false, unwrap_or}
use Rattle.std.specs.Option.{option_map}
use Rattle.l4_model.specs.Words.{GlobalId}
use Rattle.l4_model.specs.World.{Message, Thread}
use Rattle.l4_thread.specs.Inner.Requests.{message_if}

-- A message of these words and senders. Its label, and whether it is propagated, come to a receiver
-- by the tag alone.
abbrev pub unlabelled : (words : List ℕ) → (shown actual : GlobalId) → Message
unlabelled words shown actual = record {
  label = 0;
  words = words;
  propagated = false;
  shown = shown;
  actual = actual;
}

-- The message that a thread sends: that of its undecided send, else that of a send that begins now
-- and shows no originator.
abbrev pub outgoing : (sender : GlobalId) → Thread → Message
outgoing sender t = unwrap_or (option_map (λ send. send.message) t.send)
    (message_if false sender t.context)
