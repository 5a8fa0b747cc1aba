-- Worked rows: steps that are not possible where they are told, or as they are told.
use Rattle.std.specs.Prelude.{◌≡◌, Some, [], ◌∷◌, refl}
use Rattle.l4_model.specs.Machine.{CancelSend}
use Rattle.l4_model.specs.Steps.{Local, Begin, Queue, Deliver, Wait, Order}
use Rattle.l4_model.specs.History.{refused_place}
use Rattle.l4_model.proofs.Rows.Writing.{thread, send}
use Rattle.l4_model.proofs.Rows.Messages.{first_path, two_processors}
use Rattle.l4_model.proofs.Rows.Queues.{mutual_sends}
use Rattle.l4_model.proofs.Rows.Acceptance.{two_sends}

-- What is told is what the script does.
local_at_a_send : refused_place mutual_sends (
    Local (thread 1) ∷ []) ≡ Some 1
local_at_a_send = refl

wait_at_a_send : refused_place mutual_sends (
    Wait (thread 1) ∷ []) ≡ Some 1
wait_at_a_send = refl

begin_at_a_set : refused_place first_path (
    Begin (send 1 1) ∷ []) ≡ Some 1
begin_at_a_set = refl

begin_at_a_wait : refused_place first_path (
    Begin (send 2 1) ∷ []) ≡ Some 1
begin_at_a_wait = refl

wait_at_a_set : refused_place first_path (
    Wait (thread 1) ∷ []) ≡ Some 1
wait_at_a_set = refl

order_at_a_set : refused_place first_path (
    Order (thread 1) (thread 2) CancelSend ∷ []) ≡ Some 1
order_at_a_set = refl

undeclared : refused_place first_path (
    Local (thread 9) ∷ []) ≡ Some 1
undeclared = refl

ended : refused_place first_path (
    Local (thread 1)
    ∷ Local (thread 1)
    ∷ Wait (thread 2)
    ∷ Begin (send 1 1)
    ∷ Queue (send 1 1)
    ∷ Deliver (send 1 1) (thread 2) (thread 1) (thread 1) 0x70001 (0xa ∷ [])
    ∷ Local (thread 1)
    ∷ Local (thread 1) ∷ []) ≡ Some 8
ended = refl

while_it_receives : refused_place two_sends (
    Wait (thread 2)
    ∷ Wait (thread 2) ∷ []) ≡ Some 2
while_it_receives = refl

-- Sends are numbered from 1, one at a time, and each arrives once.
while_it_sends : refused_place two_sends (
    Begin (send 1 1)
    ∷ Begin (send 1 2) ∷ []) ≡ Some 2
while_it_sends = refl

second_first : refused_place two_sends (
    Begin (send 1 2) ∷ []) ≡ Some 1
second_first = refl

from_zero : refused_place two_sends (
    Begin (send 1 0) ∷ []) ≡ Some 1
from_zero = refl

another_queued : refused_place two_sends (
    Begin (send 1 1)
    ∷ Queue (send 1 2) ∷ []) ≡ Some 2
another_queued = refl

queued_twice : refused_place two_sends (
    Begin (send 1 1)
    ∷ Queue (send 1 1)
    ∷ Queue (send 1 1) ∷ []) ≡ Some 3
queued_twice = refl

decided_twice : refused_place two_sends (
    Begin (send 1 1)
    ∷ Queue (send 1 1)
    ∷ Wait (thread 2)
    ∷ Deliver (send 1 1) (thread 2) (thread 1) (thread 1) 0 []
    ∷ Queue (send 1 1) ∷ []) ≡ Some 5
decided_twice = refl

not_received : refused_place two_sends (
    Begin (send 1 1)
    ∷ Queue (send 1 1)
    ∷ Deliver (send 1 1) (thread 2) (thread 1) (thread 1) 0 [] ∷ []) ≡ Some 3
not_received = refl

-- A delivery is told with its own receiver, senders, tag and words.
another_receiver : refused_place first_path (
    Wait (thread 2)
    ∷ Local (thread 1)
    ∷ Local (thread 1)
    ∷ Begin (send 1 1)
    ∷ Queue (send 1 1)
    ∷ Deliver (send 1 1) (thread 1) (thread 1) (thread 1) 0x70001 (0xa ∷ []) ∷ []) ≡ Some 6
another_receiver = refl

another_shown : refused_place first_path (
    Wait (thread 2)
    ∷ Local (thread 1)
    ∷ Local (thread 1)
    ∷ Begin (send 1 1)
    ∷ Queue (send 1 1)
    ∷ Deliver (send 1 1) (thread 2) (thread 2) (thread 1) 0x70001 (0xa ∷ []) ∷ []) ≡ Some 6
another_shown = refl

another_actual : refused_place first_path (
    Wait (thread 2)
    ∷ Local (thread 1)
    ∷ Local (thread 1)
    ∷ Begin (send 1 1)
    ∷ Queue (send 1 1)
    ∷ Deliver (send 1 1) (thread 2) (thread 1) (thread 2) 0x70001 (0xa ∷ []) ∷ []) ≡ Some 6
another_actual = refl

another_label : refused_place first_path (
    Wait (thread 2)
    ∷ Local (thread 1)
    ∷ Local (thread 1)
    ∷ Begin (send 1 1)
    ∷ Queue (send 1 1)
    ∷ Deliver (send 1 1) (thread 2) (thread 1) (thread 1) 0x80001 (0xa ∷ []) ∷ []) ≡ Some 6
another_label = refl

not_across : refused_place two_processors (
    Wait (thread 2)
    ∷ Local (thread 1)
    ∷ Local (thread 1)
    ∷ Begin (send 1 1)
    ∷ Queue (send 1 1)
    ∷ Deliver (send 1 1) (thread 2) (thread 1) (thread 1) 0x70001 (0xa ∷ []) ∷ []) ≡ Some 6
not_across = refl

one_word_more : refused_place first_path (
    Wait (thread 2)
    ∷ Local (thread 1)
    ∷ Local (thread 1)
    ∷ Begin (send 1 1)
    ∷ Queue (send 1 1)
    ∷ Deliver (send 1 1) (thread 2) (thread 1) (thread 1) 0x70001 (0xa ∷ 0 ∷ []) ∷ []) ≡ Some 6
one_word_more = refl

one_word_less : refused_place first_path (
    Wait (thread 2)
    ∷ Local (thread 1)
    ∷ Local (thread 1)
    ∷ Begin (send 1 1)
    ∷ Queue (send 1 1)
    ∷ Deliver (send 1 1) (thread 2) (thread 1) (thread 1) 0x70001 [] ∷ []) ≡ Some 6
one_word_less = refl
