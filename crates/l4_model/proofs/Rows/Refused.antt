-- Worked rows: steps that are no history, with the place of the first that is not possible.
use Rattle.std.specs.Prelude.{◌≡◌, Some, [], ◌∷◌, refl}
use Rattle.l4_model.specs.Steps.{Local, Begin, Queue, Deliver, Wait, SendTimeout, ReceiveTimeout, Tick}
use Rattle.l4_model.specs.History.{refused_place}
use Rattle.l4_model.proofs.Rows.Writing.{thread, send}
use Rattle.l4_model.proofs.Rows.Messages.{first_path, two_processors}
use Rattle.l4_model.proofs.Rows.Queues.{closed_receive}
use Rattle.l4_model.proofs.Rows.Timeouts.{finite_receive, crossing_calls}

doubled_delivery : refused_place first_path (
    Local (thread 1)
    ∷ Wait (thread 2)
    ∷ Local (thread 1)
    ∷ Begin (send 1 1)
    ∷ Queue (send 1 1)
    ∷ Deliver (send 1 1) (thread 2) (thread 1) (thread 1) 0x70001 (0xa ∷ [])
    ∷ Deliver (send 1 1) (thread 2) (thread 1) (thread 1) 0x70001 (0xa ∷ [])
    ∷ Local (thread 2)
    ∷ Local (thread 1) ∷ []) ≡ Some 7
doubled_delivery = refl

changed_word : refused_place first_path (
    Local (thread 1)
    ∷ Wait (thread 2)
    ∷ Local (thread 1)
    ∷ Begin (send 1 1)
    ∷ Queue (send 1 1)
    ∷ Deliver (send 1 1) (thread 2) (thread 1) (thread 1) 0x70001 (0xb ∷ [])
    ∷ Local (thread 2)
    ∷ Local (thread 1) ∷ []) ≡ Some 6
changed_word = refl

delivered_before_queued : refused_place first_path (
    Local (thread 1)
    ∷ Wait (thread 2)
    ∷ Local (thread 1)
    ∷ Begin (send 1 1)
    ∷ Deliver (send 1 1) (thread 2) (thread 1) (thread 1) 0x70001 (0xa ∷ [])
    ∷ Queue (send 1 1)
    ∷ Local (thread 2)
    ∷ Local (thread 1) ∷ []) ≡ Some 5
delivered_before_queued = refl

doubled_delivery_across : refused_place two_processors (
    Wait (thread 2)
    ∷ Local (thread 1)
    ∷ Local (thread 1)
    ∷ Begin (send 1 1)
    ∷ Queue (send 1 1)
    ∷ Deliver (send 1 1) (thread 2) (thread 1) (thread 1) 0x74001 (0xa ∷ [])
    ∷ Deliver (send 1 1) (thread 2) (thread 1) (thread 1) 0x74001 (0xa ∷ [])
    ∷ Local (thread 1)
    ∷ Local (thread 2) ∷ []) ≡ Some 7
doubled_delivery_across = refl

changed_word_across : refused_place two_processors (
    Wait (thread 2)
    ∷ Local (thread 1)
    ∷ Local (thread 1)
    ∷ Begin (send 1 1)
    ∷ Queue (send 1 1)
    ∷ Deliver (send 1 1) (thread 2) (thread 1) (thread 1) 0x74001 (0xb ∷ [])
    ∷ Local (thread 1)
    ∷ Local (thread 2) ∷ []) ≡ Some 6
changed_word_across = refl

delivered_before_queued_across : refused_place two_processors (
    Wait (thread 2)
    ∷ Local (thread 1)
    ∷ Local (thread 1)
    ∷ Begin (send 1 1)
    ∷ Deliver (send 1 1) (thread 2) (thread 1) (thread 1) 0x74001 (0xa ∷ [])
    ∷ Queue (send 1 1)
    ∷ Local (thread 1)
    ∷ Local (thread 2) ∷ []) ≡ Some 5
delivered_before_queued_across = refl

not_its_turn : refused_place closed_receive (
    Begin (send 1 1)
    ∷ Queue (send 1 1)
    ∷ Begin (send 2 1)
    ∷ Queue (send 2 1)
    ∷ Begin (send 3 1)
    ∷ Queue (send 3 1)
    ∷ Wait (thread 4)
    ∷ Deliver (send 1 1) (thread 4) (thread 1) (thread 1) 0 []
    ∷ Wait (thread 4)
    ∷ Deliver (send 2 1) (thread 4) (thread 2) (thread 2) 0 []
    ∷ Local (thread 2)
    ∷ Wait (thread 4)
    ∷ Deliver (send 3 1) (thread 4) (thread 3) (thread 3) 0 []
    ∷ Local (thread 1)
    ∷ Local (thread 4)
    ∷ Local (thread 3) ∷ []) ≡ Some 8
not_its_turn = refl

one_tick_early : refused_place finite_receive (
    Wait (thread 1)
    ∷ Tick 0 23
    ∷ ReceiveTimeout (thread 1)
    ∷ Local (thread 1) ∷ []) ≡ Some 3
one_tick_early = refl

refused_at_once : refused_place crossing_calls (
    Wait (thread 2)
    ∷ Wait (thread 3)
    ∷ Begin (send 1 1)
    ∷ Queue (send 1 1)
    ∷ Deliver (send 1 1) (thread 3) (thread 1) (thread 1) 0x4000 []
    ∷ Begin (send 3 1)
    ∷ Queue (send 3 1)
    ∷ Deliver (send 3 1) (thread 2) (thread 3) (thread 3) 0x4000 []
    ∷ Begin (send 2 1)
    ∷ SendTimeout (send 2 1) ∷ []) ≡ Some 10
refused_at_once = refl
