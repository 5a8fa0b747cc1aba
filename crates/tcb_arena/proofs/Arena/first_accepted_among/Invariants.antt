use Rattle.std.specs.Prelude.{slice_get}
use Rattle.std.proofs.Common.{◌≡◌, [], get_or}
use Rattle.tcb_arena.specs.Inner.Rings.{AreSound}
use Rattle.tcb_arena.proofs.Finding.{found_from}
use Rattle.tcb_arena.proofs.Arena.first_accepted_among.Given as goal

abbrev pub invariant-loop-place : goal.invariant-loop-place
invariant-loop-place l =
    record {
      next_is : l.next ≡ slice_get (get_or l.self-inside.waiting.lists l.receiver []) l._place;
      not_before : found_from l.spec l.self-inside.senders.items (get_or l.self-inside.waiting.lists l.receiver []) 0 ≡ found_from l.spec l.self-inside.senders.items (get_or l.self-inside.waiting.lists l.receiver []) l._place;
      sound : AreSound l.self-inside.waiting;
    }
