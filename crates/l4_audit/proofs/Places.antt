-- Threads and sends that were found stand within the threads of their world.
use Rattle.std.proofs.Common.{◌≡◌, ◌<◌, length, Some}
use Rattle.std.proofs.lemmas.Option.{slice_get_within}
use Rattle.l4_model.specs.Words.{GlobalId, Id}
use Rattle.l4_model.specs.Machine.{Machine}
use Rattle.l4_model.specs.World.{World, Name}
use Rattle.l4_model.specs.Conditions.{Found, Pending, found, found_by, undecided}
use Rattle.l4_model.proofs.Places.{known, known_send, receiver_there}

pub found_within : (m : Machine) (w : World) (id : GlobalId) (t : Found) → found m w id ≡ Some t → t.at < length w.threads
found_within m w id t is = slice_get_within w.threads t.at t.now (known m w id t is).now

pub sender_within : (m : Machine) (w : World) (s : Name) (p : Pending) → undecided m w s ≡ Some p → p.sender.at < length w.threads
sender_within m w s p is = slice_get_within w.threads p.sender.at p.sender.now (known_send m w s p is).sender.now

pub receiver_within : (m : Machine) (w : World) (to : Id) (r : Found) → found_by m w to ≡ Some r → r.at < length w.threads
receiver_within m w to r is = slice_get_within w.threads r.at r.now (receiver_there m w to r is)
