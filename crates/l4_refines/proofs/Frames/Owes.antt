-- In which phases a retarget may be owed beside a thread.
use Rattle.std.proofs.Common.{◌≡◌, Option, Some, None, ℕ, refl, subst}
use Rattle.l4_model.specs.World.{Owed, Phase, Ready, Deleted, Receive, Receiving}
use Rattle.l4_refines.proofs.Relation.Rows.{HasJustReceived, OwesIn}

-- None is owed.
pub none_owed : (p : Phase) (owed : Option Owed) → owed ≡ None → OwesIn p owed
none_owed p owed is = rw is tt

-- The thread is ready, or deleted.
pub ready_owes : (p : Phase) (owed : Option Owed) → p ≡ Ready → OwesIn p owed
ready_owes p None is = tt
ready_owes p (Some o) is = rw is tt

pub deleted_owes : (owed : Option Owed) → OwesIn Deleted owed
deleted_owes None = tt
deleted_owes (Some o) = tt

-- A thread that waits for a message owes none.
pub receiving_owes : (p : Phase) (owed : Option Owed) (receive : Receive) (since : ℕ) → p ≡ Receiving receive since → OwesIn p owed → owed ≡ None
receiving_owes p None receive since is h = refl
receiving_owes p (Some o) receive since is h = absurd (subst HasJustReceived is h)
