-- The code of a phase, by what is read of it.
use Rattle.std.proofs.Common.{◌≡◌, ℕ, List, ◌∷◌, Some}
use Rattle.l4_model.specs.World.{Phase, Ready, Sending, Receiving, Ordering, Ended, Deleted, Receive, receive_now}
use Rattle.l4_states.specs.Inner.Codes.{phase_code, receive_code}

pub receiving_code : (p : Phase) (r : Receive) → receive_now p ≡ Some r → (rest : List ℕ) →
    2 ∷ receive_code r rest ≡ phase_code p rest
receiving_code Ready r is rest = cc
receiving_code Sending r is rest = cc
receiving_code (Receiving s began) r is rest =
    let same : r ≡ s = cc in
    λ i. 2 ∷ receive_code (same i) rest
receiving_code Ordering r is rest = cc
receiving_code Ended r is rest = cc
receiving_code Deleted r is rest = cc
