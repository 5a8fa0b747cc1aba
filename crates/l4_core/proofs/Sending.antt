-- What is known of a send.
use Rattle.std.proofs.Common.{◌≡◌, ℕ, ◌<◌, true, Option, Some, None, is_some, refl, ap, sym, ◌∙◌}
use Rattle.std.specs.Option.{option_map}
use Rattle.l4_model.specs.Words.{GlobalId}
use Rattle.l4_model.specs.World.{Message, Send}
use Rattle.l4_core.specs.Inner.Settled.{IsSent}

pub counted : (id : GlobalId) (o : Option Send) (begun : ℕ) → IsSent id o begun → is_some o ≡ true → 0 < begun
counted id None begun h e = cc
counted id (Some send) begun h e = h.1

pub from_own : (id : GlobalId) (o : Option Send) (begun : ℕ) (message : Message) → IsSent id o begun → option_map (λ (send : Send). send.message) o ≡ Some message → message.actual ≡ id
from_own id None begun message h e = cc
from_own id (Some send) begun message h e = let same : send.message ≡ message = cc in ap (λ (n : Message). n.actual) (sym same) ∙ h.0

pub has_send : (o : Option Send) → is_some o ≡ true → (send : Send) × (o ≡ Some send)
has_send None e = cc
has_send (Some send) e = (send, refl)
