-- What a delivery tells, and what it does.
use Rattle.std.specs.Prelude.{ℕ, ◌≡◌, Some, List}
use Rattle.l4_model.specs.Machine.{Machine, declaration_of}
use Rattle.l4_model.specs.World.{World, change, unqueued}
use Rattle.l4_model.specs.Rules.{received_tag}
use Rattle.l4_model.specs.Effects.{receives}
use Rattle.l4_model.specs.Conditions.{Found, Pending}
use Rattle.l4_core_model.specs.Letters.{Delivered}
use Rattle.l4_core_model.specs.Local.{after_decision}
use Rattle.l4_audit.specs.Reasons.{Condition, of_message}
use Rattle.l4_types.specs.declared.step_ref.DeliveryRef.{DeliveryRef}

-- A thread that was found by its id has what is declared of this id.
abbrev pub IsFound : Machine → Found → Type 0
IsFound m t = declaration_of m t.declared.id ≡ Some t.declared

-- The conditions that a delivery tells this send to this receiver: its senders, its tag and its
-- words.
abbrev pub of_telling : Machine → DeliveryRef → Pending → Found → List Condition
of_telling m d p r =
    of_message m p r d.receiver d.message.shown d.message.actual (received_tag d.cross d.message)
    d.message.words

-- The message goes over from its sender to its receiver.
abbrev pub taken_over : (sender receiver : ℕ) → DeliveryRef → (now : ℕ) → World → World
taken_over s r d now w = change (change (unqueued w s) r
    (receives d.message (received_tag d.cross d.message))) s (after_decision Delivered now)
