-- A choice of the program as one of the core run.
use Rattle.std.specs.Prelude.{◌≡◌, ℕ, Option, Some, None, List, slice_get, slice_index_or, unwrap_or}
use Rattle.l4_model.specs.World.{Owed}
use Rattle.l4_core_model.specs.Plain.{due_block}
use Rattle.l4_core_model.specs.Turns as turns
use Rattle.l4_core.specs.declared.known.duties.Duty.{Duty}
use Rattle.l4_core.specs.declared.known.duties.Duty.TheVariants.{Retarget, DropOwn, RefuseFirst, NotifyDeletion, CancelOwn, CancelReceive, DeliverFirst, CloseReceive, RefuseZero}
use Rattle.l4_core.specs.declared.processor.Choice.{Choice}
use Rattle.l4_core.specs.declared.processor.Choice.TheVariants.{ByDuty, ByDue, ByReady}
use Rattle.l4_core.specs.Processor.{Processor}
use Rattle.l4_core.specs.Inner.Covered.{IsFirstDuty, HasNoDuty}

-- Stands for a retarget if none is kept.
abbrev pub nothing_owed : Owed
nothing_owed =
    record {
      send = record { thread = record { number = 0; version = 0 }; k = 0 };
      originator = record { number = 0; version = 0 };
      old_partner = record { number = 0; version = 0 };
      new_partner = record { number = 0; version = 0 };
    }

abbrev pub kept_beside : List (Option Owed) → ℕ → Owed
kept_beside owed i = unwrap_or (slice_index_or owed i None) nothing_owed

-- A duty of the program as one of the core run. The retarget to be done is the one that is kept
-- beside the thread.
abbrev pub duty_of : (owed : List (Option Owed)) → (place : ℕ) → Duty → turns.Duty
duty_of owed i Retarget = turns.Retargets (kept_beside owed i)
duty_of owed i DropOwn = turns.DropsOwn
duty_of owed i (RefuseFirst sender) = turns.RefusesFirst sender
duty_of owed i (NotifyDeletion cpu) = turns.TellsGone cpu
duty_of owed i CancelOwn = turns.CancelsOwn
duty_of owed i CancelReceive = turns.CancelsReceive
duty_of owed i (DeliverFirst sender) = turns.DeliversFirst sender
duty_of owed i CloseReceive = turns.ClosesReceive
duty_of owed i (RefuseZero sender) = turns.RefusesZero sender

abbrev pub choice_of : (owed : List (Option Owed)) → Choice → turns.Choice
choice_of owed (ByDuty place duty) = turns.ByDuty place (duty_of owed place duty)
choice_of owed (ByDue place) = turns.ByDue place
choice_of owed (ByReady place) = turns.ByReady place

-- The place that was found is the first with a duty. If none was found, no thread has a duty.
abbrev pub IsFound : Option (ℕ × Duty) → Processor → Type 0
IsFound None p = HasNoDuty p.machine p.cpu p.local
IsFound (Some found) p = IsFirstDuty found.0 (duty_of p.local.owed found.0 found.1) p.machine
    p.cpu p.local

-- A choice is right: its duty is the first one, its deadline is due, or its thread is the first
-- ready one.
abbrev pub IsPossible : Choice → Processor → Type 0
IsPossible (ByDuty place duty) p = IsFirstDuty place (duty_of p.local.owed place duty) p.machine
    p.cpu p.local
IsPossible (ByDue place) p = due_block p.local.clock p.local.lists.armed ≡ Some place
IsPossible (ByReady place) p = slice_get p.local.lists.ready 0 ≡ Some place
