-- Which parts of each thread a condition reads, as the code has them.
use Rattle.std.specs.Prelude.{ℕ, Bool, true, false, Option, None, Some, List, [], ◌∷◌, map}
use Rattle.std.specs.List.{list_any}
use Rattle.l4_model.specs.Words.{GlobalId}
use Rattle.l4_model.specs.Machine.{Machine, Declaration}
use Rattle.l4_model.specs.World.{World}
use Rattle.l4_model.specs.Conditions.{Found, found, instruction}
use Rattle.l4_model.specs.Steps.{Step, Local, Begin, Wait, Order}
use Rattle.l4_invariants.specs.Inner.Reads.{InState, InCode, InSenders, InRegisters, InSend, Reads, written}
use Rattle.l4_invariants.specs.Inner.Reads as reads
use Rattle.l4_condition_lines.specs.Inner.Reading.{reads_of}
use Rattle.l4_always.specs.declared.reading.Part.{Part}
use Rattle.l4_always.specs.declared.reading.Part.TheVariants.{State, Code, Senders, Registers, Send}
use Rattle.l4_always.specs.declared.reading.Parts.{Parts}

abbrev pub part_of : Part → reads.Part
part_of State = InState
part_of Code = InCode
part_of Senders = InSenders
part_of Registers = InRegisters
part_of Send = InSend

abbrev pub parts_of : (is_read : reads.Part → Bool) → Parts
parts_of is_read = record {
  state = is_read InState;
  code = is_read InCode;
  senders = is_read InSenders;
  registers = is_read InRegisters;
  send = is_read InSend;
}

-- One of them is this part.
abbrev pub has_part : Parts → reads.Part → Bool
has_part parts InState = parts.state
has_part parts InCode = parts.code
has_part parts InSenders = parts.senders
has_part parts InRegisters = parts.registers
has_part parts InSend = parts.send

-- Of each thread of a machine, in order of declaration, those that these lines read.
abbrev pub parts_read : Machine → (asked : List (List ℕ)) → List Parts
parts_read m asked = map (λ (d : Declaration). parts_of (reads_of asked d.id)) m.threads

-- A step may stand alone that is of this thread.
abbrev pub own_thread : Step → Option GlobalId
own_thread (Local id) = Some id
own_thread (Begin s) = Some s.thread
own_thread (Wait id) = Some id
own_thread (Order caller target what) = Some caller
own_thread step = None

-- It writes one of these parts of its thread.

abbrev pub run_writes : Parts → Option Found → Bool
run_writes parts None = false
run_writes parts (Some t) = list_any (has_part parts) (written (instruction t))

abbrev pub writes_part : Machine → World → Parts → Step → Bool
writes_part m w parts (Local id) = run_writes parts (found m w id)
writes_part m w parts (Begin s) = list_any (has_part parts) (InState ∷ InSend ∷ [])
writes_part m w parts (Wait id) = list_any (has_part parts) (InState ∷ [])
writes_part m w parts (Order caller target what) = list_any (has_part parts) (InState ∷ [])
writes_part m w parts step = true
