-- The instructions of a script, and the machine that a text declares.
use Rattle.std.specs.Prelude.{ℕ, Bool, ◌==◌, true, false, Option, Some, None, is_some, List, find, position, slice_get, unwrap_or}
use Rattle.l4_model.specs.Words.{Format, GlobalId, Id, same_id, Period}

-- Where an instruction has an id from: it stands there, or is what the register `from` has at that
-- moment, or the id whose word a message register has then, by a format (own; manual: ThreadId).
pub data IdFrom : Type 0 where
  Fixed : Id → IdFrom
  Last : IdFrom
  InRegister : (format : Format) (a : ℕ) → IdFrom

-- What one thread may ask of another: a cancellation, by the bits S and R of the control word
-- (manual: ExchangeRegisters), or a deletion (manual: ThreadControl).
pub data OrderKind : Type 0 where
  CancelSend : OrderKind
  CancelReceive : OrderKind
  CancelBoth : OrderKind
  Delete : OrderKind

-- How a number is made of two, as their sum.
pub data Operation : Type 0 where
  Sum : Operation

-- What a register becomes: a word, what another one has, what an operation makes of it and a word,
-- as a format counts it, or the word of `from` in a format.
pub data Value : Type 0 where
  Word : (word : ℕ) → Value
  Register : (b : ℕ) → Value
  Computed : Operation → (format : Format) (word : ℕ) → Value
  FromWord : (format : Format) → Value

-- An instruction that concerns its thread alone. A register becomes a value, MR0 a tag, and
-- VirtualSender an id; or the script goes on elsewhere, at once, where ErrorCode is not 0, or where
-- the label of MR0, a register or `from` is this one.
pub data Own : Type 0 where
  Assign : (a : ℕ) → Value → Own
  AssignTag : (word : ℕ) → Own
  AssignVs : IdFrom → Own
  GoTo : (place : ℕ) → Own
  GoToOnErr : (place : ℕ) → Own
  GoToOnLabel : (label place : ℕ) → Own
  GoToOnWord : (a word place : ℕ) → Own
  GoToOnFrom : Id → (place : ℕ) → Own

-- One instruction of a script. `Ask` is an ExchangeRegisters or a deletion.
pub data Instr : Type 0 where
  Run : Own → Instr
  Ipc : (to from : IdFrom) (send_period receive_period : Period) → Instr
  Ask : (target : IdFrom) (what : OrderKind) → Instr
  End : Instr

-- Instructions that concern their thread alone, by the words of a machine text.

pattern abbrev pub Set : (a word : ℕ) → Instr
Set a word = Run (Assign a (Word word))

pattern abbrev pub Copy : (a b : ℕ) → Instr
Copy a b = Run (Assign a (Register b))

pattern abbrev pub Compute : Operation → (format : Format) (a word : ℕ) → Instr
Compute operation format a word = Run (Assign a (Computed operation format word))

pattern abbrev pub Add : (format : Format) (a word : ℕ) → Instr
Add format a word = Compute Sum format a word

pattern abbrev pub From : (format : Format) (a : ℕ) → Instr
From format a = Run (Assign a (FromWord format))

pattern abbrev pub Tag : (word : ℕ) → Instr
Tag word = Run (AssignTag word)

pattern abbrev pub Vs : IdFrom → Instr
Vs from = Run (AssignVs from)

pattern abbrev pub Jump : (place : ℕ) → Instr
Jump place = Run (GoTo place)

pattern abbrev pub OnErr : (place : ℕ) → Instr
OnErr place = Run (GoToOnErr place)

pattern abbrev pub OnLabel : (label place : ℕ) → Instr
OnLabel label place = Run (GoToOnLabel label place)

pattern abbrev pub OnWord : (a word place : ℕ) → Instr
OnWord a word place = Run (GoToOnWord a word place)

pattern abbrev pub OnFrom : Id → (place : ℕ) → Instr
OnFrom id place = Run (GoToOnFrom id place)

-- A declared thread: its id, its processor, its address space by a number, and its script.
pub record Declaration : Type 0 where
  pub id : GlobalId
  pub cpu : ℕ
  pub space : ℕ
  pub script : List Instr

-- A machine: whether its profile is 2, with retargets (own); the number of its processors; and its
-- threads in order of declaration.
pub record Machine : Type 0 where
  pub retargeting : Bool
  pub cpus : ℕ
  pub threads : List Declaration

-- A machine of profile 1, and one of profile 2.

abbrev pub machine_of : (cpus : ℕ) → List Declaration → Machine
machine_of cpus threads = record { retargeting = false; cpus = cpus; threads = threads }

abbrev pub retargeting_machine_of : (cpus : ℕ) → List Declaration → Machine
retargeting_machine_of cpus threads = record { retargeting = true; cpus = cpus; threads = threads }

-- How many processors and threads a machine has at most, and how many instructions a script (own).

abbrev pub most_processors : ℕ
most_processors = 16

abbrev pub most_threads : ℕ
most_threads = 1024

abbrev pub most_instructions : ℕ
most_instructions = 1024

-- The place of a thread in the order of declaration.
abbrev pub place_of : Machine → GlobalId → Option ℕ
place_of m id = position (λ d. same_id d.id id) m.threads

-- It is this place.
abbrev pub is_place : Option ℕ → ℕ → Bool
is_place None i = false
is_place (Some j) i = j == i

abbrev pub declaration_of : Machine → GlobalId → Option Declaration
declaration_of m id = find (λ d. same_id d.id id) m.threads

abbrev pub is_declared : Machine → GlobalId → Bool
is_declared m id = is_some (place_of m id)

-- Two threads are declared, and agree in a number.
abbrev pub agree : (Declaration → ℕ) → Option Declaration → Option Declaration → Bool
agree f (Some a) (Some b) = f a == f b
agree f (Some a) None = false
agree f None b = false

abbrev pub same_space : Machine → GlobalId → GlobalId → Bool
same_space m a b = agree (λ d. d.space) (declaration_of m a) (declaration_of m b)

abbrev pub same_cpu : Machine → GlobalId → GlobalId → Bool
same_cpu m a b = agree (λ d. d.cpu) (declaration_of m a) (declaration_of m b)

-- A place after the last instruction is an `end`.
abbrev pub instruction_at : List Instr → ℕ → Instr
instruction_at script place = unwrap_or (slice_get script place) End
