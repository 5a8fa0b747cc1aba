-- What a script says of a place in it, and of the registers that its instructions write.
use Rattle.std.specs.Prelude.{ℕ, zero, suc, ◌+◌, ◌-◌, ◌%◌, ◌==◌, Bool, true, false, not, ◌&&◌, ◌||◌}
use Rattle.std.specs.Prelude.{nat_le, nat_lt, Option, Some, None, List, [], ◌∷◌, drop}
use Rattle.std.specs.List.{list_any}
use Rattle.l4_model.specs.Words.{GlobalId, Id, NilThread, GlobalThread, same_id}
use Rattle.l4_model.specs.Machine.{IdFrom, Fixed, InRegister, Instr, Run, Assign, AssignTag, Copy}
use Rattle.l4_model.specs.Machine.{Tag, Vs, Jump, OnErr, OnLabel, OnWord, OnFrom, Ipc, Ask, End}
use Rattle.l4_model.specs.Machine.{instruction_at}

-- Whom an instruction may receive from. `last` and a register may have any id.

abbrev pub receives : Id → Bool
receives NilThread = false
receives _ = true

abbrev pub may_receive : IdFrom → Bool
may_receive (Fixed id) = receives id
may_receive from = true

abbrev pub may_hear : Instr → Bool
may_hear (Ipc to from send_period receive_period) = may_receive from
may_hear _ = false

-- An id is taken from this register.

abbrev pub is_taken_from : (register : ℕ) → IdFrom → Bool
is_taken_from register (InRegister format a) = a == register
is_taken_from register from = false

abbrev pub takes : (register : ℕ) → Instr → Bool
takes register (Vs from) = is_taken_from register from
takes register (Ask target what) = is_taken_from register target
takes register (Ipc to from send_period receive_period) =
    is_taken_from register to || is_taken_from register from
takes register _ = false

-- A tag sends a register: its number of words, bits 0 to 5, is not lower.
abbrev pub is_sent : (register word : ℕ) → Bool
is_sent register word = nat_le register (word % 64)

-- A register is sent by this tag, copied, tested or taken for an id.
abbrev pub carries : (register : ℕ) → Instr → Bool
carries register (Tag word) = is_sent register word
carries register (Copy to from) = from == register
carries register (OnWord a word place) = a == register
carries register i = takes register i

-- The same, or it may be sent: an instruction that receives may get a tag that sends it.
abbrev pub uses : (register : ℕ) → Instr → Bool
uses register (Tag word) = is_sent register word
uses register (Copy to from) = from == register
uses register (OnWord a word place) = a == register
uses register (Vs from) = is_taken_from register from
uses register (Ask target what) = is_taken_from register target
uses register (Ipc to from send_period receive_period) =
    may_receive from || is_taken_from register to
uses register _ = false

-- A jump, an `onerr` or a branch goes to this place.
abbrev pub leads_to : (place : ℕ) → Instr → Bool
leads_to place (Jump target) = target == place
leads_to place (OnErr target) = target == place
leads_to place (OnLabel label target) = target == place
leads_to place (OnWord a word target) = target == place
leads_to place (OnFrom id target) = target == place
leads_to place _ = false

abbrev pub is_led_to : (script : List Instr) → (place : ℕ) → Bool
is_led_to script place = list_any (leads_to place) script

-- The script may go on with the next instruction.
abbrev pub falls_through : Instr → Bool
falls_through (Jump place) = false
falls_through End = false
falls_through _ = true

-- A place that nothing leads to: the instruction before it does not go on there, and no other does.
abbrev pub is_unreached : (script : List Instr) → (place : ℕ) → Bool
is_unreached script place =
    nat_lt 0 place && not (falls_through (instruction_at script (place - 1)))
    && not (is_led_to script place)

-- A place where `from` is nilthread, as nothing has been received: the only way there is from the
-- start of the script, or from an ipc that receives nothing. That is one without a receive phase,
-- or a receive from the thread itself, which is a sleep.

abbrev pub hears_nobody : (own : GlobalId) → IdFrom → Bool
hears_nobody own (Fixed NilThread) = true
hears_nobody own (Fixed (GlobalThread t)) = same_id own t
hears_nobody own from = false

-- So is it behind this instruction, where it may have been so before it.
abbrev pub is_mute : (own : GlobalId) → Instr → (before : Bool) → Bool
is_mute own (Ipc to from send_period receive_period) before = hears_nobody own from
is_mute own i before = falls_through i && before

abbrev pub is_unheard : (own : GlobalId) → (script : List Instr) → (place : ℕ) → Bool
is_unheard own script zero = not (is_led_to script zero)
is_unheard own script (suc before) =
    not (is_led_to script (suc before))
    && is_mute own (instruction_at script before) (is_unheard own script before)

-- The tag that comes next, behind nothing but registers that are written.
abbrev pub next_tag : (script : List Instr) → Option ℕ
next_tag [] = None
next_tag (Run (AssignTag word) ∷ script) = Some word
next_tag (Run (Assign a value) ∷ script) = next_tag script
next_tag (i ∷ script) = None

abbrev pub is_shorter : (register : ℕ) → (tag : Option ℕ) → Bool
is_shorter register None = false
is_shorter register (Some word) = nat_lt (word % 64) register

-- The tag that comes next behind this place leaves the register out.
abbrev pub is_cut : (register : ℕ) → (script : List Instr) → (place : ℕ) → Bool
is_cut register script place = is_shorter register (next_tag (drop (place + 1) script))

-- A register that is written at this place and left out by the next tag; and nothing in the script
-- but what is received may have it sent, or uses it.
abbrev pub is_left_out : (register : ℕ) → (script : List Instr) → (place : ℕ) → Bool
is_left_out register script place =
    list_any (uses register) script && not (list_any (carries register) script)
    && is_cut register script place

-- A register below 32 that an id is taken from in a script that receives: a message of so many
-- words overwrites it.
abbrev pub is_kept_low : (register : ℕ) → (script : List Instr) → Bool
is_kept_low register script =
    nat_lt register 32 && list_any (takes register) script && list_any may_hear script
