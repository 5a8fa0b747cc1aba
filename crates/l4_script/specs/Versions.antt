-- Texts of both versions of scripts.
use Rattle.std.specs.Prelude.{ℕ, nat_lt, Option, if◌then◌else◌, Result, Err, List, length}
use Rattle.l4_model.specs.Words.{Format}
use Rattle.l4_model.specs.Machine.{Machine}
use Rattle.l4_words.specs.Lines.{parts_of}
use Rattle.l4_script.specs.declared.text.fault.TextFault.{TextFault}
use Rattle.l4_script.specs.declared.text.fault.TextFaultKind.TheVariants.{TooLong}
use Rattle.l4_script.specs.Faults.{fault_at}
use Rattle.l4_script.specs.Texts.{first_machine_of_text, format_of_text}
use Rattle.l4_script.specs.Second.Texts.{Start, begins_second, read, second_format_of}

-- The machine that a text declares. A text whose first line does not say version 2 is read as ever.
abbrev pub machine_of_text : List ℕ → Result Machine TextFault
machine_of_text text =
    if nat_lt 0x100000 (length text) then Err (fault_at 0 TooLong)
    else (if begins_second (parts_of text) then read (parts_of text) Start 1
    else first_machine_of_text text)

-- The format that a text names.
abbrev pub format_named : List ℕ → Option Format
format_named text = if begins_second (parts_of text) then second_format_of (parts_of text)
    else format_of_text text
