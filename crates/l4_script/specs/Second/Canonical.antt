-- A machine as one text with scripts of version 2: as that of version 1, without names.
use Rattle.std.specs.Prelude.{ℕ, ◌^◌, ◌≡◌, ◌≤◌, Bool, true, false, ◌&&◌, nat_le, nat_lt, Some, Ok, List, [], ◌∷◌, ◌++◌, length, map, flat_map, codes, decimal}
use Rattle.std.specs.List.{list_all}
use Rattle.l4_model.specs.Words.{Format, same_format, is_word_in, is_global_in, has_word_in, last_register, label_limit_in}
use Rattle.l4_model.specs.Machine.{FromWord, Assign, Instr, Run, Vs, Ipc, IdFrom, Fixed, Last, InRegister, Ask, Delete, OnLabel, OnWord, OnFrom, Declaration, Machine, most_processors, most_threads, most_instructions}
use Rattle.l4_model.specs.Formats.{is_of_format}
use Rattle.l4_core_model.specs.Runs.{IsMachine}
use Rattle.l4_words.specs.Lines.{line_of_words}
use Rattle.l4_script.specs.Canonical.{words_of_instruction, words_of_thread, words_of_format, can_be_written, is_register, has_time, are_apart}
use Rattle.l4_script.specs.Versions.{format_named, machine_of_text}

abbrev pub second_words_of_instruction : Format → Instr → List (List ℕ)
second_words_of_instruction f (Run (Assign a (FromWord format))) = codes "from" ∷ decimal a ∷ []
second_words_of_instruction f instr = words_of_instruction f instr

abbrev pub second_lines_of_thread : Format → Declaration → List (List (List ℕ))
second_lines_of_thread f d = words_of_thread d ∷ map (second_words_of_instruction f) d.script

abbrev pub second_lines_of : Format → Machine → List (List (List ℕ))
second_lines_of f m =
    (words_of_format f m.retargeting ++ codes "2" ∷ [])
    ∷ (codes "cpus" ∷ decimal m.cpus ∷ [])
    ∷ flat_map (second_lines_of_thread f) m.threads

abbrev pub second_canonical_text : Format → Machine → List ℕ
second_canonical_text f m = flat_map line_of_words (second_lines_of f m)

-- Which machines such a text can declare: those whose words and ids are of its format. `last` is
-- nobody whom a `delete` names.

abbrev pub is_source : (a : ℕ) → Bool
is_source a = nat_le a last_register

abbrev pub has_id_or_register : Format → IdFrom → Bool
has_id_or_register f (Fixed id) = has_word_in f id
has_id_or_register f Last = false
has_id_or_register f (InRegister format a) = same_format format f && is_source a

abbrev pub has_id_from : Format → IdFrom → Bool
has_id_from f Last = true
has_id_from f from = has_id_or_register f from

abbrev pub second_can_be_written : Format → (size : ℕ) → Instr → Bool
second_can_be_written f size (Run (Assign a (FromWord format))) =
    is_register a && same_format format f
second_can_be_written f size (Vs from) = has_id_from f from
second_can_be_written f size (Ipc to from send receive) =
    has_id_from f to && has_id_from f from && has_time send && has_time receive
second_can_be_written f size (Ask target Delete) = has_id_or_register f target
second_can_be_written f size (Ask target what) = has_id_from f target
second_can_be_written f size (OnLabel label place) =
    nat_lt label (label_limit_in f) && nat_le place size
second_can_be_written f size (OnWord a word place) =
    is_source a && is_word_in f word && nat_le place size
second_can_be_written f size (OnFrom id place) = has_word_in f id && nat_le place size
second_can_be_written f size instr = can_be_written f size instr

abbrev pub second_can_be_declared : Format → (cpus : ℕ) → Declaration → Bool
second_can_be_declared f cpus d =
    is_global_in f d.id && nat_lt d.cpu cpus && nat_lt d.space (2 ^ 32) &&
    nat_le (length d.script) most_instructions
    && list_all (second_can_be_written f (length d.script)) d.script

pub record HasSecondText (f : Format) (m : Machine) : Type 0 where
  pub some : 1 ≤ m.cpus
  pub limit : m.cpus ≤ most_processors
  pub few : length m.threads ≤ most_threads
  pub apart : are_apart m.threads ≡ true
  pub each : list_all (second_can_be_declared f m.cpus) m.threads ≡ true

-- It is read back, unless it is too long.
abbrev pub IsSecondReadBack : Type 0
IsSecondReadBack = (f : Format) (m : Machine) → HasSecondText f m →
    length (second_canonical_text f m) ≤ 0x100000 →
    machine_of_text (second_canonical_text f m) ≡ Ok m

-- Every machine that a text declares, whatever the version of its scripts, has such a text in the
-- format that the text names.
abbrev pub EachHasSecondText : Type 0
EachHasSecondText = (text : List ℕ) (m : Machine) → machine_of_text text ≡ Ok m →
    IsMachine m × ((f : Format) × (format_named text ≡ Some f) × HasSecondText f m)

-- The scripts of a machine that has such a text in a format write words of this format alone.
abbrev pub WritesItsWords : Type 0
WritesItsWords = (f : Format) (m : Machine) → HasSecondText f m → is_of_format f m ≡ true
