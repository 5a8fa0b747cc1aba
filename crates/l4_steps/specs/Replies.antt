-- What a session answers to a command.
use Rattle.std.specs.Prelude.{ℕ, ◌-◌, ◌==◌, nat_le, nat_lt, is_some, if◌then◌else◌, Bool, true, false, Option, Some, None, Result, Ok, List, [], ◌∷◌, ◌++◌, codes, decimal, length, map, slice_get, take}
use Rattle.std.specs.Str.Lossy.{utf8_lossy}
use Rattle.l4_model.specs.Machine.{Machine}
use Rattle.l4_model.specs.World.{World}
use Rattle.l4_model.specs.History.{reached, view, waiting}
use Rattle.l4_core_model.specs.Runs.{Run, at_rest, told}
use Rattle.l4_core_model.specs.Schedules.{Entry, replay_entries}
use Rattle.l4_chart.specs.Listings.{Listing}
use Rattle.l4_chart.specs.Whole.{whole_text}
use Rattle.l4_chart.specs.declared.whole.TextForm.{TextForm}
use Rattle.l4_replay.specs.Entries.{entry_from, most_entries}
use Rattle.l4_replay.specs.declared.fault.RunFault.{RunFault}
use Rattle.l4_reports.specs.ReportLines.{ending_at_rest, report_text}
use Rattle.l4_schedules.specs.Items.{schedule_of}
use Rattle.l4_schedules.specs.Written.{schedule_text}
use Rattle.l4_words.specs.Numbers.{number_of}
use Rattle.l4_steps.specs.Commands.{Command, Do, Back, Next, State, Chart, Record, Help, Quit, Unknown, command_of}
use Rattle.l4_steps.specs.Possible.{choices_text, event_text, next_behind, possible}
use Rattle.l4_steps.specs.declared.replies.Reply as code
use Rattle.l4_steps.specs.declared.replies.TheConstants.{HELP, NOT_KNOWN, NOT_POSSIBLE, TOO_MANY}

-- The entries behind a command, what is told, and whether the session ends.
pub record Reply : Type 0 where
  pub entries : List Entry
  pub text : List ℕ
  pub ends : Bool

abbrev pub reply_from : code.Reply → Reply
reply_from r = record {
  entries = map entry_from r.entries.items;
  text = r.text.items;
  ends = r.ends;
}

-- Nothing changes, and this is told.
abbrev pub tells : List Entry → (text : List ℕ) → Reply
tells es text = record { entries = es; text = text; ends = false }

-- The session goes on behind these entries. This is told, and then what is possible there.
abbrev pub moves : Machine → (front : List ℕ) → List Entry → Reply
moves m front es = tells es (front ++ choices_text m es)

-- An entry is done where it is possible, and there is room for it.

abbrev pub did_text : Machine → List Entry → Entry → List ℕ
did_text m es e = codes "did " ++ event_text m es e

abbrev pub does_possible : Machine → List Entry → Entry → (is : Bool) → Reply
does_possible m es e true = moves m (did_text m es e) (es ++ e ∷ [])
does_possible m es e false = tells es NOT_POSSIBLE.now

abbrev pub does : Machine → List Entry → Option Entry → Reply
does m es None = tells es NOT_KNOWN.now
does m es (Some e) =
    if nat_lt (length es) most_entries
    then does_possible m es e (is_some (next_behind m es e))
    else tells es TOO_MANY.now

-- The entry of a number, and that of an item: a list of one.

abbrev pub numbered : Machine → List Entry → (number : ℕ) → Option Entry
numbered m es number = if number == 0 then None else slice_get (possible m es) (number - 1)

abbrev pub only_one : Result (List Entry) RunFault → Option Entry
only_one (Ok (e ∷ [])) = Some e
only_one _ = None

abbrev pub item_named : Machine → (word : List ℕ) → Option Entry
item_named m word = only_one (schedule_of m word)

-- A number alone is one of those that are possible.

abbrev pub named_by : Machine → List Entry → (word : List ℕ) → (number : Option ℕ) → Option Entry
named_by m es word None = item_named m word
named_by m es word (Some number) = numbered m es number

abbrev pub named : Machine → List Entry → (word : List ℕ) → Option Entry
named m es word = named_by m es word (number_of 10 word)

-- So many entries are taken back.

abbrev pub few_text : (count : ℕ) → List ℕ
few_text count = codes "refused: entries so far: " ++ decimal count ++ codes "\n"

abbrev pub goes_back : Machine → List Entry → (count : ℕ) → Reply
goes_back m es count =
    if nat_le count (length es) then moves m [] (take (length es - count) es)
    else tells es (few_text (length es))

-- The report of a core run: the threads and the undecided sends of the world that it reaches, and
-- whether it is at rest.

abbrev pub report_in : Machine → Run → Option World → List ℕ
report_in m r None = []
report_in m r (Some w) =
    report_text (view m w) (waiting m w (told r.events)) (ending_at_rest (at_rest m r.system))

abbrev pub report_of : Machine → Run → List ℕ
report_of m r = report_in m r (reached m (told r.events))

abbrev pub ended : List Entry → Reply
ended es = record { entries = es; text = []; ends = true }

-- What a command comes to behind these entries. A chart is drawn by the lines of the machine's
-- text, in this form.
abbrev pub reply_to_command : Machine → Listing → TextForm → List Entry → Command → Reply
reply_to_command m listing form es (Do word) = does m es (named m es word)
reply_to_command m listing form es (Back count) = goes_back m es count
reply_to_command m listing form es Next = moves m [] es
reply_to_command m listing form es State = tells es (report_of m (replay_entries m es))
reply_to_command m listing form es Chart =
    tells es (whole_text m listing (told (replay_entries m es).events) form)
reply_to_command m listing form es Record = tells es (schedule_text es ++ codes "\n")
reply_to_command m listing form es Help = tells es HELP.now
reply_to_command m listing form es Quit = ended es
reply_to_command m listing form es Unknown = tells es NOT_KNOWN.now

-- What a line of bytes comes to. Bytes that are no UTF-8 spell no command.
abbrev pub reply_to : Machine → Listing → TextForm → List Entry → (line : List ℕ) → Reply
reply_to m listing form es line =
    reply_to_command m listing form es (command_of (utf8_lossy line))
