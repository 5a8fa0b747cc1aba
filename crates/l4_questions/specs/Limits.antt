-- What a question may ask for, and how far it lets a search go.
use Rattle.std.specs.Prelude.{Bool, ◌==◌, ◌||◌, ◌+◌, ◌*◌, ◌/◌, min, nat_lt, if◌then◌else◌, ℕ, Option, None, Some, List, length}
use Rattle.std.specs.Option.{option_copied, option_map}
use Rattle.l4_model.specs.Machine.{Machine}
use Rattle.l4_expect.specs.Judging.{wrong_of_ending}
use Rattle.l4_questions.specs.declared.question.Question.{Question}
use Rattle.l4_questions.specs.declared.question.QuestionFault.{QuestionFault}
use Rattle.l4_questions.specs.declared.question.QuestionFault.TheVariants.{Line, Depth, States, Memory}

-- The greatest depth of a search, the greatest number of its states or worlds, and the most memory
-- for them in MiB.
abbrev pub most_deep : ℕ
most_deep = 1000000

abbrev pub most_states : ℕ
most_states = 100000000

abbrev pub most_memory : ℕ
most_memory = 1048576

abbrev pub is_out_of_range : (most n : ℕ) → Bool
is_out_of_range most n = n == 0 || nat_lt most n

-- The depth is judged first, and the memory last.
abbrev pub limits_fault : Question → Option QuestionFault
limits_fault q =
    if is_out_of_range most_deep q.depth then Some Depth
    else if is_out_of_range most_states q.states then Some States
    else if is_out_of_range most_memory q.memory then Some Memory else None

-- A line that endings can't be asked for. The lines that are asked for are counted from 1: first the
-- one that a report must have, and then the one that it must not have.

abbrev pub line_fault_at : (number : ℕ) → Option (List ℕ) → Option QuestionFault
line_fault_at number None = None
line_fault_at number (Some line) = option_map (Line number) (wrong_of_ending line)

abbrev pub first_fault : Option QuestionFault → Option QuestionFault → Option QuestionFault
first_fault None other = other
first_fault (Some fault) other = Some fault

abbrev pub lines_fault : (with_line never : Option (List ℕ)) → Option QuestionFault
lines_fault None never = line_fault_at 1 never
lines_fault (Some line) never = first_fault (line_fault_at 1 (Some line)) (line_fault_at 2 never)

-- Why a question has no answer, whatever the machine is: its lines are judged before its limits.
abbrev pub question_fault : Question → Option QuestionFault
question_fault q =
    first_fault (lines_fault (option_copied q.with_line) (option_copied q.never)) (limits_fault q)

-- So many bytes are counted for a state or a world of a machine.
abbrev pub state_bytes : Machine → ℕ
state_bytes m = 128 + 8 * length m.threads

-- For so many of them the memory is enough.
abbrev pub states_in : (memory : ℕ) → Machine → ℕ
states_in memory m = memory * 1048576 / state_bytes m

-- A search looks at no more than are asked for, and at no more than the memory is enough for.
abbrev pub most_looked : Machine → Question → ℕ
most_looked m q = min q.states (states_in q.memory m)
