-- What each thread is in behind the last row of a chart, and what it waits for.
use Rattle.std.specs.Prelude.{ℕ, ◌-◌, Bool, true, false, Option, Some, None, List, [], ◌++◌, codes, filter_map, option_and_then}
use Rattle.std.specs.Option.{option_map}
use Rattle.l4_model.specs.Conditions.{◌>>=◌, Found, found}
use Rattle.l4_model.specs.Machine.{Machine}
use Rattle.l4_model.specs.Words.{GlobalId, Id}
use Rattle.l4_model.specs.World.{PendingOrder, World, receive_now}
use Rattle.l4_audit.specs.Reasons.{state_in}
use Rattle.l4_trace.specs.Lines.{order_kind_word}
use Rattle.l4_types.specs.Ids.{global_of}
use Rattle.l4_types.specs.declared.reports.State.{State}
use Rattle.l4_types.specs.declared.reports.State.TheVariants.{Ready, Sending, Receiving, Ordering, Ended, Deleted}
use Rattle.l4_words.specs.Threads.{id_word, thread_word}
use Rattle.l4_chart.specs.Listings.{Instruction, Listing, instruction_at}
use Rattle.l4_chart.specs.Told.{at_words}
use Rattle.l4_chart.specs.declared.columns.Column.{Column}
use Rattle.l4_chart.specs.declared.marks.Kind.{Kind}
use Rattle.l4_chart.specs.declared.marks.Kind.TheVariants as kind
use Rattle.l4_chart.specs.declared.marks.Mark.{Mark}
use Rattle.l4_chart.specs.declared.marks.Mark.TheVariants.{Point, Arrow}
use Rattle.l4_chart.specs.declared.standings.Standing.{Standing}

-- The place in its script of the instruction that a thread runs next, or is in: an Ipc has it go on
-- as soon as it begins, an order once that is done.
abbrev pub instruction_place : State → (place : ℕ) → Option ℕ
instruction_place Ready place = Some place
instruction_place Sending place = Some (place - 1)
instruction_place Receiving place = Some (place - 1)
instruction_place Ordering place = Some place
instruction_place Ended place = None
instruction_place Deleted place = None

abbrev pub instruction_in : Listing → Found → Option Instruction
instruction_in listing t =
    instruction_place (state_in t.now.phase) t.now.context.place >>= instruction_at listing t.at

abbrev pub standing_of : Listing → Found → Standing
standing_of listing t = record {
  id = t.declared.id;
  state = state_in t.now.phase;
  to = option_map (λ send. send.to) t.now.send;
  from = option_map (λ receive. receive.from) (receive_now t.now.phase);
  order = t.now.order;
  at = instruction_in listing t;
}

-- The threads of these columns in a world.

abbrev pub standing_in : Machine → Listing → World → Column → Option Standing
standing_in m listing w c = option_map (standing_of listing) (found m w c.id)

abbrev pub standings_in : Machine → Listing → World → List Column → List Standing
standings_in m listing w columns = filter_map (standing_in m listing w) columns

-- Its words. An undecided send and an undone order of a deleted thread go on.

abbrev pub state_word : State → List ℕ
state_word Ready = codes " ready"
state_word Sending = codes " sending"
state_word Receiving = codes " receiving"
state_word Ordering = codes " ordering"
state_word Ended = codes " ended"
state_word Deleted = codes " deleted"

abbrev pub is_deleted : State → Bool
is_deleted Deleted = true
is_deleted _ = false

abbrev pub is_ready : State → Bool
is_ready Ready = true
is_ready _ = false

abbrev pub sending_word : (deleted : Bool) → List ℕ
sending_word true = codes ", sending to"
sending_word false = codes " to"

abbrev pub sending_words : (deleted : Bool) → Option Id → List ℕ
sending_words deleted None = []
sending_words deleted (Some to) = sending_word deleted ++ codes " " ++ id_word to

abbrev pub from_words : Option Id → List ℕ
from_words None = []
from_words (Some from) = codes " from " ++ id_word from

abbrev pub target_words : PendingOrder → List ℕ
target_words order =
    codes " " ++ thread_word order.target ++ codes " " ++ order_kind_word order.what

abbrev pub ordering_words : (deleted : Bool) → Option PendingOrder → List ℕ
ordering_words deleted None = []
ordering_words true (Some order) = codes ", ordering" ++ target_words order
ordering_words false (Some order) = target_words order

abbrev pub standing_words : Standing → List ℕ
standing_words s =
    thread_word s.id ++ state_word s.state ++ sending_words (is_deleted s.state) s.to
    ++ from_words s.from ++ ordering_words (is_deleted s.state) s.order
    ++ at_words (is_ready s.state) s.at

-- Its mark: an undecided send is an arrow, which does not arrive.

abbrev pub kind_of_state : State → Kind
kind_of_state Ready = kind.Ready
kind_of_state Sending = kind.Begin
kind_of_state Receiving = kind.Wait
kind_of_state Ordering = kind.Order
kind_of_state Ended = kind.Ended
kind_of_state Deleted = kind.Deleted

abbrev pub open_mark : GlobalId → State → (to : Option GlobalId) → Mark
open_mark id state (Some to) = Arrow id to
open_mark id state None = Point id (kind_of_state state)

abbrev pub standing_mark : Standing → Mark
standing_mark s = open_mark s.id s.state (option_and_then global_of s.to)
