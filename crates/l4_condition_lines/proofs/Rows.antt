-- Worked rows: what lines read, and which worlds meet them.
use Rattle.std.proofs.Common.{◌≡◌, ℕ, Bool, true, false, Option, Some, List, [], ◌∷◌, map, refl}
use Rattle.std.specs.Fmt.{digits}
use Rattle.std.specs.Prelude.{codes}
use Rattle.std.specs.Option.{option_map}
use Rattle.l4_model.specs.Machine.{Machine, Set, machine_of}
use Rattle.l4_model.specs.World.{opening}
use Rattle.l4_model.specs.Steps.{Step, Local, Begin}
use Rattle.l4_model.specs.History.{reached}
use Rattle.l4_model.proofs.Rows.Writing.{thread, send, sends, declared}
use Rattle.l4_words.specs.Threads.{thread_of}
use Rattle.l4_invariants.specs.Inner.Reads.{InState, InCode, InSenders, InRegisters, InSend}
use Rattle.l4_condition_lines.specs.Conditions.{may_be_judged, meets}
use Rattle.l4_condition_lines.specs.Inner.Reading.{reads_of}

abbrev read_by : (n : ℕ) → (line : List ℕ) → List Bool
read_by n line = map (reads_of (line ∷ []) (thread n)) (InState ∷ InCode ∷ InSenders ∷ InRegisters ∷ InSend ∷ [])

its_state : read_by 1 (codes "thread 1.1 ready ..") ≡ true ∷ false ∷ false ∷ false ∷ false ∷ []
unfolding digits
its_state = refl

not_of_another : read_by 2 (codes "thread 1.1 ready 0 nil nil 0 1") ≡ false ∷ false ∷ false ∷ false ∷ false ∷ []
unfolding digits
not_of_another = refl

of_any : read_by 2 (codes "thread * ready ..") ≡ true ∷ false ∷ false ∷ false ∷ false ∷ []
unfolding digits
of_any = refl

its_code : read_by 1 (codes "thread 1.1 * 3 ..") ≡ false ∷ true ∷ false ∷ false ∷ false ∷ []
unfolding digits
its_code = refl

from_alone : read_by 1 (codes "thread 1.1 * * 2.1 ..") ≡ false ∷ false ∷ true ∷ false ∷ false ∷ []
unfolding digits
from_alone = refl

actual_alone : read_by 1 (codes "thread 1.1 * * * 2.1 ..") ≡ false ∷ false ∷ true ∷ false ∷ false ∷ []
unfolding digits
actual_alone = refl

its_registers : read_by 1 (codes "thread 1.1 * * * * * 1 ..") ≡ false ∷ false ∷ false ∷ true ∷ false ∷ []
unfolding digits
its_registers = refl

-- How many registers are shown is read too.
no_more_registers : read_by 1 (codes "thread 1.1 * * * * *") ≡ false ∷ false ∷ false ∷ true ∷ false ∷ []
unfolding digits
no_more_registers = refl

all_of_it : read_by 1 (codes "thread 1.1 ready 0 nil nil 0 1") ≡ true ∷ true ∷ true ∷ true ∷ false ∷ []
unfolding digits
all_of_it = refl

its_send : read_by 1 (codes "waiting 1.1#* 2.1") ≡ false ∷ false ∷ false ∷ false ∷ true ∷ []
unfolding digits thread_of
its_send = refl

no_send_of_another : read_by 2 (codes "waiting 1.1#* 2.1") ≡ false ∷ false ∷ false ∷ false ∷ false ∷ []
unfolding digits thread_of
no_send_of_another = refl

any_send : read_by 2 (codes "waiting * 2.1") ≡ false ∷ false ∷ false ∷ false ∷ true ∷ []
unfolding digits
any_send = refl

thread_or_send : read_by 1 (codes "* * sending ..") ≡ true ∷ false ∷ false ∷ false ∷ true ∷ []
unfolding digits
thread_or_send = refl

any_line : read_by 1 (codes "..") ≡ false ∷ false ∷ false ∷ false ∷ true ∷ []
unfolding digits
any_line = refl

an_ending : read_by 1 (codes "ending quiet") ≡ false ∷ false ∷ false ∷ false ∷ false ∷ []
unfolding digits
an_ending = refl

-- Two threads, each of which holds something for one step

abbrev both_hold : Machine
both_hold = machine_of 2 (declared 1 0 1 (Set 1 1 ∷ Set 1 0 ∷ []) ∷ declared 2 1 1 (Set 1 1 ∷ Set 1 0 ∷ []) ∷ [])

abbrev at_once : List (List ℕ)
at_once = codes "thread 1.1 ready 0 nil nil 0 1" ∷ codes "thread 2.1 ready 0 nil nil 0 1" ∷ []

abbrev after : List Step → Option Bool
after h = option_map (meets both_hold at_once) (reached both_hold h)

at_the_opening : after [] ≡ Some false
unfolding digits
at_the_opening = refl

one_holds : after (Local (thread 1) ∷ []) ≡ Some false
unfolding digits
one_holds = refl

both_do : after (Local (thread 1) ∷ Local (thread 2) ∷ []) ≡ Some true
unfolding digits
both_do = refl

no_more : after (Local (thread 1) ∷ Local (thread 2) ∷ Local (thread 1) ∷ []) ≡ Some false
unfolding digits
no_more = refl

may_be : may_be_judged at_once ≡ true
unfolding digits
may_be = refl

-- A send is told with its destination.

abbrev one_sends : Machine
one_sends = machine_of 1 (declared 1 0 1 (sends 2 ∷ []) ∷ declared 2 0 1 [] ∷ [])

a_send : option_map (meets one_sends (codes "waiting * 2.1" ∷ [])) (reached one_sends (Begin (send 1 1) ∷ []))
    ≡ Some true
unfolding digits
a_send = refl

no_send_yet : meets one_sends (codes "waiting * 2.1" ∷ []) (opening one_sends) ≡ false
unfolding digits
no_send_yet = refl

not_to_another : option_map (meets one_sends (codes "waiting * 1.1" ∷ [])) (reached one_sends (Begin (send 1 1) ∷ []))
    ≡ Some false
unfolding digits
not_to_another = refl
