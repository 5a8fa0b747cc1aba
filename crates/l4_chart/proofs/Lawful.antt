-- The rows of a whole history are its steps, and arrows are deliveries.
use Rattle.std.proofs.Common.{◌≡◌, ℕ, ◌+◌, ◌≤◌, Bool, true, false, None, List, [], ◌∷◌, length, map, refl, ap, ◌∙◌, arith}
use Rattle.std.specs.Prelude.{filter, nat_le}
use Rattle.std.specs.List.{enumerate_from}
use Rattle.std.proofs.lemmas.Bool.Decides.{nat_tests}
use Rattle.l4_model.specs.Words.{GlobalId}
use Rattle.l4_model.specs.Steps.{Step, Local, Begin, Queue, Deliver, Wait, SendTimeout, ReceiveTimeout, SendNobody, ReceiveNobody, SendCancel, ReceiveCancel, Drop, Order, Obey, Tick, Retarget}
use Rattle.l4_model.specs.Machine.{Machine}
use Rattle.l4_model.specs.World.{World, opening}
use Rattle.l4_audit.proofs.Replaying.{take_whole}
use Rattle.l4_json.specs.Steps.{behind}
use Rattle.l4_chart.specs.Charts.{columns_of, concerns, is_in, rows_with, until_last, watched}
use Rattle.l4_chart.specs.Laws.{ArrowsAreDeliveries, IsDelivery, RowsAreSteps, StandingsAreReached, numbered_step}
use Rattle.l4_chart.specs.Listings.{Listing}
use Rattle.l4_chart.specs.Told.{Told, Watched, told_at, told_from}
use Rattle.l4_chart.specs.Whole.{whole}
use Rattle.l4_chart.proofs.Walking.{led_there}
use Rattle.l4_chart.specs.Marks.{mark_of}
use Rattle.l4_chart.specs.Windows.{Part}
use Rattle.l4_chart.specs.declared.columns.Column.{Column}
use Rattle.l4_chart.specs.declared.marks.Mark.{Mark}
use Rattle.l4_chart.specs.declared.marks.Mark.TheVariants.{Point, Arrow, Clock}

-- Where all threads are shown, each mark is.
all_shown : (columns : List Column) (mark : Mark) → concerns None columns mark ≡ true
all_shown columns (Point t kind) = refl
all_shown columns (Arrow sender receiver) = refl
all_shown columns (Clock cpu clock) = refl

abbrev all : (registers : Bool) → (last : ℕ) → Part
all registers last = record { first = 1; last = last; threads = None; registers = registers; folds = false }

le_test : (a b : ℕ) → a ≤ b → nat_le a b ≡ true
le_test a b h = grind (arith, nat_tests)

shown : (registers : Bool) (columns : List Column) (last : ℕ) (row : Told) → 1 ≤ row.number → is_in (all registers last) columns row ≡ true
shown registers columns last row from = rw (le_test 1 row.number from, all_shown columns (mark_of row.step)) refl

whole_from : (m : Machine) (listing : Listing) (registers : Bool) (columns : List Column) (watched : Watched) (last k : ℕ) (w : World) (h : List Step) → 1 ≤ k →
    map numbered_step (filter (is_in (all registers last) columns) (told_from m listing watched w k h)) ≡ enumerate_from k h
whole_from m listing registers columns watched last k w [] from = refl
whole_from m listing registers columns watched last k w (step ∷ h) from =
    rw (shown registers columns last (told_at m listing watched w k step) from)
    (ap (λ rows. (k, step) ∷ rows) (whole_from m listing registers columns watched last (k + 1) (behind m w step) h (omega arith)))

pub rows_are_steps : RowsAreSteps
rows_are_steps m listing registers h =
    let columns = columns_of m None in
    let part = whole registers h in
    ap (λ (xs : List Step). map numbered_step (rows_with m listing part columns xs)) (take_whole h (length h) refl)
    ∙ whole_from m listing registers columns (watched part columns) (length h) 1 (opening m) h (omega arith)

pub standings_are_reached : StandingsAreReached
standings_are_reached m part h w is = led_there m (opening m) (until_last part h) w is

arrow_is : (a b c d : GlobalId) → Arrow a b ≡ Arrow c d → (a ≡ c) × (b ≡ d)
arrow_is a b c d h = (cc, cc)

delivery : (step : Step) (sender receiver : GlobalId) → mark_of step ≡ Arrow sender receiver → IsDelivery step sender receiver
delivery (Local t) sender receiver h = cc
delivery (Begin s) sender receiver h = cc
delivery (Queue s) sender receiver h = cc
delivery (Deliver s to shown actual tag words) sender receiver h =
    let same = arrow_is s.thread to sender receiver h in
    record { send = s; shown = shown; actual = actual; tag = tag; words = words; is = ap (λ t. Deliver s t shown actual tag words) same.1; sent_by = same.0 }
delivery (Wait t) sender receiver h = cc
delivery (SendTimeout s) sender receiver h = cc
delivery (ReceiveTimeout t) sender receiver h = cc
delivery (SendNobody s) sender receiver h = cc
delivery (ReceiveNobody t) sender receiver h = cc
delivery (SendCancel s) sender receiver h = cc
delivery (ReceiveCancel t) sender receiver h = cc
delivery (Drop s) sender receiver h = cc
delivery (Order caller target what) sender receiver h = cc
delivery (Obey caller) sender receiver h = cc
delivery (Tick cpu clock) sender receiver h = cc
delivery (Retarget s) sender receiver h = cc

pub arrows_are_deliveries : ArrowsAreDeliveries
arrows_are_deliveries step sender receiver =
    (delivery step sender receiver, λ d. ap mark_of d.is ∙ ap (λ t. Arrow t receiver) d.sent_by)
