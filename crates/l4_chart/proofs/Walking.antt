-- A history goes on by one step, whose row is kept or not.
use Rattle.std.proofs.Common.{◌≡◌, ℕ, ◌+◌, ◌≤◌, zero, suc, Bool, true, cond, Option, Some, List, [], ◌∷◌, ◌++◌, add-one, append-nil, drop, is_some, length, take, refl, sym, subst, ap, ap₂, ◌∙◌, arith}
use Rattle.std.specs.Prelude.{filter, filter_map, min, unwrap_or}
use Rattle.std.proofs.lemmas.List.{drop_all, take_min}
use Rattle.l4_model.specs.Conditions.{◌>>=◌}
use Rattle.l4_model.specs.History.{IsHistory, begun_name, reached, run}
use Rattle.l4_model.specs.Machine.{Machine}
use Rattle.l4_model.specs.Steps.{Step, next}
use Rattle.l4_model.specs.Words.{Id}
use Rattle.l4_model.specs.World.{World, opening}
use Rattle.l4_model.proofs.Chains.{bind_then, some_is}
use Rattle.l4_core_model.proofs.Changed.{run-last}
use Rattle.l4_audit.specs.Inner.Audited.{Audited, IsPlaced}
use Rattle.l4_audit.proofs.Auditing.{are_placed}
use Rattle.l4_json.specs.Steps.{behind}
use Rattle.l4_waits.specs.Lines.{circles_text}
use Rattle.l4_chart.specs.Changes.{Held, all_held, changes_of, changes_since}
use Rattle.l4_chart.specs.Charts.{chart_of, columns_of, rows_with, until_last}
use Rattle.l4_chart.specs.Listings.{Instruction, Listing}
use Rattle.l4_chart.specs.Standings.{standings_in}
use Rattle.l4_chart.specs.Told.{Told, Watched, changing, known_before, step_destination, step_instruction, told_at, told_from, told_of, world_behind}
use Rattle.l4_chart.specs.Waiting.{all_waits}
use Rattle.l4_chart.specs.Windows.{Part}
use Rattle.l4_chart.specs.declared.columns.Column.{Column}
use Rattle.l4_chart.specs.declared.standings.Standing.{Standing}
use Rattle.l4_chart.proofs.Shown.{kept}

-- What is told of a step: its destination is known in front of it or behind it.
pub told_is : (a b : Audited) (listing : Listing) (watched : Watched) (number : ℕ) (step : Step) (known to : Option Id) (at : Option Instruction) (held : List Held) (changes : List ℕ) (waits : List Bool) →
    b ≡ record a { world = behind a.machine a.world step } → known ≡ known_before a.machine a.world step →
    ((before : World) → known ≡ known_before b.machine before step → to ≡ step_destination b.machine before b.world step) →
    at ≡ step_instruction a.machine listing a.world step → held ≡ all_held a.machine a.world (changing watched) → changes ≡ changes_since b.machine b.world held →
    waits ≡ all_waits b.machine b.world watched.columns →
    record { number = number; step = step; to = to; at = at; changes = changes; waits = waits } ≡ told_at a.machine listing watched a.world number step
told_is a b listing watched number step known to at held changes waits taken known_is to_is at_is held_is changes_are waits_are =
    let there : known ≡ known_before b.machine a.world step = known_is ∙ sym (ap (λ (x : Audited). known_before x.machine a.world step) taken) in
    let since : changes ≡ changes_of a.machine (changing watched) a.world (behind a.machine a.world step) =
    changes_are ∙ ap (λ (x : Audited). changes_since x.machine x.world held) taken ∙ ap (changes_since a.machine (behind a.machine a.world step)) held_is in
    let waiting : waits ≡ all_waits a.machine (behind a.machine a.world step) watched.columns =
    waits_are ∙ ap (λ (x : Audited). all_waits x.machine x.world watched.columns) taken in
    ap₂ (λ (t : Option Id) (i : Option Instruction). record { number = number; step = step; to = t; at = i; changes = changes; waits = waits })
    (to_is a.world there ∙ ap (λ (x : Audited). step_destination x.machine a.world x.world step) taken) at_is
    ∙ ap₂ (λ (cs : List ℕ) (ws : List Bool). record {
      number = number;
      step = step;
      to = step_destination a.machine a.world (behind a.machine a.world step) step;
      at = step_instruction a.machine listing a.world step;
      changes = cs;
      waits = ws;
    }) since waiting

-- The world behind steps that are possible is the one that they reach.
pub led_there : (m : Machine) (v : World) (h : List Step) (w : World) → run m v h ≡ Some w → world_behind m v h ≡ w
led_there m v [] w is = some_is v w is
led_there m v (step ∷ h) w is =
    bind_then (next m v step) (λ u. run m u h) w is λ u one rest.
    ap (λ o. world_behind m (unwrap_or o v) h) one ∙ led_there m u h w rest

taken_next : (h : List Step) (i : ℕ) (step : Step) (rest : List Step) → drop i h ≡ step ∷ rest → take (suc i) h ≡ take i h ++ step ∷ []
taken_next [] zero step rest is = cc
taken_next [] (suc i) step rest is = cc
taken_next (x ∷ h) zero step rest is = let same : x ≡ step = cc in ap (λ (y : Step). y ∷ []) same
taken_next (x ∷ h) (suc i) step rest is = ap (λ ys. x ∷ ys) (taken_next h i step rest is)

taken_here : (h : List Step) (i : ℕ) (step : Step) (rest : List Step) → drop i h ≡ step ∷ rest → take (i + 1) h ≡ take i h ++ step ∷ []
taken_here h i step rest is = rw add-one (taken_next h i step rest is)

-- So many steps were taken, and these rows are kept of them.
pub record Walked (m : Machine) (listing : Listing) (watched : Watched) (p : Told → Bool) (h : List Step) (i : ℕ) (a : Audited) (rows : List Told) : Type 0 where
  pub machine : a.machine ≡ m
  pub way : reached m (take i h) ≡ Some a.world
  pub rest : (last : World) × (run m a.world (drop i h) ≡ Some last)
  pub told : rows ++ filter p (told_from m listing watched a.world (i + 1) (drop i h)) ≡ filter p (told_of m listing watched h)
  pub led : world_behind m a.world (drop i h) ≡ world_behind m (opening m) h

pub begun : (listing : Listing) (watched : Watched) (p : Told → Bool) (h : List Step) (a : Audited) (rows : List Told) → a.world ≡ opening a.machine → IsHistory a.machine h → rows ≡ [] →
    Walked a.machine listing watched p h 0 a rows
begun listing watched p h a rows opens history none = record {
  machine = refl;
  way = ap (λ w. Some w) (sym opens);
  rest = (history.0, ap (λ w. run a.machine w h) opens ∙ history.1);
  told = ap (λ rs. rs ++ filter p (told_from a.machine listing watched a.world 1 h)) none ∙ ap (λ w. filter p (told_from a.machine listing watched w 1 h)) opens;
  led = ap (λ w. world_behind a.machine w h) opens;
}

pub placed_here : (m : Machine) (listing : Listing) (watched : Watched) (p : Told → Bool) (h : List Step) (i : ℕ) (a : Audited) (rows : List Told) → Walked m listing watched p h i a rows → IsPlaced a
placed_here m listing watched p h i a rows walked = are_placed a (filter_map begun_name (take i h)) (record {
  steps = take i h;
  reached_by = ap (λ x. reached x (take i h)) walked.machine ∙ walked.way;
  begun_by = refl;
})

pub possible_here : (m : Machine) (listing : Listing) (watched : Watched) (p : Told → Bool) (h : List Step) (i : ℕ) (a : Audited) (rows : List Told) (step : Step) → Walked m listing watched p h i a rows →
    drop i h ≡ step ∷ drop (i + 1) h → is_some (next a.machine a.world step) ≡ true
possible_here m listing watched p h i a rows step walked here =
    bind_then (next m a.world step) (λ u. run m u (drop (i + 1) h)) walked.rest.0 (ap (run m a.world) (sym here) ∙ walked.rest.1) λ u is more.
    ap (λ x. is_some (next x a.world step)) walked.machine ∙ ap is_some is

pub goes_on : (m : Machine) (listing : Listing) (watched : Watched) (p : Told → Bool) (h : List Step) (i : ℕ) (step : Step) (a b : Audited) (row : Told) (rows new : List Told) →
    Walked m listing watched p h i a rows → drop i h ≡ step ∷ drop (i + 1) h → b ≡ record a { world = behind a.machine a.world step } →
    row ≡ told_at a.machine listing watched a.world (i + 1) step → new ≡ cond (p row) (rows ++ row ∷ []) rows → Walked m listing watched p h (i + 1) b new
goes_on m listing watched p h i step a b row rows new walked here taken told is =
    let u = behind m a.world step in
    let left = drop (i + 1) h in
    let world : b.world ≡ u = ap (λ (x : Audited). x.world) taken ∙ ap (λ x. behind x a.world step) walked.machine in
    let first : row ≡ told_at m listing watched a.world (i + 1) step = told ∙ ap (λ x. told_at x listing watched a.world (i + 1) step) walked.machine in
    bind_then (next m a.world step) (λ v. run m v left) walked.rest.0 (ap (run m a.world) (sym here) ∙ walked.rest.1) λ v one more.
    let same : v ≡ u = sym (ap (λ o. unwrap_or o a.world) one) in
    record {
      machine = ap (λ (x : Audited). x.machine) taken ∙ walked.machine;
      way =
          ap (reached m) (taken_here h i step left here) ∙ run-last m (opening m) (take i h) step ∙ ap (λ o. o >>= λ x. next m x step) walked.way ∙ one
          ∙ ap (λ x. Some x) (same ∙ sym world);
      rest = (walked.rest.0, ap (λ x. run m x left) (world ∙ sym same) ∙ more);
      told =
          ap (λ x. new ++ filter p (told_from m listing watched x (i + 1 + 1) left)) world ∙ kept p row (told_from m listing watched u (i + 1 + 1) left) rows new is
          ∙ ap (λ (r : Told). rows ++ filter p (r ∷ told_from m listing watched u (i + 1 + 1) left)) first
          ∙ ap (λ (xs : List Step). rows ++ filter p (told_from m listing watched a.world (i + 1) xs)) (sym here) ∙ walked.told;
      led = ap (λ x. world_behind m x left) world ∙ ap (world_behind m a.world) (sym here) ∙ walked.led;
    }

-- Behind the last step.

pub all_rows : (m : Machine) (listing : Listing) (watched : Watched) (p : Told → Bool) (h : List Step) (n : ℕ) (a : Audited) (rows : List Told) → Walked m listing watched p h n a rows → length h ≤ n →
    rows ≡ filter p (told_of m listing watched h)
all_rows m listing watched p h n a rows walked over =
    sym (append-nil rows) ∙ sym (ap (λ xs. rows ++ filter p (told_from m listing watched a.world (n + 1) xs)) (drop_all n h over)) ∙ walked.told

pub last_reached : (m : Machine) (listing : Listing) (watched : Watched) (p : Told → Bool) (h : List Step) (n : ℕ) (a : Audited) (rows : List Told) → Walked m listing watched p h n a rows → length h ≤ n →
    a.world ≡ world_behind m (opening m) h
last_reached m listing watched p h n a rows walked over = sym (ap (world_behind m a.world) (drop_all n h over)) ∙ walked.led

-- A chart from its parts.
pub chart_is : (m : Machine) (listing : Listing) (part : Part) (h : List Step) (n : ℕ) (columns : List Column) (rows : List Told) (standings : List Standing) (circles : List ℕ)
    (a : Audited) → take n h ≡ until_last part h → IsHistory m (until_last part h) → columns ≡ columns_of m part.threads →
    rows ≡ rows_with m listing part columns (take n h) → a ≡ record { machine = m; world = world_behind m (opening m) (take n h) } →
    standings ≡ standings_in a.machine listing a.world columns → ((w : World) → reached m (take n h) ≡ Some w → circles ≡ circles_text m w) →
    record { columns = columns; rows = rows; standings = standings; circles = circles } ≡ chart_of m listing part h
chart_is m listing part h n columns rows standings circles a same history columns_are rows_are led standings_are circles_are =
    let steps = until_last part h in
    let last = world_behind m (opening m) steps in
    let world : a ≡ record { machine = m; world = last } = led ∙ ap (λ (xs : List Step). record { machine = m; world = world_behind m (opening m) xs }) same in
    let rows' : rows ≡ rows_with m listing part (columns_of m part.threads) steps =
    rows_are ∙ ap (λ (cs : List Column). rows_with m listing part cs (take n h)) columns_are
    ∙ ap (λ (xs : List Step). rows_with m listing part (columns_of m part.threads) xs) same in
    let standings' : standings ≡ standings_in m listing last (columns_of m part.threads) =
    standings_are ∙ ap (λ (x : Audited). standings_in x.machine listing x.world columns) world ∙ ap (standings_in m listing last) columns_are in
    let circles' : circles ≡ circles_text m last =
    circles_are history.0 (ap (reached m) same ∙ history.1) ∙ ap (circles_text m) (sym (led_there m (opening m) steps history.0 history.1)) in
    ap₂ (λ (cs : List Column) (rs : List Told). record { columns = cs; rows = rs; standings = standings; circles = circles }) columns_are rows'
    ∙ ap₂ (λ (ss : List Standing) (ls : List ℕ). record {
      columns = columns_of m part.threads;
      rows = rows_with m listing part (columns_of m part.threads) steps;
      standings = ss;
      circles = ls;
    }) standings' circles'

-- So many steps are those up to the last of a part.
pub as_many : (part : Part) (h : List Step) (n : ℕ) → n ≡ min (length h) part.last → take n h ≡ until_last part h
as_many part h n is =
    let same : n ≡ min part.last (length h) = omega (arith, is) in
    ap (λ (k : ℕ). take k h) same ∙ take_min part.last h

pub possible_until : (x m : Machine) (part : Part) (h : List Step) (n : ℕ) → x ≡ m → n ≡ min (length h) part.last → IsHistory m (until_last part h) → IsHistory x (take n h)
possible_until x m part h n same is history =
    subst (λ k. IsHistory k (take n h)) (sym same) (subst (IsHistory m) (sym (as_many part h n is)) history)

pub rows_are : (m : Machine) (listing : Listing) (part : Part) (h : List Step) (n : ℕ) (columns slice : List Column) (rows : List Told) (a : Audited) →
    a ≡ record { machine = m; world = opening m } → slice ≡ columns → rows ≡ rows_with a.machine listing part slice (take n h) →
    rows ≡ rows_with m listing part columns (take n h)
rows_are m listing part h n columns slice rows a opens same is =
    is ∙ ap (λ (cs : List Column). rows_with a.machine listing part cs (take n h)) same
    ∙ ap (λ (x : Audited). rows_with x.machine listing part columns (take n h)) opens

pub world_is : (m : Machine) (h : List Step) (n : ℕ) (a b : Audited) → a ≡ record { machine = m; world = opening m } →
    b ≡ record a { world = world_behind a.machine (opening a.machine) (take n h) } → b ≡ record { machine = m; world = world_behind m (opening m) (take n h) }
world_is m h n a b opens is = is ∙ ap (λ (x : Audited). record x { world = world_behind x.machine (opening x.machine) (take n h) }) opens
