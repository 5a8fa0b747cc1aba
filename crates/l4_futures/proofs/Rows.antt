-- Worked rows: lists that are not all endings, searches that looked at something else, traces of
-- entries, and worlds that are stuck.
use Rattle.std.proofs.Common.{◌≡◌, ◌≤◌, ℕ, zero, suc, Bool, true, false, inl, inr, Option, Some, None, List, [], ◌∷◌, length, map, refl, sym, ap, subst, ◌∙◌, arith}
use Rattle.std.proofs.lemmas.List.{length-map}
use Rattle.std.specs.Prelude.{slice_get, unwrap_or, IfSome}
use Rattle.std.specs.Option.{option_map}
use Rattle.l4_model.specs.Words.{NilThread, AnyThread}
use Rattle.l4_model.specs.Machine.{Machine, Fixed, Set, Ipc, Ask, Delete, machine_of}
use Rattle.l4_model.specs.World.{World, Thread, Send, opening}
use Rattle.l4_model.specs.Conditions.{◌>>=◌}
use Rattle.l4_model.specs.Steps.{Step, Local, Begin, Queue, Wait, ReceiveTimeout, Order, Obey, Tick, next}
use Rattle.l4_model.specs.History.{reached}
use Rattle.l4_model.proofs.Chains.{some_is}
use Rattle.l4_model.proofs.Rows.Writing.{thread, id, send, sends, receives, declared}
use Rattle.l4_worlds.specs.Timeless.{timeless}
use Rattle.l4_worlds.specs.Late.{run_late, no_ticks}
use Rattle.l4_worlds.specs.Numberless.{numberless}
use Rattle.l4_worlds.specs.Bare.{bare, AreAsGood}
use Rattle.l4_worlds.specs.Histories.{IsUntimedIn, IsNeverOrZero}
use Rattle.l4_worlds.proofs.Reaching.{reached_late, still_from}
use Rattle.l4_futures.specs.Traces.{trace_along}
use Rattle.l4_futures.specs.Endings.{length_of, IsEnding, IsListed, AreAllEndings, AreWorlds, HasLooked}
use Rattle.l4_futures.specs.Stuck.{is_stuck_world}
use Rattle.l4_futures.proofs.Ways.{at_end}

abbrev after : Machine → List Step → World
after m h = unwrap_or (reached m h) (opening m)

-- Lists that are not all endings

-- A thread that ends at once.
abbrev alone : Machine
alone = machine_of 1 (declared 1 0 1 [] ∷ [])

abbrev ends_at_once : List Step
ends_at_once = Local (thread 1) ∷ []

ended_untimed : (i : ℕ) (t : Thread) → slice_get (after alone ends_at_once).threads i ≡ Some t → IsUntimedIn t.phase × IfSome t.send (λ (s : Send). IsNeverOrZero s.period)
ended_untimed zero t at = subst (λ (x : Thread). IsUntimedIn x.phase × IfSome x.send (λ (s : Send). IsNeverOrZero s.period)) (some_is _ t at) (tt, tt)
ended_untimed (suc i) t at = cc

its_ending : IsEnding alone ends_at_once (after alone ends_at_once)
its_ending = record {
  comes = record {
    reaches = refl;
    still = still_from alone (after alone ends_at_once) (at_end alone (timeless (after alone ends_at_once)) refl);
  };
  untimed = ended_untimed;
}

nothing_listed : (w : World) (long : ℕ) → IsListed alone [] w long → ⊥
nothing_listed w long l = by l.at
  where
    by : slice_get [] l.place ≡ Some l.trace → ⊥
    by at = cc

-- An ending is left out: of a whole search, and of one that is cut behind it.

left_out_of_whole : (depth : ℕ) → AreAllEndings alone [] depth true → ⊥
left_out_of_whole depth all = nothing_listed _ _ (all.whole refl ends_at_once _ its_ending)

left_out_of_cut : AreAllEndings alone [] 1 false → ⊥
left_out_of_cut all = nothing_listed _ _ (all.complete ends_at_once _ its_ending (omega arith))

-- A world is listed in which a step is possible.
not_at_its_end : (depth : ℕ) (is_whole : Bool) → AreAllEndings alone ([] ∷ []) depth is_whole → ⊥
not_at_its_end depth is_whole all =
    let s = all.sound 0 [] refl in
    by s.0 s.1.comes.reaches (s.1.comes.still [] s.0 (Local (thread 1)) tt refl refl)
  where
    by : (w : World) → Some (opening alone) ≡ Some w → next alone w (Local (thread 1)) ≡ None → ⊥
    by w reaches none = let no : Some (after alone ends_at_once) ≡ None = ap (λ x. next alone x (Local (thread 1))) (some_is _ w reaches) ∙ none in cc

-- A thread is deleted, before it writes a register or behind that.
abbrev gone : Machine
gone = machine_of 1 (declared 1 0 1 (Set 1 5 ∷ []) ∷ declared 2 0 1 (Ask (Fixed (id 1)) Delete ∷ []) ∷ [])

abbrev quick : List Step
quick = Order (thread 2) (thread 1) Delete ∷ Obey (thread 2) ∷ []

abbrev slow : List Step
slow = Local (thread 1) ∷ quick

-- A longer way is listed than there is.
longer_than_needed : (depth : ℕ) (is_whole : Bool) → AreAllEndings gone (slow ∷ []) depth is_whole → ⊥
longer_than_needed depth is_whole all =
    let short : 3 ≤ 2 = all.shortest 0 slow quick (after gone slow) (after gone quick) refl refl refl refl in
    omega (arith, short)

-- An ending is listed twice.
listed_twice : (depth : ℕ) (is_whole : Bool) → AreAllEndings gone (quick ∷ slow ∷ []) depth is_whole → ⊥
listed_twice depth is_whole all =
    let same = all.apart 0 1 quick slow (after gone quick) (after gone slow) refl refl refl refl refl in
    omega (arith, same)

-- A shorter one comes behind a longer one.
longer_first : (depth : ℕ) (is_whole : Bool) → AreAllEndings gone (quick ∷ [] ∷ []) depth is_whole → ⊥
longer_first depth is_whole all =
    let short : 2 ≤ 0 = all.rising 0 1 quick [] (omega arith) refl refl in
    omega (arith, short)

-- Searches that looked at something else

-- A machine without a thread, which has one world but for time.
abbrev nobody : Machine
nobody = machine_of 1 []

goes_nowhere : (steps : List Step) (w : World) → run_late nobody (opening nobody) steps ≡ Some w → (steps ≡ []) × (w ≡ opening nobody)
goes_nowhere [] w r = (refl, sym (some_is (opening nobody) w r))
goes_nowhere (s ∷ steps) w r =
    let none : run_late nobody (opening nobody) (s ∷ steps) ≡ None = ap (λ o. o >>= λ v. run_late nobody v steps) (at_end nobody (opening nobody) refl s) in
    cc

one_world : (g h : List Step) (w v : World) → reached nobody g ≡ Some w → reached nobody h ≡ Some v → AreAsGood w v
one_world g h w v a b =
    let x = goes_nowhere (no_ticks g) (timeless w) (reached_late nobody g w a) in
    let y = goes_nowhere (no_ticks h) (timeless v) (reached_late nobody h v b) in
    ap (λ z. numberless (bare z)) (x.1 ∙ sym y.1)

no_two : (histories : List (List Step)) (depth more : ℕ) → length histories ≡ suc (suc more) → AreWorlds nobody histories depth → ⊥
no_two [] depth more long are = absurd (omega (arith, long))
no_two (g ∷ []) depth more long are = absurd (omega (arith, long))
no_two (g ∷ h ∷ rest) depth more long are =
    let x = are.reach 0 g refl in
    let y = are.reach 1 h refl in
    let same = are.apart 0 1 g h x.0 y.0 refl refl x.1 y.1 (one_world g h x.0 y.0 x.1 y.1) in
    omega (arith, same)

-- More worlds are told than there are, than were asked for, and than were looked at.

two_worlds : (asked most depth : ℕ) (is_whole : Bool) → HasLooked nobody asked most 2 depth is_whole → ⊥
two_worlds asked most depth is_whole l = no_two (map (trace_along nobody) l.schedules) _ 0 (length-map l.schedules (trace_along nobody) ∙ l.count) l.are

more_than_asked : (m : Machine) (asked depth : ℕ) (is_whole : Bool) → HasLooked m asked 1 2 depth is_whole → ⊥
more_than_asked m asked depth is_whole l = let few = l.few in omega (arith, few)

-- A whole search is told to be deeper than it may be, or than a history is long.

too_deep : (m : Machine) (worlds most : ℕ) → HasLooked m 3 most worlds 3 true → ⊥
too_deep m worlds most l = let low = (l.whole refl).shallow in omega (arith, low)

deeper_than_needed : (asked most worlds : ℕ) → HasLooked nobody asked most worlds 1 true → ⊥
deeper_than_needed asked most worlds l =
    let w = l.whole refl in
    let long = w.deep in
    let x = w.are.reach long.place long.history long.at in
    let none = ap length (goes_nowhere (no_ticks long.history) (timeless x.0) (reached_late nobody long.history x.0 x.1)).0 in
    let is = long.is in
    omega (arith, none, is)

-- A search is told to be cut that is not: it is not as deep as it may be, and there is no world more.
not_cut : HasLooked nobody 5 1 1 0 false → ⊥
not_cut l = elim (l.cut refl) [
  | inl deep ↦ let all = deep.all in omega (arith, all)
  | inr full ↦ no_two full.more _ 0 full.one_more full.are
]

-- Traces of entries

-- A thread that waits five ticks.
abbrev sleeper : Machine
sleeper = machine_of 1 (declared 1 0 1 (Ipc (Fixed NilThread) (Fixed AnyThread) None (Some 5) ∷ []) ∷ [])

told_with_its_tick : trace_along sleeper (4 ∷ 6 ∷ 0 ∷ []) ≡ Wait (thread 1) ∷ Tick 0 5 ∷ ReceiveTimeout (thread 1) ∷ Local (thread 1) ∷ []
told_with_its_tick = refl

ticks_do_not_count : length_of (trace_along sleeper (4 ∷ 6 ∷ 0 ∷ [])) ≡ 3
ticks_do_not_count = refl

-- Worlds that are stuck

abbrev is_stuck_after : Machine → List Step → Option Bool
is_stuck_after m h = option_map is_stuck_world (reached m h)

abbrev pair : Machine
pair = machine_of 1 (
    declared 1 0 1 (sends 2 ∷ [])
    ∷ declared 2 0 1 (Ipc (Fixed NilThread) (Fixed (id 3)) None None ∷ [])
    ∷ declared 3 0 1 (receives ∷ [])
    ∷ declared 4 0 1 (Ask (Fixed (id 1)) Delete ∷ []) ∷ [])

at_first : is_stuck_after pair [] ≡ Some false
at_first = refl

a_send_is_stuck : is_stuck_after pair (Begin (send 1 1) ∷ []) ≡ Some true
a_send_is_stuck = refl

-- So is one that its thread left behind when it was deleted.
a_left_send_is_stuck : is_stuck_after pair (Begin (send 1 1) ∷ Queue (send 1 1) ∷ Order (thread 4) (thread 1) Delete ∷ Obey (thread 4) ∷ []) ≡ Some true
a_left_send_is_stuck = refl

a_closed_receive_is_stuck : is_stuck_after pair (Wait (thread 2) ∷ []) ≡ Some true
a_closed_receive_is_stuck = refl

an_open_receive_is_not : is_stuck_after pair (Wait (thread 3) ∷ []) ≡ Some false
an_open_receive_is_not = refl

no_order_is : is_stuck_after pair (Order (thread 4) (thread 1) Delete ∷ []) ≡ Some false
no_order_is = refl
