-- A replay under way in the program that goes on.
use Rattle.std.proofs.Common.{◌≡◌, ℕ, suc, ◌+◌, ◌<◌, ◌≤◌, Bor, Option, Some, None, List, [], ◌∷◌, ◌++◌, length, map, true, inl, inr, refl, ap, ap₂, sym, ◌∙◌, subst, arith}
use Rattle.std.specs.Prelude.{◌⊎◌, slice_get}
use Rattle.std.specs.List.{range_with_len}
use Rattle.std.specs.Option.{option_map}
use Rattle.std.proofs.lemmas.List.{length-map, map_push}
use Rattle.std.proofs.lemmas.List.FromFn.{map-range_with_len_more}
use Rattle.l4_model.specs.Machine.{Machine}
use Rattle.l4_model.specs.Conditions.{◌>>=◌}
use Rattle.l4_core_model.specs.Local.{Local}
use Rattle.l4_core_model.specs.Runs.{Run, System, Ticks, opening_run}
use Rattle.l4_core_model.specs.Schedules.{attempts_all, earliest, earliest_of, least_deadline, rounds, turns_in_order, turns_of}
use Rattle.l4_core_model.specs.Schedules.{Entry, TurnOf, TickTo, replay_entries}
use Rattle.l4_core.specs.Processor.{Processor}
use Rattle.l4_replay.specs.declared.entries.Entry as code
use Rattle.l4_replay.specs.Entries.{after_entry, entry_from, is_entry}
use Rattle.l4_replay.specs.UnderWay.{UnderWay, GoesOn, HasRun, IsProcessorOf, IsRun}
use Rattle.l4_replay.proofs.Endings.{deadline_assoc}
use Rattle.l4_rounds.specs.ThenRest.{GoOn, in_rounds}
use Rattle.l4_rounds.specs.Inner.Replays.{entries_of, run_of, HasGoneOn, IsReplay, IsReplayOf}
use Rattle.l4_rounds.specs.declared.replays.Replay.{Replay}
use Rattle.l4_rounds.proofs.GoingOn.{events_few, few_on, on_as, one_on, stay, stay_at, then_on}
use Rattle.l4_rounds.proofs.Rounds.{ends_still, ends_used, goes_further, lawful_more, next_round, replays_more, round_few, round_more, tick_more, ticks_few, unchanged}

module _ (m : Machine) (es : List Entry) (w : UnderWay) (is : IsReplayOf m es w) where
  pub has_run : HasRun w
  has_run = (m, (replay_entries m es, is.run))

  -- As many events as the processors count.
  pub events_are : w.events ≡ turns_of (replay_entries m es)
  events_are = is.run.events

  pub events_fit : w.events ≤ length es
  events_fit = let few = events_few m es in let same = events_are in omega (arith, few, same)

  -- What an entry makes of it.
  pub after : (v : UnderWay) (e : Entry) → GoesOn (after_entry e) w v →
      IsRun m (after_entry e m (replay_entries m es)) v
  after v e goes = goes m (replay_entries m es) is.run

  -- An entry is done and listed.
  pub listed : (v : UnderWay) (e : Entry) → GoesOn (after_entry e) w v → is_entry m e ≡ true →
      IsReplayOf m (es ++ e ∷ []) v
  listed v e goes lawful = record {
    run = subst (λ r. IsRun m r v) (sym (replays_more m (opening_run m) es e)) (after v e goes);
    lawful = lawful_more m 1 es e is.lawful lawful;
  }

  -- An entry had no event.
  pub unlisted : (v : UnderWay) (e : Entry) → GoesOn (after_entry e) w v →
      after_entry e m (replay_entries m es) ≡ replay_entries m es → IsReplayOf m es v
  unlisted v e goes same = record {
    run = subst (λ r. IsRun m r v) same (after v e goes);
    lawful = is.lawful;
  }

-- How many events there were after an entry.
pub events_after : (m : Machine) (es : List Entry) (w v : UnderWay) (e : Entry) → IsReplayOf m es w →
    GoesOn (after_entry e) w v → v.events ≡ turns_of (after_entry e m (replay_entries m es))
events_after m es w v e is goes =
    (after m es w is v e goes).events

-- In the program

pub few_events : (r : Replay) → IsReplay r → r.walk.events ≤ length r.entries.items
few_events r is =
    let few = events_fit r.machine.now (entries_of r) r.walk is in
    let size = length-map r.entries.items entry_from in
    omega (arith, few, size)

-- An entry was done and listed.
pub listed_in : (r : Replay) (v : UnderWay) (items : List code.Entry) (e : code.Entry) → IsReplay r →
    GoesOn (after_entry (entry_from e)) r.walk v → is_entry r.machine.now (entry_from e) ≡ true →
    items ≡ r.entries.items ++ e ∷ [] → IsReplayOf r.machine.now (map entry_from items) v
listed_in r v items e is goes lawful same =
    subst (λ es. IsReplayOf r.machine.now es v)
    (sym (ap (map entry_from) same ∙ map_push entry_from r.entries.items e))
    (listed r.machine.now (entries_of r) r.walk is v (entry_from e) goes lawful)

-- It had an event.
pub event_in : (r : Replay) (v : UnderWay) (items : List code.Entry) (e : code.Entry) → IsReplay r →
    GoesOn (after_entry (entry_from e)) r.walk v → items ≡ r.entries.items ++ e ∷ [] →
    r.walk.events < v.events →
    GoOn (after_entry (entry_from e)) r.machine.now (entries_of r) (map entry_from items)
event_in r v items e is goes same more =
    let before = events_are r.machine.now (entries_of r) r.walk is in
    let after = events_after r.machine.now (entries_of r) r.walk v (entry_from e) is goes in
    subst (GoOn (after_entry (entry_from e)) r.machine.now (entries_of r))
    (sym (ap (map entry_from) same ∙ map_push entry_from r.entries.items e))
    (one_on r.machine.now (entries_of r) (entry_from e) (omega (arith, before, after, more)))

-- It had none.
pub none_in : (r : Replay) (v : UnderWay) (e : code.Entry) → IsReplay r →
    GoesOn (after_entry (entry_from e)) r.walk v → v.events ≤ r.walk.events →
    HasGoneOn (after_entry (entry_from e)) r (record { machine = r.machine; walk = v; entries = r.entries })
none_in r v e is goes few =
    let m = r.machine.now in
    let es : List Entry = entries_of r in
    let before = events_are m es r.walk is in
    let after = events_after m es r.walk v (entry_from e) is goes in
    let least : turns_of (after_entry (entry_from e) m (replay_entries m es)) ≤ turns_of (replay_entries m es)
    = omega (arith, before, after, few) in
    record {
      machine = refl;
      replay = unlisted m es r.walk is v (entry_from e) goes (unchanged m (replay_entries m es) (entry_from e) least);
      entries = stay_at m es (entry_from e) least;
    }

-- One after the other

pub stays_at : (next : Machine → Run → Run) (r : Replay) → IsReplay r →
    next r.machine.now (run_of r) ≡ run_of r → HasGoneOn next r r
stays_at next r is same = record {
  machine = refl;
  replay = is;
  entries = stay r.machine.now (entries_of r) next same;
}

pub gone_further : (f g h : Machine → Run → Run) (a b c : Replay) → HasGoneOn f a b → HasGoneOn g b c →
    g a.machine.now (f a.machine.now (run_of a)) ≡ h a.machine.now (run_of a) → HasGoneOn h a c
gone_further f g h a b c first second same =
    record {
      machine = second.machine ∙ first.machine;
      replay = second.replay;
      entries = then_on a.machine.now f g h (entries_of a) (entries_of b) (entries_of c) first.entries
          (subst (λ (m : Machine). GoOn g m (entries_of b) (entries_of c)) (now first.machine)
          second.entries) same;
    }
  where
    now : b.machine ≡ a.machine → b.machine.now ≡ a.machine.now
    now is = ap (λ (m : Bor Machine). m.now) is

pub gone_as : (f h : Machine → Run → Run) (a b : Replay) → HasGoneOn f a b →
    f a.machine.now (run_of a) ≡ h a.machine.now (run_of a) → HasGoneOn h a b
gone_as f h a b on same = record {
  machine = on.machine;
  replay = on.replay;
  entries = on_as a.machine.now f h (entries_of a) (entries_of b) on.entries same;
}

-- It has come to this run.
pub run_then : (f : Machine → Run → Run) (a b : Replay) → HasGoneOn f a b →
    run_of b ≡ f a.machine.now (run_of a)
run_then f a b on =
    ap (λ (m : Bor Machine). replay_entries m.now (entries_of b)) on.machine ∙ on.entries.replayed

pub few_gone : (f : Machine → Run → Run) (a b : Replay) (more : ℕ) → HasGoneOn f a b →
    turns_of (f a.machine.now (run_of a)) ≤ turns_of (run_of a) + more →
    length b.entries.items ≤ length a.entries.items + more
few_gone f a b more on few =
    let count = few_on a.machine.now f (entries_of a) (entries_of b) more on.entries few in
    let old = length-map a.entries.items entry_from in
    let new = length-map b.entries.items entry_from in
    omega (arith, count, old, new)

-- A round

abbrev pub turns_below : ℕ → Machine → Run → Run
turns_below n m r = turns_in_order m r (range_with_len 0 n)

pub turn_gone : (a b c : Replay) (cpu : ℕ) → HasGoneOn (turns_below cpu) a b →
    HasGoneOn (after_entry (TurnOf cpu)) b c → HasGoneOn (turns_below (cpu + 1)) a c
turn_gone a b c cpu first second =
    gone_further (turns_below cpu) (after_entry (TurnOf cpu)) (turns_below (cpu + 1)) a b c first second
    (sym (round_more a.machine.now (run_of a) cpu))

pub turns_gone_few : (a b : Replay) (cpu : ℕ) → HasGoneOn (turns_below cpu) a b →
    length b.entries.items ≤ length a.entries.items + cpu
turns_gone_few a b cpu on =
    few_gone (turns_below cpu) a b cpu on (round_few a.machine.now (run_of a) cpu)

-- Ticks

abbrev pub ticks_below : (clock : ℕ) → ℕ → Machine → Run → Run
ticks_below clock n m r = attempts_all m r (map (λ cpu. Ticks cpu clock) (range_with_len 0 n))

pub tick_gone : (a b c : Replay) (clock cpu : ℕ) → HasGoneOn (ticks_below clock cpu) a b →
    HasGoneOn (after_entry (TickTo cpu clock)) b c → HasGoneOn (ticks_below clock (cpu + 1)) a c
tick_gone a b c clock cpu first second =
    gone_further (ticks_below clock cpu) (after_entry (TickTo cpu clock)) (ticks_below clock (cpu + 1))
    a b c first second (sym (tick_more a.machine.now (run_of a) clock cpu))

pub ticks_gone_few : (a b : Replay) (clock cpu : ℕ) → HasGoneOn (ticks_below clock cpu) a b →
    length b.entries.items ≤ length a.entries.items + cpu
ticks_gone_few a b clock cpu on =
    few_gone (ticks_below clock cpu) a b cpu on (ticks_few a.machine.now (run_of a) clock cpu)

-- Deadlines

pub deadline_more : (ds : List (Option ℕ)) (d : Option ℕ) →
    earliest_of (ds ++ d ∷ []) ≡ earliest (earliest_of ds) d
deadline_more [] None = refl
deadline_more [] (Some d) = refl
deadline_more (x ∷ ds) d =
    ap (earliest x) (deadline_more ds d) ∙ sym (deadline_assoc x (earliest_of ds) d)

pub deadline_next : (g : System) (cpu : ℕ) (first own : Option ℕ) →
    first ≡ earliest_of (map (least_deadline g) (range_with_len 0 cpu)) → own ≡ least_deadline g cpu →
    earliest first own ≡ earliest_of (map (least_deadline g) (range_with_len 0 (cpu + 1)))
deadline_next g cpu first own so_far is =
    ap₂ earliest so_far is
    ∙ sym (deadline_more (map (least_deadline g) (range_with_len 0 cpu)) (least_deadline g cpu))
    ∙ sym (ap earliest_of (map-range_with_len_more (least_deadline g) 0 cpu cpu (omega arith)))

-- Of a processor
pub deadline_own : (m : Machine) (g : System) (cpu : ℕ) (p : Processor) → IsProcessorOf m g cpu p →
    least_deadline g cpu ≡ option_map (λ e. e.0) (slice_get p.local.lists.armed 0)
deadline_own m g cpu p is =
    ap (λ (o : Option Local). o >>= λ l. option_map (λ e. e.0) (slice_get l.lists.armed 0)) is.local

-- Rounds

-- The turns that a run of so many more has at most.
abbrev pub most_of : Replay → (turns : ℕ) → ℕ
most_of a turns = turns_of (run_of a) + turns

pub record IsGoing (a : Replay) (turns left : ℕ) (b : Replay) : Type 0 where
  pub on : HasGoneOn (λ m r. run_of b) a b
  pub rest : rounds a.machine.now (most_of a turns) turns (run_of a)
      ≡ rounds a.machine.now (most_of a turns) left (run_of b)
  pub few : length b.entries.items ≤ length a.entries.items + turns

-- A round more
round_on : (a b c : Replay) → HasGoneOn (λ m r. run_of b) a b → HasGoneOn next_round b c →
    HasGoneOn (λ m r. run_of c) a c
round_on a b c on next =
    gone_further (λ m r. run_of b) next_round (λ m r. run_of c) a b c on next
    (ap (λ (m : Bor Machine). next_round m.now (run_of b)) (sym on.machine)
    ∙ sym (run_then next_round b c next))

next_here : (a b c : Replay) → HasGoneOn (λ m r. run_of b) a b → HasGoneOn next_round b c →
    next_round a.machine.now (run_of b) ≡ run_of c
next_here a b c on next =
    ap (λ (m : Bor Machine). next_round m.now (run_of b)) (sym on.machine)
    ∙ sym (run_then next_round b c next)

pub going_on : (a b c : Replay) (turns left : ℕ) → IsGoing a turns (suc left) b →
    HasGoneOn next_round b c → b.walk.events < c.walk.events →
    c.walk.events < most_of a turns → IsGoing a turns left c
going_on a b c turns left is next more under =
    let same = next_here a b c is.on next in
    let before = events_are b.machine.now (entries_of b) b.walk is.on.replay in
    let after = events_are c.machine.now (entries_of c) c.walk next.replay in
    let count = ap turns_of same in
    let on = round_on a b c is.on next in
    record {
      on = on;
      rest = is.rest
          ∙ goes_further a.machine.now (most_of a turns) left (run_of b)
          (omega (arith, before, after, count, more)) (omega (arith, after, count, under))
          ∙ ap (rounds a.machine.now (most_of a turns) left) same;
      few = few_gone (λ m r. run_of c) a c turns on (omega (arith, after, under));
    }

pub going_ended : (a b c : Replay) (turns left : ℕ) → IsGoing a turns (suc left) b →
    HasGoneOn next_round b c →
    (c.walk.events ≤ b.walk.events) ⊎ (most_of a turns ≤ c.walk.events) →
    HasGoneOn (in_rounds turns) a c
going_ended a b c turns left is next over =
    gone_as (λ m r. run_of c) (in_rounds turns) a c (round_on a b c is.on next)
    (sym (is.rest ∙ by over ∙ same))
  where
    same : next_round a.machine.now (run_of b) ≡ run_of c
    same = next_here a b c is.on next

    after : c.walk.events ≡ turns_of (run_of c)
    after = events_are c.machine.now (entries_of c) c.walk next.replay

    by : (c.walk.events ≤ b.walk.events) ⊎ (most_of a turns ≤ c.walk.events) →
        rounds a.machine.now (most_of a turns) (suc left) (run_of b)
        ≡ next_round a.machine.now (run_of b)
    by (inl still) =
        let before = events_are b.machine.now (entries_of b) b.walk is.on.replay in
        let count = ap turns_of same in
        let last = after in
        ends_still a.machine.now (most_of a turns) left (run_of b)
        (omega (arith, before, last, count, still))
    by (inr used) =
        let count = ap turns_of same in
        let last = after in
        ends_used a.machine.now (most_of a turns) left (run_of b) (omega (arith, last, count, used))
