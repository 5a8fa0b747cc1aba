-- What one more entry makes of a replay, and which beginnings of a session are sessions.
use Rattle.std.proofs.Common.{◌≡◌, ℕ, ◌+◌, ◌-◌, ◌<◌, ◌≤◌, Bool, true, false, cond, Option, Some, None, List, [], ◌∷◌, ◌++◌, length, take, drop, refl, ap, sym, subst, ◌∙◌, arith, append-nil, append_assoc, length-append}
use Rattle.std.proofs.Math.Seq.{drop-append_seam}
use Rattle.std.specs.Prelude.{codes, decimal, is_some, nat_le, nat_lt}
use Rattle.std.specs.Option.{option_map}
use Rattle.std.proofs.lemmas.Bool.Decides.{nat_tests}
use Rattle.std.proofs.lemmas.List.{take-append-drop}
use Rattle.l4_model.specs.Machine.{Machine}
use Rattle.l4_model.specs.Steps.{Step}
use Rattle.l4_model.specs.Conditions.{◌>>=◌}
use Rattle.l4_core_model.specs.Runs.{Happened, Run, happens, opening_run, told}
use Rattle.l4_core_model.specs.Schedules.{or_stays, Entry, entry_event, replay_entries, replays, turns_of}
use Rattle.l4_core_model.proofs.Telling.{told-last}
use Rattle.l4_replay.specs.declared.fault.RunFault.TheVariants.{Turns, Schedule as RunSchedule}
use Rattle.l4_replay.specs.Entries.{after_entry, entries_fault, fault_of, first_stranger, is_entry, most_entries, most_events}
use Rattle.l4_next.specs.Nexts.{Next}
use Rattle.l4_rounds.proofs.Faults.{no_fault}
use Rattle.l4_rounds.proofs.Rounds.{lawful_more, replays_few, replays_more}
use Rattle.l4_schedules.specs.Items.{item_of}
use Rattle.l4_trace.specs.Lines.{trace_of}
use Rattle.l4_steps.specs.Possible.{choice_text, next_behind, steps_in}
use Rattle.l4_steps.specs.Replies.{did_text, does, does_possible, few_text, goes_back, moves, tells}
use Rattle.l4_steps.specs.Sessions.{IsSession}
use Rattle.l4_steps.specs.declared.replies.TheConstants.{NOT_POSSIBLE, TOO_MANY}

-- What happens by an entry

abbrev happened : Machine → Run → Entry → Option Happened
happened m r e = entry_event m r.system e >>= happens m r.system

abbrev next_of : Entry → Happened → Next
next_of e h = record { entry = e; steps = h.event.steps }

-- The steps of an entry are told behind those before it.
told_more : (m : Machine) (es : List Entry) (e : Entry) →
    told (replay_entries m (es ++ e ∷ [])).events ≡ told (replay_entries m es).events ++ steps_in (next_behind m es e)
told_more m es e =
    ap (λ (s : Run). told s.events) (replays_more m (opening_run m) es e) ∙ by (happened m r e)
  where
    r : Run
    r = replay_entries m es

    by : (o : Option Happened) → told (or_stays r o).events ≡ told r.events ++ steps_in (option_map (next_of e) o)
    by None = sym (append-nil (told r.events))
    by (Some h) = told-last r.events h.event

pub more_steps : (m : Machine) (es : List Entry) (e : Entry) (before after : List Step) → before ≡ told (replay_entries m es).events →
    after ≡ told (replay_entries m (es ++ e ∷ [])).events → drop (length before) after ≡ steps_in (next_behind m es e)
more_steps m es e before after is more =
    ap (drop (length before)) (more ∙ told_more m es e ∙ ap (λ steps. steps ++ steps_in (next_behind m es e)) (sym is))
    ∙ drop-append_seam before (steps_in (next_behind m es e))

-- There is an event more exactly where the entry is possible.
turns_more : (m : Machine) (es : List Entry) (e : Entry) →
    turns_of (replay_entries m (es ++ e ∷ [])) ≡ turns_of (replay_entries m es) + cond (is_some (next_behind m es e)) 1 0
turns_more m es e = ap turns_of (replays_more m (opening_run m) es e) ∙ by (happened m r e)
  where
    r : Run
    r = replay_entries m es

    by : (o : Option Happened) → turns_of (or_stays r o) ≡ turns_of r + cond (is_some (option_map (next_of e) o)) 1 0
    by None = omega arith
    by (Some h) = let longer = length-append r.events (h.event ∷ []) in omega (arith, longer)

pub is_done : (m : Machine) (es : List Entry) (e : Entry) (turns : ℕ) → turns_of (replay_entries m es) ≡ length es →
    turns ≡ turns_of (replay_entries m (es ++ e ∷ [])) → nat_lt (length es) turns ≡ is_some (next_behind m es e)
is_done m es e turns done is = by (is_some (next_behind m es e)) (turns_more m es e)
  where
    by : (b : Bool) → turns_of (replay_entries m (es ++ e ∷ [])) ≡ turns_of (replay_entries m es) + cond b 1 0 →
        nat_lt (length es) turns ≡ b
    by true more = grind (arith, nat_tests, more, done, is)
    by false more = grind (arith, nat_tests, more, done, is)

-- Where there is room for an entry more
pub room : (m : Machine) (es : List Entry) (e : Entry) → length es < most_events → first_stranger m 1 es ≡ None → is_entry m e ≡ true →
    entries_fault m (es ++ e ∷ []) ≡ None
room m es e few lawful own =
    let longer = length-append es (e ∷ []) in
    no_fault m (es ++ e ∷ []) (omega (arith, longer, few)) (lawful_more m 1 es e lawful own)

pub within : (m : Machine) (es : List Entry) → IsSession m es → entries_fault m es ≡ None
within m es s = let few = s.few in no_fault m es (omega (arith, few)) s.lawful

pub within_list : (m : Machine) (es : List Entry) → IsSession m es → fault_of most_entries m es ≡ None
within_list m es s =
    let few = s.few in
    let test : nat_lt most_entries (length es) ≡ false = grind (arith, nat_tests, few) in
    ap (λ b. cond b (Some Turns) (option_map RunSchedule (first_stranger m 1 es))) test ∙ ap (option_map RunSchedule) s.lawful

-- A session and a possible entry
pub one_more : (m : Machine) (es : List Entry) (e : Entry) → IsSession m es → is_entry m e ≡ true → length es < most_entries →
    is_some (next_behind m es e) ≡ true → IsSession m (es ++ e ∷ [])
one_more m es e s own few possible =
    let longer = length-append es (e ∷ []) in
    let done = s.done in
    let more : turns_of (replay_entries m (es ++ e ∷ [])) ≡ turns_of (replay_entries m es) + 1 =
    turns_more m es e ∙ ap (λ b. turns_of (replay_entries m es) + cond b 1 0) possible in
    record {
      few = omega (arith, longer, few);
      lawful = lawful_more m 1 es e s.lawful own;
      done = omega (arith, longer, done, more);
    }

-- A beginning of a session

replays_append : (m : Machine) (r : Run) (xs ys : List Entry) → replays m r (xs ++ ys) ≡ replays m (replays m r xs) ys
replays_append m r [] ys = refl
replays_append m r (x ∷ xs) ys = replays_append m (after_entry x m r) xs ys

lawful_front : (m : Machine) (place : ℕ) (xs ys : List Entry) → first_stranger m place (xs ++ ys) ≡ None → first_stranger m place xs ≡ None
lawful_front m place [] ys h = refl
lawful_front m place (x ∷ xs) ys h = by (is_entry m x) h (lawful_front m (place + 1) xs ys)
  where
    by : (b : Bool) → cond b (first_stranger m (place + 1) (xs ++ ys)) (Some place) ≡ None →
        (first_stranger m (place + 1) (xs ++ ys) ≡ None → first_stranger m (place + 1) xs ≡ None) →
        cond b (first_stranger m (place + 1) xs) (Some place) ≡ None
    by true h rest = rest h
    by false h rest = cc

pub front : (m : Machine) (xs ys : List Entry) → IsSession m (xs ++ ys) → IsSession m xs
front m xs ys s =
    let longer = length-append xs ys in
    let few = s.few in
    let whole : turns_of (replays m (replay_entries m xs) ys) ≡ length (xs ++ ys) =
    ap turns_of (sym (replays_append m (opening_run m) xs ys)) ∙ s.done in
    let rest = replays_few m (replay_entries m xs) ys in
    let first = replays_few m (opening_run m) xs in
    let none : turns_of (opening_run m) ≡ 0 = refl in
    record {
      few = omega (arith, longer, few);
      lawful = lawful_front m 1 xs ys s.lawful;
      done = omega (arith, longer, whole, rest, first, none);
    }

pub taken : (m : Machine) (n : ℕ) (es : List Entry) → IsSession m es → IsSession m (take n es)
taken m n es s = front m (take n es) (drop n es) (subst (IsSession m) (sym (take-append-drop n es)) s)

-- Each entry was possible where it stands.
pub was_possible : (m : Machine) (before : List Entry) (e : Entry) (after : List Entry) → IsSession m (before ++ e ∷ after) →
    is_some (next_behind m before e) ≡ true
was_possible m before e after s = by (is_some (next_behind m before e)) (turns_more m before e)
  where
    longer : IsSession m (before ++ e ∷ [])
    longer = front m (before ++ e ∷ []) after (subst (IsSession m) (sym (append_assoc before (e ∷ []) after)) s)

    shorter : IsSession m before
    shorter = front m before (e ∷ []) longer

    by : (b : Bool) → turns_of (replay_entries m (before ++ e ∷ [])) ≡ turns_of (replay_entries m before) + cond b 1 0 → b ≡ true
    by true more = refl
    by false more =
        let size = length-append before (e ∷ []) in
        let one = longer.done in
        let other = shorter.done in
        absurd (omega (arith, more, size, one, other))

-- The item of an entry, and the steps behind those of the shorter replay

joined : (old n d s i l t : List ℕ) → old ++ n ++ d ++ s ++ i ++ l ++ t ≡ old ++ (n ++ d ++ s ++ (i ++ l ++ t))
joined old n d s i l t =
    ap (λ q. q ++ t) (append_assoc (old ++ n ++ d ++ s) i l)
    ∙ append_assoc (old ++ n ++ d ++ s) (i ++ l) t
    ∙ ap (λ q. q ++ (i ++ l ++ t)) (ap (λ q. q ++ s) (append_assoc old n d) ∙ append_assoc old (n ++ d) s)
    ∙ append_assoc old (n ++ d ++ s) (i ++ l ++ t)

pub choice_written : (m : Machine) (es : List Entry) (e : Entry) (number : ℕ) (before after : List Step) (old first second third new : List ℕ) →
    before ≡ told (replay_entries m es).events → after ≡ told (replay_entries m (es ++ e ∷ [])).events →
    first ≡ old ++ codes "next " → second ≡ first ++ decimal number → third ≡ second ++ codes " " →
    new ≡ third ++ item_of e ++ codes "\n" ++ trace_of (drop (length before) after) → new ≡ old ++ choice_text m es number e
choice_written m es e number before after old first second third new is more a b c last =
    last
    ∙ ap (λ steps. third ++ item_of e ++ codes "\n" ++ trace_of steps) (more_steps m es e before after is more)
    ∙ ap (λ xs. xs ++ item_of e ++ codes "\n" ++ trace_of (steps_in (next_behind m es e))) (c ∙ ap (λ xs. xs ++ codes " ") (b ∙ ap (λ xs. xs ++ decimal number) a))
    ∙ joined old (codes "next ") (decimal number) (codes " ") (item_of e) (codes "\n") (trace_of (steps_in (next_behind m es e)))

pub did_written : (m : Machine) (es : List Entry) (e : Entry) (before after : List Step) (old first new : List ℕ) →
    before ≡ told (replay_entries m es).events → after ≡ told (replay_entries m (es ++ e ∷ [])).events →
    old ≡ [] → first ≡ old ++ codes "did " →
    new ≡ first ++ item_of e ++ codes "\n" ++ trace_of (drop (length before) after) → new ≡ did_text m es e
did_written m es e before after old first new is more o a last =
    let steps = trace_of (steps_in (next_behind m es e)) in
    last
    ∙ ap (λ steps. first ++ item_of e ++ codes "\n" ++ trace_of steps) (more_steps m es e before after is more)
    ∙ ap (λ xs. xs ++ item_of e ++ codes "\n" ++ steps) (a ∙ ap (λ xs. xs ++ codes "did ") o)
    ∙ ap (λ q. q ++ steps) (append_assoc (codes "did ") (item_of e) (codes "\n"))
    ∙ append_assoc (codes "did ") (item_of e ++ codes "\n") steps

-- What an entry comes to, by how many events the longer replay has

pub is_refused : (m : Machine) (es : List Entry) (e : Entry) (turns : ℕ) → IsSession m es → length es < most_entries →
    turns ≡ turns_of (replay_entries m (es ++ e ∷ [])) → turns ≤ length es → does m es (Some e) ≡ tells es NOT_POSSIBLE.now
is_refused m es e turns s few is no_more =
    let room : nat_lt (length es) most_entries ≡ true = grind (arith, nat_tests, few) in
    let none : nat_lt (length es) turns ≡ false = grind (arith, nat_tests, no_more) in
    ap (λ b. cond b (does_possible m es e (is_some (next_behind m es e))) (tells es TOO_MANY.now)) room
    ∙ ap (does_possible m es e) (sym (is_done m es e turns s.done is) ∙ none)

pub is_taken : (m : Machine) (es : List Entry) (e : Entry) (turns : ℕ) → IsSession m es → length es < most_entries →
    turns ≡ turns_of (replay_entries m (es ++ e ∷ [])) → length es < turns → does m es (Some e) ≡ moves m (did_text m es e) (es ++ e ∷ [])
is_taken m es e turns s few is more =
    let room : nat_lt (length es) most_entries ≡ true = grind (arith, nat_tests, few) in
    let one : nat_lt (length es) turns ≡ true = grind (arith, nat_tests, more) in
    ap (λ b. cond b (does_possible m es e (is_some (next_behind m es e))) (tells es TOO_MANY.now)) room
    ∙ ap (does_possible m es e) (sym (is_done m es e turns s.done is) ∙ one)

pub is_back : (m : Machine) (es : List Entry) (count : ℕ) → count ≤ length es → goes_back m es count ≡ moves m [] (take (length es - count) es)
is_back m es count few =
    let room : nat_le count (length es) ≡ true = grind (arith, nat_tests, few) in
    ap (λ b. cond b (moves m [] (take (length es - count) es)) (tells es (few_text (length es)))) room
