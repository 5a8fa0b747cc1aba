-- Rounds and ticks, entry by entry.
use Rattle.std.proofs.Common.{◌≡◌, ℕ, zero, suc, ◌+◌, ◌<◌, ◌≤◌, Bool, true, false, cond, ◌&&◌, Option, Some, None, List, [], ◌∷◌, ◌++◌, length, map, inl, inr, refl, ap, ◌∙◌, arith, length-append}
use Rattle.std.specs.Prelude.{◌⊎◌, nat_le, nat_lt, slice_get}
use Rattle.std.specs.List.{range_with_len}
use Rattle.std.specs.Option.{option_map}
use Rattle.std.proofs.lemmas.Bool.Decides.{nat_tests}
use Rattle.std.proofs.lemmas.List.FromFn.{length-range_with_len, length-map-range_with_len}
use Rattle.l4_model.specs.Machine.{Machine}
use Rattle.l4_model.specs.Words.{clock_limit}
use Rattle.l4_model.specs.Conditions.{◌>>=◌}
use Rattle.l4_core_model.specs.Local.{Local}
use Rattle.l4_core_model.specs.Turns.{advance}
use Rattle.l4_core_model.specs.Runs.{Action, Ticks, Happened, done, happens, processors, Run}
use Rattle.l4_core_model.specs.Schedules.{or_stays, attempts, attempts_all, next_turn, turns_in_order, round, ticks, ticks_to, earliest_deadline, turns_of, has_gone_on, round_or_ticks, rounds}
use Rattle.l4_core_model.specs.Schedules.{Entry, TurnOf, TickTo, entry_event, replays}
use Rattle.l4_replay.specs.Entries.{after_entry, first_stranger, is_entry}
use Rattle.l4_rounds.specs.ThenRest.{in_rounds}

-- An event more, or none

stays_or_more : (r : Run) (o : Option Happened) → turns_of (or_stays r o) ≤ turns_of r + 1
stays_or_more r None = omega arith
stays_or_more r (Some h) = let longer = length-append r.events (h.event ∷ []) in omega arith

no_more_stays : (r : Run) (o : Option Happened) → turns_of (or_stays r o) ≤ turns_of r → or_stays r o ≡ r
no_more_stays r None few = refl
no_more_stays r (Some h) few =
    let longer = length-append r.events (h.event ∷ []) in absurd (omega (arith, few, longer))

pub one_more : (m : Machine) (r : Run) (e : Entry) → turns_of (after_entry e m r) ≤ turns_of r + 1
one_more m r e = stays_or_more r (entry_event m r.system e >>= happens m r.system)

-- Without an event nothing has changed.
pub unchanged : (m : Machine) (r : Run) (e : Entry) → turns_of (after_entry e m r) ≤ turns_of r →
    after_entry e m r ≡ r
unchanged m r e few = no_more_stays r (entry_event m r.system e >>= happens m r.system) few

-- Entry by entry

pub replays_more : (m : Machine) (r : Run) (es : List Entry) (e : Entry) →
    replays m r (es ++ e ∷ []) ≡ after_entry e m (replays m r es)
replays_more m r [] e = refl
replays_more m r (x ∷ es) e = replays_more m (after_entry x m r) es e

pub replays_few : (m : Machine) (r : Run) (es : List Entry) →
    turns_of (replays m r es) ≤ turns_of r + length es
replays_few m r [] = omega arith
replays_few m r (e ∷ es) =
    let more = one_more m r e in
    let rest = replays_few m (after_entry e m r) es in
    omega (arith, more, rest)

pub lawful_more : (m : Machine) (place : ℕ) (es : List Entry) (e : Entry) →
    first_stranger m place es ≡ None → is_entry m e ≡ true →
    first_stranger m place (es ++ e ∷ []) ≡ None
lawful_more m place [] e lawful is = ap (λ b. cond b None (Some place)) is
lawful_more m place (x ∷ es) e lawful is =
    by (is_entry m x) lawful (λ h. lawful_more m (place + 1) es e h is)
  where
    by : (b : Bool) → cond b (first_stranger m (place + 1) es) (Some place) ≡ None →
        (first_stranger m (place + 1) es ≡ None →
        first_stranger m (place + 1) (es ++ e ∷ []) ≡ None) →
        cond b (first_stranger m (place + 1) (es ++ e ∷ [])) (Some place) ≡ None
    by true h rest = rest h
    by false h rest = cc

-- A round

turns_more : (m : Machine) (cpus : List ℕ) (r : Run) (cpu : ℕ) →
    turns_in_order m r (cpus ++ cpu ∷ []) ≡ after_entry (TurnOf cpu) m (turns_in_order m r cpus)
turns_more m [] r cpu = refl
turns_more m (x ∷ cpus) r cpu = turns_more m cpus (attempts m r (next_turn m r.system x)) cpu

range_more_at : (a n : ℕ) → range_with_len a (suc n) ≡ range_with_len a n ++ (a + n) ∷ []
range_more_at a zero = let same : a ≡ a + 0 = omega arith in ap (λ k. k ∷ []) same
range_more_at a (suc n) =
    let same : a + 1 + n ≡ a + suc n = omega arith in
    ap (λ xs. a ∷ xs) (range_more_at (a + 1) n
    ∙ ap (λ k. range_with_len (a + 1) n ++ k ∷ []) same)

range_more : (n : ℕ) → range_with_len 0 (n + 1) ≡ range_with_len 0 n ++ n ∷ []
range_more n =
    let next : n + 1 ≡ suc n = omega arith in
    let same : 0 + n ≡ n = omega arith in
    ap (range_with_len 0) next ∙ range_more_at 0 n ∙ ap (λ k. range_with_len 0 n ++ k ∷ []) same

pub round_more : (m : Machine) (r : Run) (cpu : ℕ) →
    turns_in_order m r (range_with_len 0 (cpu + 1))
    ≡ after_entry (TurnOf cpu) m (turns_in_order m r (range_with_len 0 cpu))
round_more m r cpu =
    ap (turns_in_order m r) (range_more cpu) ∙ turns_more m (range_with_len 0 cpu) r cpu

turns_few : (m : Machine) (cpus : List ℕ) (r : Run) →
    turns_of (turns_in_order m r cpus) ≤ turns_of r + length cpus
turns_few m [] r = omega arith
turns_few m (cpu ∷ cpus) r =
    let more = one_more m r (TurnOf cpu) in
    let rest = turns_few m cpus (after_entry (TurnOf cpu) m r) in
    omega (arith, more, rest)

pub round_few : (m : Machine) (r : Run) (cpu : ℕ) →
    turns_of (turns_in_order m r (range_with_len 0 cpu)) ≤ turns_of r + cpu
round_few m r cpu =
    let few = turns_few m (range_with_len 0 cpu) r in
    let size = length-range_with_len 0 cpu in
    omega (arith, few, size)

-- Ticks

ticks_more : (m : Machine) (clock : ℕ) (cpus : List ℕ) (r : Run) (cpu : ℕ) →
    attempts_all m r (map (λ cpu. Ticks cpu clock) (cpus ++ cpu ∷ []))
    ≡ after_entry (TickTo cpu clock) m (attempts_all m r (map (λ cpu. Ticks cpu clock) cpus))
ticks_more m clock [] r cpu = refl
ticks_more m clock (x ∷ cpus) r cpu = ticks_more m clock cpus (attempts m r (Ticks x clock)) cpu

pub tick_more : (m : Machine) (r : Run) (clock cpu : ℕ) →
    attempts_all m r (map (λ cpu. Ticks cpu clock) (range_with_len 0 (cpu + 1)))
    ≡ after_entry (TickTo cpu clock) m
    (attempts_all m r (map (λ cpu. Ticks cpu clock) (range_with_len 0 cpu)))
tick_more m r clock cpu =
    ap (λ cpus. attempts_all m r (map (λ cpu. Ticks cpu clock) cpus)) (range_more cpu)
    ∙ ticks_more m clock (range_with_len 0 cpu) r cpu

all_few : (m : Machine) (es : List Action) (r : Run) →
    turns_of (attempts_all m r es) ≤ turns_of r + length es
all_few m [] r = omega arith
all_few m (e ∷ es) r =
    let more = stays_or_more r (happens m r.system e) in
    let rest = all_few m es (attempts m r e) in
    omega (arith, more, rest)

pub ticks_few : (m : Machine) (r : Run) (clock cpu : ℕ) →
    turns_of (attempts_all m r (map (λ cpu. Ticks cpu clock) (range_with_len 0 cpu)))
    ≤ turns_of r + cpu
ticks_few m r clock cpu =
    let few = all_few m (map (λ cpu. Ticks cpu clock) (range_with_len 0 cpu)) r in
    let size = length-map-range_with_len (λ cpu. Ticks cpu clock) 0 cpu in
    omega (arith, few, size)

-- No clock goes on to 0, or to a value that is too high.

no_advance : (m : Machine) (cpu clock : ℕ) (l : Local) → (clock ≡ 0) ⊎ (clock_limit ≤ clock) →
    advance m cpu clock l ≡ None
no_advance m cpu clock l out = by (nat_lt l.clock clock) (nat_lt clock clock_limit) refl refl out
  where
    by : (b c : Bool) → nat_lt l.clock clock ≡ b → nat_lt clock clock_limit ≡ c →
        (clock ≡ 0) ⊎ (clock_limit ≤ clock) → advance m cpu clock l ≡ None
    by false c e f out = rw e refl
    by true false e f out = rw (e, f) refl
    by true true e f (inl low) = absurd (grind (arith, nat_tests, e, low))
    by true true e f (inr high) = absurd (grind (arith, nat_tests, f, high))

no_tick : (m : Machine) (r : Run) (cpu clock : ℕ) → (clock ≡ 0) ⊎ (clock_limit ≤ clock) →
    attempts m r (Ticks cpu clock) ≡ r
no_tick m r cpu clock out = ap (or_stays r) (by (slice_get r.system.locals cpu))
  where
    by : (o : Option Local) →
        (o >>= λ l. option_map (done cpu r.system) (advance m cpu clock l)) ≡ None
    by None = refl
    by (Some l) = ap (option_map (done cpu r.system)) (no_advance m cpu clock l out)

no_ticks : (m : Machine) (r : Run) (clock : ℕ) (cpus : List ℕ) →
    (clock ≡ 0) ⊎ (clock_limit ≤ clock) →
    attempts_all m r (map (λ cpu. Ticks cpu clock) cpus) ≡ r
no_ticks m r clock [] out = refl
no_ticks m r clock (cpu ∷ cpus) out =
    ap (λ q. attempts_all m q (map (λ cpu. Ticks cpu clock) cpus)) (no_tick m r cpu clock out)
    ∙ no_ticks m r clock cpus out

pub not_ahead : (clock : ℕ) → (nat_lt 0 clock && nat_lt clock clock_limit) ≡ false →
    (clock ≡ 0) ⊎ (clock_limit ≤ clock)
not_ahead clock is = by (nat_lt 0 clock) (nat_lt clock clock_limit) refl refl is
  where
    by : (b c : Bool) → nat_lt 0 clock ≡ b → nat_lt clock clock_limit ≡ c → (b && c) ≡ false →
        (clock ≡ 0) ⊎ (clock_limit ≤ clock)
    by false c e f is = inl (grind (arith, nat_tests, e))
    by true false e f is = inr (grind (arith, nat_tests, f))
    by true true e f is = cc

pub unticked : (m : Machine) (r : Run) (clock : ℕ) → earliest_deadline m r.system ≡ Some clock →
    (clock ≡ 0) ⊎ (clock_limit ≤ clock) → ticks m r ≡ r
unticked m r clock is out = ap (ticks_to m r) is ∙ no_ticks m r clock (processors m) out

ticks_at_most : (m : Machine) (r : Run) → turns_of (ticks m r) ≤ turns_of r + m.cpus
ticks_at_most m r = by (earliest_deadline m r.system)
  where
    by : (o : Option ℕ) → turns_of (ticks_to m r o) ≤ turns_of r + m.cpus
    by None = omega arith
    by (Some clock) = ticks_few m r clock m.cpus

-- A round, or the ticks

abbrev pub next_round : Machine → Run → Run
next_round m r = round_or_ticks m r (round m r)

next_few : (m : Machine) (r : Run) → turns_of (next_round m r) ≤ turns_of r + m.cpus
next_few m r = by (has_gone_on r (round m r)) refl
  where
    by : (b : Bool) → has_gone_on r (round m r) ≡ b →
        turns_of (cond b (round m r) (ticks m (round m r))) ≤ turns_of r + m.cpus
    by true e = round_few m r m.cpus
    by false e =
        let still : turns_of (round m r) ≤ turns_of r = grind (arith, nat_tests, e) in
        let few = ticks_at_most m (round m r) in
        omega (arith, still, few)

-- Rounds

pub ends_still : (m : Machine) (most left : ℕ) (r : Run) → turns_of (next_round m r) ≤ turns_of r →
    rounds m most (suc left) r ≡ next_round m r
ends_still m most left r few =
    let test : has_gone_on r (next_round m r) ≡ false = grind (arith, nat_tests, few) in
    ap (λ b. cond b (cond (nat_le most (turns_of (next_round m r))) (next_round m r)
    (rounds m most left (next_round m r))) (next_round m r)) test

pub ends_used : (m : Machine) (most left : ℕ) (r : Run) → most ≤ turns_of (next_round m r) →
    rounds m most (suc left) r ≡ next_round m r
ends_used m most left r used =
    let test : nat_le most (turns_of (next_round m r)) ≡ true = grind (arith, nat_tests, used) in
    ap (λ b. cond (has_gone_on r (next_round m r)) (cond b (next_round m r)
    (rounds m most left (next_round m r))) (next_round m r)) test
    ∙ by (has_gone_on r (next_round m r))
  where
    by : (b : Bool) → cond b (next_round m r) (next_round m r) ≡ next_round m r
    by true = refl
    by false = refl

pub goes_further : (m : Machine) (most left : ℕ) (r : Run) → turns_of r < turns_of (next_round m r) →
    turns_of (next_round m r) < most →
    rounds m most (suc left) r ≡ rounds m most left (next_round m r)
goes_further m most left r more under =
    let on : has_gone_on r (next_round m r) ≡ true = grind (arith, nat_tests, more) in
    let test : nat_le most (turns_of (next_round m r)) ≡ false = grind (arith, nat_tests, under) in
    let further : Run = rounds m most left (next_round m r) in
    ap (λ b. cond b (cond (nat_le most (turns_of (next_round m r))) (next_round m r) further)
    (next_round m r)) on
    ∙ ap (λ b. cond b (next_round m r) further) test

rounds_few : (m : Machine) (most left : ℕ) (r : Run) → 1 ≤ m.cpus → turns_of r < most →
    turns_of (rounds m most left r) < most + m.cpus
rounds_few m most zero r some under = omega (arith, under)
rounds_few m most (suc left) r some under =
    by (has_gone_on r after) (nat_le most (turns_of after)) refl refl
    (λ more. rounds_few m most left after some more)
  where
    after : Run
    after = next_round m r

    by : (b c : Bool) → has_gone_on r after ≡ b → nat_le most (turns_of after) ≡ c →
        (turns_of after < most → turns_of (rounds m most left after) < most + m.cpus) →
        turns_of (cond b (cond c after (rounds m most left after)) after) < most + m.cpus
    by true true e f more = let few = next_few m r in omega (arith, few, under)
    by true false e f more = more (grind (arith, nat_tests, f))
    by false c e f more = let few = next_few m r in omega (arith, few, under)

pub rest_few : (m : Machine) (turns : ℕ) (r : Run) → 1 ≤ m.cpus → 0 < turns →
    turns_of (in_rounds turns m r) < turns_of r + turns + m.cpus
rest_few m turns r some asked =
    rounds_few m (turns_of r + turns) turns r some (omega (arith, asked))
