-- In states that differ in numbers and clocks the same can happen, clocks going on by as much.
use Rattle.std.proofs.Common.{◌≡◌, ℕ, ◌-◌, ◌<◌, Bool, true, false, Option, Some, None, map, refl, ap, sym, ◌∙◌, arith}
use Rattle.std.specs.Prelude.{nat_lt, slice_get}
use Rattle.std.specs.Option.{option_map}
use Rattle.std.proofs.lemmas.Bool.{lt-ltb, ltb-false, ltb-true}
use Rattle.l4_model.specs.Words.{clock_limit}
use Rattle.l4_model.specs.Machine.{Machine}
use Rattle.l4_model.specs.World.{Phase, Ready, Sending, Receiving, Ordering, Ended, Deleted, Thread}
use Rattle.l4_model.specs.Steps.{Begin, Deliver, Queue, Retarget}
use Rattle.l4_core_model.specs.Plain as plain
use Rattle.l4_core_model.specs.Letters.{Cancelled, DoneLetter, Dropped, Nobody, Refusal, RetargetLetter, SendLetter, TimedOut, WithdrawLetter, refusal_step}
use Rattle.l4_core_model.specs.Local.{Local, armed_for}
use Rattle.l4_core_model.specs.Acts.{Work}
use Rattle.l4_core_model.specs.Turns.{advance, turn}
use Rattle.l4_core_model.specs.Laws.{IsCoreRun}
use Rattle.l4_core_model.specs.Runs.{Happened, Handles, IsMachine, Run, System, Ticks, Turns, happens}
use Rattle.l4_bisimilar.specs.Alike.{unstamped}
use Rattle.l4_bisimilar.proofs.Ways as ways
use Rattle.l4_bisimilar.proofs.Ways.{Renames, Way, bare_thread, same_map, timed_phase}
use Rattle.l4_bisimilar.proofs.Works as works
use Rattle.l4_bisimilar.proofs.Turns as turns
use Rattle.l4_bisimilar.proofs.Systems as systems
use Rattle.l4_bisimilar.proofs.Systems.{AreEvents, AreRead, are_read, each_like, handles_like}
use Rattle.l4_bisimilar.specs.Similar.{numberless_content}
use Rattle.l4_bisimilar.proofs.InRuns.{fits}
use Rattle.l4_bisimilar.proofs.Named.{handle_numbered}
use Rattle.l4_bisimilar.proofs.Numbers as similar
use Rattle.l4_bisimilar.specs.Shifted.{AreShifted, GoOnAlike, IsShifted, ahead, relative_local, relative_step, relative_thread, timeless_phase}
use Rattle.l4_bisimilar.proofs.Armed.{due_block_ahead, rearmed_ahead, ticked_ahead}

-- Counts of sends and clocks are taken for 0, and deadlines for how far they are ahead.

pub refuses : (refusal : Refusal) → Renames (λ n. 0) (λ s. relative_step (refusal_step refusal s))
refuses TimedOut s t e = ap (refusal_step TimedOut) e
refuses Nobody s t e = ap (refusal_step Nobody) e
refuses Cancelled s t e = ap (refusal_step Cancelled) e
refuses Dropped s t e = ap (refusal_step Dropped) e

abbrev pub by_times : Way
by_times = record {
  count = λ n. 0;
  time = λ n. 0;
  ahead = ahead;
  step = relative_step;
  content = numberless_content;
  counted = λ a b e. refl;
  armed = λ period now then i xs ys e same.
      rearmed_ahead period now i xs ∙ ap (λ es. armed_for period 0 i (plain.without_block i es)) same
      ∙ sym (rearmed_ahead period then i ys);
  due = λ now then xs ys e same.
      due_block_ahead now xs ∙ ap (plain.due_block 0) same ∙ sym (due_block_ahead then ys);
  begins = λ s t e. ap Begin e;
  queues = λ s t e. ap Queue e;
  refuses = refuses;
  delivers = λ receiver shown actual tag words s t e. ap (λ n. Deliver n receiver shown actual tag words) e;
  retargets = λ s t e. ap Retarget e;
  sends = λ receiver message zero_timeout s t e. ap (λ n. SendLetter n receiver message zero_timeout) e;
  ends = λ result s t e. ap (λ n. DoneLetter n result) e;
  withdraws = λ receiver cause s t e. ap (λ n. WithdrawLetter n receiver cause) e;
  owes = λ o p e. ap RetargetLetter e;
}

abbrev pub IsLike : Local → Local → Type 0
IsLike l k = works.IsLike by_times l k

abbrev pub AreWorks : Option Work → Option Work → Type 0
AreWorks x y = works.AreWorks by_times x y

-- What a processor knows, without stamp and numbers, and relative to its clock
abbrev pub bare_local : Local → Local
bare_local l = unstamped (relative_local l)

reads : (l : Local) → ways.bare_local by_times l ≡ bare_local l
reads l = λ j. record (bare_local l) { threads = same_map (bare_thread by_times) relative_thread thread l.threads j }
  where
    phase : (p : Phase) → timed_phase (λ n. 0) p ≡ timeless_phase p
    phase Ready = refl
    phase Sending = refl
    phase (Receiving receive since) = refl
    phase Ordering = refl
    phase Ended = refl
    phase Deleted = refl

    thread : (t : Thread) → bare_thread by_times t ≡ relative_thread t
    thread t = λ j. record (relative_thread t) { phase = phase t.phase j }

abbrev pub AreBare : System → System → Type 0
AreBare g h = AreRead bare_local numberless_content g h

pub are_like : (l k : Local) → bare_local l ≡ bare_local k → IsLike l k
are_like l k e = are_read by_times bare_local reads l k e

pub same_local : (g h : System) (cpu : ℕ) → AreBare g h →
    option_map bare_local (slice_get g.locals cpu) ≡ option_map bare_local (slice_get h.locals cpu)
same_local g h cpu p = systems.same_local by_times bare_local reads g h cpu p

pub are_bare : (g h : System) → IsShifted g h → AreBare g h
are_bare g h s = similar.are_read relative_local g h s

pub are_shifted : (g h : System) → AreBare g h → IsShifted g h
are_shifted g h p = similar.are_taken relative_local g h p

pub turn_like : (m : Machine) (cpu : ℕ) (l k : Local) → IsLike l k → AreWorks (turn m cpu l) (turn m cpu k)
turn_like m cpu l k like = turns.turn_like by_times m cpu l k like

-- Clocks go on by as much, below the limit.

same_lt : (a b c d : ℕ) → b - a ≡ d - c → nat_lt a b ≡ nat_lt c d
same_lt a b c d e = by (nat_lt a b) (nat_lt c d) refl refl
  where
    by : (x y : Bool) → nat_lt a b ≡ x → nat_lt c d ≡ y → x ≡ y
    by true true p q = refl
    by false false p q = refl
    by true false p q = absurd (omega (arith, e, ltb-true a b p, ltb-false c d q))
    by false true p q = absurd (omega (arith, e, ltb-false a b p, ltb-true c d q))

advance_like : (m : Machine) (cpu to then : ℕ) (l k : Local) → IsLike l k → to - l.clock ≡ then - k.clock →
    to < clock_limit → then < clock_limit → AreWorks (advance m cpu to l) (advance m cpu then k)
advance_like m cpu to then l k like as_much low lower =
    turns.advance_like by_times m cpu to then l k like (same_lt l.clock to k.clock then as_much)
    (lt-ltb to clock_limit low ∙ sym (lt-ltb then clock_limit lower)) refl refl λ later.
    ticked_ahead l.clock to l.lists.armed (omega (arith, ltb-true l.clock to later))
    ∙ (λ j. map (ahead (as_much j)) (like.armed j))
    ∙ sym (ticked_ahead k.clock then k.lists.armed (omega (arith, as_much, ltb-true l.clock to later)))

-- What happens

shifted : (o p : Option Happened) → AreEvents by_times bare_local o p → AreShifted o p
shifted None None e = tt
shifted (Some a) (Some b) e =
    record { cpu = e.cpu; steps = e.steps; system = are_shifted a.system b.system e.system }
shifted None (Some b) e = e
shifted (Some a) None e = e

pub handles_shifted : (m : Machine) (r s : Run) (cpu from : ℕ) → IsMachine m → IsCoreRun m r →
    IsCoreRun m s → IsShifted r.system s.system →
    AreShifted (happens m r.system (Handles cpu from)) (happens m s.system (Handles cpu from))
handles_shifted m r s cpu from machine core other both =
    shifted _ _ (handles_like by_times bare_local reads m r.system s.system cpu from
    (are_bare r.system s.system both)
    λ l n a b at_l at_n first second same like. handle_numbered by_times m cpu l n like a b same (λ i j. refl)
    (fits m r cpu from a l machine core at_l first) (fits m s cpu from b n machine other at_n second))

pub turns_shifted : (m : Machine) (g h : System) (cpu : ℕ) → IsShifted g h →
    AreShifted (happens m g (Turns cpu)) (happens m h (Turns cpu))
turns_shifted m g h cpu both =
    shifted _ _ (each_like by_times bare_local reads g h cpu (turn m cpu) (turn m cpu) (are_bare g h both)
    λ l n at_l at_n like. turn_like m cpu l n like)

pub ticks_shifted : (m : Machine) (g h : System) (cpu to then : ℕ) → IsShifted g h →
    GoOnAlike g h cpu to then →
    AreShifted (happens m g (Ticks cpu to)) (happens m h (Ticks cpu then))
ticks_shifted m g h cpu to then both far =
    shifted _ _ (each_like by_times bare_local reads g h cpu (advance m cpu to) (advance m cpu then)
    (are_bare g h both)
    λ l n at_l at_n like. advance_like m cpu to then l n like (far.by l n at_l at_n) far.first far.second)
