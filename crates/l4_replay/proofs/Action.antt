-- What a station does is what happens in the core run.
use Rattle.std.proofs.Common.{◌≡◌, ◌≢◌, ℕ, zero, suc, ◌+◌, ◌<◌, ◌≤◌, Bool, true, false, cond, Some, None, List, [], ◌∷◌, ◌++◌, length, refl, ap, ap₂, sym, ◌∙◌, subst, arith}
use Rattle.std.specs.Prelude.{slice_get, ◌==◌}
use Rattle.std.specs.List.{range_with_len}
use Rattle.std.specs.Option.{option_map}
use Rattle.std.proofs.lemmas.Bool.{eqb-true, eqb-false}
use Rattle.std.proofs.lemmas.Option.{slice_get-map}
use Rattle.l4_model.specs.Machine.{Machine}
use Rattle.l4_model.specs.World.{changed}
use Rattle.l4_model.proofs.Chains.{get-changed_same}
use Rattle.l4_core_model.specs.Letters.{Letter}
use Rattle.l4_core_model.specs.Local.{Local}
use Rattle.l4_core_model.specs.Acts.{Work}
use Rattle.l4_core_model.specs.Turns.{turn, advance}
use Rattle.l4_core_model.specs.Mail.{handle}
use Rattle.l4_core_model.specs.Runs.{System, letters, taken, Action, Handles, Turns, Ticks, Happened, done, happens, Run, then_event, core_run, opening_run, is_empty, IsMachine}
use Rattle.l4_core_model.specs.Schedules.{first_poster, turn_of, next_turn}
use Rattle.l4_core_model.specs.Laws.{IsCoreRun}
use Rattle.l4_refines.specs.Laws.{IsLawfulRun}
use Rattle.l4_merge.specs.Transitions.{LocalEvent, Handled, Turned, Ticked, work_of}
use Rattle.l4_merge.proofs.CoreRuns.{core_run-append}
use Rattle.l4_replay.specs.Stations.{Station, letters_from, without_letter, HasNoMail, IsFirstPoster}
use Rattle.l4_replay.specs.UnderWay.{letters_at, IsSystem}
use Rattle.l4_replay.proofs.Systems.{taken_system, IsSame}

-- The laws of core runs, as they are called.
abbrev pub AllLawful : Type 0
AllLawful = (m : Machine) (r : Run) → IsMachine m → IsCoreRun m r → IsLawfulRun m r

-- Where a station stands

pub local_at : (m : Machine) (g : System) (ss : List Station) (cpu : ℕ) (s : Station) → IsSystem m g ss → slice_get ss cpu ≡ Some s → slice_get g.locals cpu ≡ Some s.core.local
local_at m g ss cpu s i at = ap (λ ls. slice_get ls cpu) i.locals ∙ slice_get-map (λ (s : Station). s.core.local) ss cpu ∙ ap (option_map (λ (s : Station). s.core.local)) at

pub letters_here : (m : Machine) (g : System) (ss : List Station) (from cpu : ℕ) (s : Station) → IsSystem m g ss → slice_get ss cpu ≡ Some s → letters g.mail from cpu ≡ letters_from from s
letters_here m g ss from cpu s i at = i.mail from cpu ∙ ap (letters_at from) at

-- The lowest poster

no_poster : (g : System) (cpu start n : ℕ) → ((q : ℕ) → letters g.mail q cpu ≡ []) → first_poster g cpu (range_with_len start n) ≡ None
no_poster g cpu start zero none = refl
no_poster g cpu start (suc n) none =
    ap (λ ls. cond (is_empty ls) (first_poster g cpu (range_with_len (start + 1) n)) (Some start)) (none start) ∙ no_poster g cpu (start + 1) n none

some_poster : (g : System) (cpu from start n : ℕ) → start ≤ from → from < start + n → is_empty (letters g.mail from cpu) ≡ false → ((q : ℕ) → q < from → letters g.mail q cpu ≡ []) →
    first_poster g cpu (range_with_len start n) ≡ Some from
some_poster g cpu from start zero least within filled none = absurd (omega arith)
some_poster g cpu from start (suc n) least within filled none = by (start == from) refl (λ lt. some_poster g cpu from (start + 1) n lt (omega arith) filled none)
  where
    here : (q : ℕ) → q ≡ from → cond (is_empty (letters g.mail q cpu)) (first_poster g cpu (range_with_len (start + 1) n)) (Some q) ≡ Some from
    here q same =
        subst (λ q. cond (is_empty (letters g.mail q cpu)) (first_poster g cpu (range_with_len (start + 1) n)) (Some q) ≡ Some from) (sym same)
        (ap (λ b. cond b (first_poster g cpu (range_with_len (start + 1) n)) (Some from)) filled)

    by : (b : Bool) → (start == from) ≡ b → (start + 1 ≤ from → first_poster g cpu (range_with_len (start + 1) n) ≡ Some from) →
        first_poster g cpu (range_with_len start (suc n)) ≡ Some from
    by true e more = here start (eqb-true start from e)
    by false e more =
        let ne : start ≢ from = eqb-false start from e in
        let lt : start < from = omega arith in
        ap (λ ls. cond (is_empty ls) (first_poster g cpu (range_with_len (start + 1) n)) (Some start)) (none start lt) ∙ more (omega arith)

pub next_is_own : (m : Machine) (g : System) (ss : List Station) (cpu : ℕ) (s : Station) → IsSystem m g ss → slice_get ss cpu ≡ Some s → HasNoMail s → next_turn m g cpu ≡ Turns cpu
next_is_own m g ss cpu s i at none = ap (turn_of cpu) (no_poster g cpu 0 m.cpus (λ q. letters_here m g ss q cpu s i at ∙ none q))

pub next_is_mail : (m : Machine) (g : System) (ss : List Station) (cpu from : ℕ) (s : Station) → IsSystem m g ss → slice_get ss cpu ≡ Some s → IsFirstPoster s from →
    next_turn m g cpu ≡ Handles cpu from
next_is_mail m g ss cpu from s i at p =
    let size = (i.each cpu s at).inbox in
    let within = p.within in
    ap (turn_of cpu) (some_poster g cpu from 0 m.cpus (omega arith) (omega arith) (ap is_empty (letters_here m g ss from cpu s i at) ∙ p.filled) (λ q lt. letters_here m g ss q cpu s i at ∙ p.lowest q lt))

-- What a station did is what happens

pub record Happens (m : Machine) (g : System) (e : Action) (cpu : ℕ) (ss : List Station) (new : Station) (x : Work) : Type 0 where
  -- all processors, less the letter that is handled
  pub before : System
  pub stations : List Station
  pub old : Station
  pub is : happens m g e ≡ Some (done cpu before x)
  pub local : Local
  pub event : LocalEvent
  pub does : work_of m cpu local event ≡ Some x
  pub system : IsSystem m before stations
  pub at : slice_get stations cpu ≡ Some old
  pub same : IsSame old new x.local
  pub written : changed (λ s. new) stations cpu ≡ changed (λ s. new) ss cpu

changed_twice : {A : Type 0} (f : A → A) (y : A) (xs : List A) (i : ℕ) → changed (λ x. y) (changed f xs i) i ≡ changed (λ x. y) xs i
changed_twice f y [] i = refl
changed_twice f y (x ∷ xs) zero = refl
changed_twice f y (x ∷ xs) (suc i) = ap (λ ys. x ∷ ys) (changed_twice f y xs i)

-- What the processor of a station does happens in the core run.

pub own_happens_at : (m : Machine) (g : System) (ss : List Station) (cpu : ℕ) (s new : Station) (x : Work) →
    IsSystem m g ss → slice_get ss cpu ≡ Some s → turn s.core.machine s.core.cpu s.core.local ≡ Some x →
    IsSame s new x.local → Happens m g (Turns cpu) cpu ss new x
own_happens_at m g ss cpu s new x i at is same =
    let it = i.each cpu s at in
    let here = local_at m g ss cpu s i at in
    let does : turn m cpu s.core.local ≡ Some x = rw (← it.machine, ← it.cpu_is) is in
    record {
      before = g;
      stations = ss;
      old = s;
      is = rw (here, does) refl;
      local = s.core.local;
      event = Turned;
      does = does;
      system = i;
      at = at;
      same = same;
      written = refl;
    }

pub letter_happens_at : (m : Machine) (g : System) (ss : List Station) (cpu from : ℕ) (s new : Station) (letter : Letter)
    (x : Work) → IsSystem m g ss → slice_get ss cpu ≡ Some s → from < length s.inbox →
    slice_get (letters_from from s) 0 ≡ Some letter →
    handle s.core.machine s.core.cpu s.core.local letter ≡ Some x → IsSame (without_letter from s) new x.local →
    Happens m g (Handles cpu from) cpu ss new x
letter_happens_at m g ss cpu from s new letter x i at within is_first is same =
    let it = i.each cpu s at in
    let here = local_at m g ss cpu s i at in
    let first = ap (λ ls. slice_get ls 0) (letters_here m g ss from cpu s i at) ∙ is_first in
    let does : handle m cpu s.core.local letter ≡ Some x = rw (← it.machine, ← it.cpu_is) is in
    record {
      before = taken from cpu g;
      stations = changed (without_letter from) ss cpu;
      old = without_letter from s;
      is = rw (here, first, does) refl;
      local = s.core.local;
      event = Handled from letter;
      does = does;
      system = taken_system m g ss from cpu s letter i at within is_first;
      at = get-changed_same (without_letter from) ss cpu ∙ ap (option_map (without_letter from)) at;
      same = same;
      written = changed_twice (without_letter from) new ss cpu;
    }

pub tick_happens_at : (m : Machine) (g : System) (ss : List Station) (cpu clock : ℕ) (s new : Station) (x : Work) →
    IsSystem m g ss → slice_get ss cpu ≡ Some s → advance s.core.machine s.core.cpu clock s.core.local ≡ Some x →
    IsSame s new x.local → Happens m g (Ticks cpu clock) cpu ss new x
tick_happens_at m g ss cpu clock s new x i at is same =
    let it = i.each cpu s at in
    let here = local_at m g ss cpu s i at in
    let does : advance m cpu clock s.core.local ≡ Some x =
    ap₂ (λ m c. advance m c clock s.core.local) (sym it.machine) (sym it.cpu_is) ∙ is in
    record {
      before = g;
      stations = ss;
      old = s;
      is = rw (here, does) refl;
      local = s.core.local;
      event = Ticked clock;
      does = does;
      system = i;
      at = at;
      same = same;
      written = refl;
    }

pub no_own_happens_at : (m : Machine) (g : System) (ss : List Station) (cpu : ℕ) (s : Station) → IsSystem m g ss →
    slice_get ss cpu ≡ Some s → turn s.core.machine s.core.cpu s.core.local ≡ None → happens m g (Turns cpu) ≡ None
no_own_happens_at m g ss cpu s i at is =
    let it = i.each cpu s at in
    let here = local_at m g ss cpu s i at in
    let none : turn m cpu s.core.local ≡ None = rw (← it.machine, ← it.cpu_is) is in
    rw (here, none) refl

pub no_letter_happens_at : (m : Machine) (g : System) (ss : List Station) (cpu from : ℕ) (s : Station) →
    IsSystem m g ss → slice_get ss cpu ≡ Some s → letters_from from s ≡ [] → happens m g (Handles cpu from) ≡ None
no_letter_happens_at m g ss cpu from s i at empty =
    let here = local_at m g ss cpu s i at in
    let none : letters g.mail from cpu ≡ [] = letters_here m g ss from cpu s i at ∙ empty in
    rw (here, none) refl

pub no_tick_happens_at : (m : Machine) (g : System) (ss : List Station) (cpu clock : ℕ) (s : Station) →
    IsSystem m g ss → slice_get ss cpu ≡ Some s → advance s.core.machine s.core.cpu clock s.core.local ≡ None →
    happens m g (Ticks cpu clock) ≡ None
no_tick_happens_at m g ss cpu clock s i at is =
    let it = i.each cpu s at in
    let here = local_at m g ss cpu s i at in
    let none : advance m cpu clock s.core.local ≡ None =
    ap₂ (λ m c. advance m c clock s.core.local) (sym it.machine) (sym it.cpu_is) ∙ is in
    rw (here, none) refl

-- One event more

pub then_is : (m : Machine) (r : Run) (e : Action) (h : Happened) → IsCoreRun m r → happens m r.system e ≡ Some h → IsCoreRun m (then_event r h)
then_is m r e h ran is =
    let next : core_run m r (e ∷ []) ≡ Some (then_event r h) = rw is refl in
    (ran.0 ++ e ∷ [], core_run-append m ran.0 (e ∷ []) (opening_run m) r (then_event r h) ran.1 next)
