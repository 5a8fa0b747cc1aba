-- A run from a state can be made from a similar one, where no clock is near its limit.
use Rattle.std.proofs.Common.{◌≡◌, ℕ, suc, ◌+◌, ◌-◌, ◌<◌, ◌≤◌, Bool, true, false, cond, Option, Some, None, List, [], ◌∷◌, map, length, refl, ap, sym, ◌∙◌, subst, arith}
use Rattle.std.specs.Prelude.{slice_get, ◌==◌}
use Rattle.std.specs.Option.{option_map}
use Rattle.std.proofs.lemmas.Bool.{eqb-true}
use Rattle.l4_model.specs.Words.{clock_limit}
use Rattle.l4_model.specs.Machine.{Machine}
use Rattle.l4_model.specs.Conditions.{◌>>=◌}
use Rattle.l4_model.proofs.Chains.{some_is, bind_then}
use Rattle.l4_core_model.specs.Local.{Local}
use Rattle.l4_core_model.specs.Laws.{IsCoreRun}
use Rattle.l4_core_model.specs.Runs.{System, Action, Handles, Turns, Ticks, Happened, happens, Run, IsMachine, then_event}
use Rattle.l4_core_model.specs.Schedules.{least_deadline}
use Rattle.l4_core_model.proofs.Changed.{same_nat}
use Rattle.l4_bisimilar.specs.Shifted.{AreShifted, HappenShifted, IsShifted, ahead}
use Rattle.l4_bisimilar.proofs.Times.{IsLike, are_bare, are_like, bare_local, handles_shifted, same_local, ticks_shifted, turns_shifted}
use Rattle.l4_states.specs.Choices.{IsLeastTick}
use Rattle.l4_persistent.specs.Persistent.{Goes, Leads, Done, Then}
use Rattle.l4_persistent.specs.Rests.{clock_in, clock_at}
use Rattle.l4_persistent.proofs.Silent.{one_more}
use Rattle.l4_persistent.proofs.Clocks.{has_clocks, rises, all_rise, ticked_below}

-- What happens in one happens in the other.
both_happen : (x : Happened) (o : Option Happened) → AreShifted (Some x) o →
    (y : Happened) × ((o ≡ Some y) × HappenShifted x y)
both_happen x None s = absurd s
both_happen x (Some y) s = (y, (refl, s))

record IsFollowed (m : Machine) (g h : System) (a : Action) (x : Happened) : Type 0 where
  event : Action
  behind : Happened
  goes : Goes m h event behind
  shifted : IsShifted x.system behind.system
  as_much : (cpu : ℕ) → clock_at x.system cpu - clock_at g cpu ≡ clock_at behind.system cpu - clock_at h cpu

-- Deadlines are as far ahead in both.

both_locals : (P : Type 0) (g h : System) (cpu : ℕ) → IsShifted g h → (l : Local) → slice_get g.locals cpu ≡ Some l →
    ((k : Local) → slice_get h.locals cpu ≡ Some k → IsLike l k → P) → P
both_locals P g h cpu shifted l at then =
    by (slice_get h.locals cpu) refl (ap (option_map bare_local) (sym at) ∙ same_local g h cpu (are_bare g h shifted))
  where
    by : (p : Option Local) → slice_get h.locals cpu ≡ p → option_map bare_local (Some l) ≡ option_map bare_local p → P
    by None is e = cc
    by (Some k) is e = then k is (are_like l k (some_is (bare_local l) (bare_local k) e))

record IsAlsoArmed (g h : System) (cpu deadline : ℕ) : Type 0 where
  then : ℕ
  is : least_deadline h cpu ≡ Some then
  by : (l k : Local) → slice_get g.locals cpu ≡ Some l → slice_get h.locals cpu ≡ Some k →
      deadline - l.clock ≡ then - k.clock
  far : deadline - clock_at g cpu ≡ then - clock_at h cpu

also_armed : (g h : System) (cpu deadline : ℕ) → IsShifted g h → least_deadline g cpu ≡ Some deadline →
    IsAlsoArmed g h cpu deadline
also_armed g h cpu deadline shifted is =
    bind_then (slice_get g.locals cpu) _ deadline is λ l at first.
    both_locals (IsAlsoArmed g h cpu deadline) g h cpu shifted l at λ k there like.
    firsts l k at there l.lists.armed k.lists.armed refl first like.armed
  where
    firsts : (l k : Local) → slice_get g.locals cpu ≡ Some l → slice_get h.locals cpu ≡ Some k →
        (xs ys : List (ℕ × ℕ)) → k.lists.armed ≡ ys →
        option_map (λ e. e.0) (slice_get xs 0) ≡ Some deadline → map (ahead l.clock) xs ≡ map (ahead k.clock) ys →
        IsAlsoArmed g h cpu deadline
    firsts l k at there [] ys same first like = cc
    firsts l k at there (x ∷ xs) [] same first like = cc
    firsts l k at there (x ∷ xs) (y ∷ ys) same first like =
        let one : ahead l.clock x ≡ ahead k.clock y = cc in
        let far : x.0 - l.clock ≡ y.0 - k.clock = ap (λ (e : ℕ × ℕ). e.0) one in
        let least : x.0 ≡ deadline = some_is x.0 deadline first in
        record {
          then = y.0;
          is =
              ap (λ (o : Option Local). o >>= λ n. option_map (λ e. e.0) (slice_get n.lists.armed 0)) there
              ∙ ap (λ (es : List (ℕ × ℕ)). option_map (λ e. e.0) (slice_get es 0)) same;
          by = λ n o at_n at_o.
              let left : l ≡ n = some_is l n (sym at ∙ at_n) in
              let right : k ≡ o = some_is k o (sym there ∙ at_o) in
              ap (λ d. d - n.clock) (sym least) ∙ ap (λ (p : Local). x.0 - p.clock) (sym left) ∙ far
              ∙ ap (λ (p : Local). y.0 - p.clock) right;
          far =
              let left : clock_at g cpu ≡ l.clock = ap clock_in at in
              let right : clock_at h cpu ≡ k.clock = ap clock_in there in
              ap (λ d. d - clock_at g cpu) (sym least) ∙ ap (λ c. x.0 - c) left ∙ far ∙ ap (λ c. y.0 - c) (sym right);
        }

module _ (m : Machine) (machine : IsMachine m) where
  -- An event, where a tick of the other one stays below the limit
  follow : (r s : Run) → IsCoreRun m r → IsCoreRun m s → IsShifted r.system s.system → (a : Action) (x : Happened) →
      Goes m r.system a x →
      ((cpu : ℕ) → clock_at s.system cpu + (clock_at x.system cpu - clock_at r.system cpu) < clock_limit) →
      IsFollowed m r.system s.system a x
  follow r s in_r in_s shifted a x goes room = by a goes.happens goes.least
    where
      g : System
      g = r.system

      h : System
      h = s.system

      -- Where neither clock goes on
      stays : (b : Action) (y : Happened) → happens m h b ≡ Some y →
          ((cpu : ℕ) → clock_at x.system cpu ≡ clock_at g cpu) →
          ((cpu : ℕ) → clock_at y.system cpu ≡ clock_at h cpu) → (cpu : ℕ) →
          clock_at x.system cpu - clock_at g cpu ≡ clock_at y.system cpu - clock_at h cpu
      stays b y is one two cpu = omega (arith, one cpu, two cpu)

      by : (a : Action) → happens m r.system a ≡ Some x → IsLeastTick r.system a → IsFollowed m r.system s.system a x
      by (Handles cpu from) is least =
          let both = both_happen x (happens m h (Handles cpu from))
          (subst (λ (o : Option Happened). AreShifted o (happens m h (Handles cpu from))) is
          (handles_shifted m r s cpu from machine in_r in_s shifted)) in
          record {
            event = Handles cpu from;
            behind = both.0;
            goes = record { happens = both.1.0; least = tt };
            shifted = both.1.1.system;
            as_much = stays (Handles cpu from) both.0 both.1.0 (has_clocks m g (Handles cpu from) x is).clocks
                (has_clocks m h (Handles cpu from) both.0 both.1.0).clocks;
          }
      by (Turns cpu) is least =
          let both = both_happen x (happens m h (Turns cpu))
          (subst (λ (o : Option Happened). AreShifted o (happens m h (Turns cpu))) is
          (turns_shifted m g h cpu shifted)) in
          record {
            event = Turns cpu;
            behind = both.0;
            goes = record { happens = both.1.0; least = tt };
            shifted = both.1.1.system;
            as_much = stays (Turns cpu) both.0 both.1.0 (has_clocks m g (Turns cpu) x is).clocks
                (has_clocks m h (Turns cpu) both.0 both.1.0).clocks;
          }
      by (Ticks cpu clock) is least =
          let also = also_armed g h cpu clock shifted least in
          let k = has_clocks m g (Ticks cpu clock) x is in
          let came : clock_at x.system cpu ≡ clock = k.clocks cpu
          ∙ ap (λ b. cond b clock (clock_at g cpu)) (same_nat cpu) in
          let below : also.then < clock_limit = omega (arith, room cpu, came, also.far, k.up) in
          let first : clock < clock_limit = ticked_below m g cpu clock x is in
          let both = both_happen x (happens m h (Ticks cpu also.then))
          (subst (λ (o : Option Happened). AreShifted o (happens m h (Ticks cpu also.then))) is
          (ticks_shifted m g h cpu clock also.then shifted (record { by = also.by; first = first; second = below }))) in
          let n = has_clocks m h (Ticks cpu also.then) both.0 both.1.0 in
          record {
            event = Ticks cpu also.then;
            behind = both.0;
            goes = record { happens = both.1.0; least = also.is };
            shifted = both.1.1.system;
            as_much = λ c. far c (cpu == c) refl also.then also.far both.0 (k.clocks c) (n.clocks c);
          }
        where
          far : (c : ℕ) (b : Bool) → (cpu == c) ≡ b → (then : ℕ) → clock - clock_at g cpu ≡ then - clock_at h cpu →
              (y : Happened) →
              clock_at x.system c ≡ cond b clock (clock_at g c) → clock_at y.system c ≡ cond b then (clock_at h c) →
              clock_at x.system c - clock_at g c ≡ clock_at y.system c - clock_at h c
          far c true same then as_far y one two =
              let in_g : clock_at g cpu ≡ clock_at g c = ap (clock_at g) (eqb-true cpu c same) in
              let in_h : clock_at h cpu ≡ clock_at h c = ap (clock_at h) (eqb-true cpu c same) in
              omega (arith, as_far, one, two, in_g, in_h)
          far c false other then as_far y one two = omega (arith, one, two)

  -- A whole run
  pub record AreFollowed (es : List Action) (last h : System) (bound : ℕ → ℕ) : Type 0 where
    pub events : List Action
    pub as_many : length es ≡ length events
    pub end : System
    pub leads : Leads m h events end
    pub shifted : IsShifted last end
    pub soon : (cpu : ℕ) → clock_at end cpu < bound cpu

  one_first : (a : Action) (es : List Action) (last : System) (r s : Run) (bound : ℕ →
      ℕ) (x : Happened) (f : IsFollowed m r.system s.system a x) →
      AreFollowed es last f.behind.system bound → AreFollowed (a ∷ es) last s.system bound
  one_first a es last r s bound x f more = record {
    events = f.event ∷ more.events;
    as_many = ap suc more.as_many;
    end = more.end;
    leads = Then f.behind f.goes more.leads;
    shifted = more.shifted;
    soon = more.soon;
  }

  pub follow_all : (es : List Action) (r s : Run) (last : System) (bound : ℕ → ℕ) → IsCoreRun m r → IsCoreRun m s →
      IsShifted r.system s.system →
      Leads m r.system es last → ((cpu : ℕ) → bound cpu ≤ clock_limit) →
      ((cpu : ℕ) → clock_at s.system cpu + (clock_at last cpu - clock_at r.system cpu) < bound cpu) →
      AreFollowed es last s.system bound
  follow_all [] r s last bound in_r in_s shifted Done low room = record {
    events = [];
    as_many = refl;
    end = s.system;
    leads = Done;
    shifted = shifted;
    soon = λ cpu. omega (arith, room cpu);
  }
  follow_all (a ∷ es) r s last bound in_r in_s shifted (Then x goes rest) low room =
      let later = all_rise m es x.system last rest in
      let f = follow r s in_r in_s shifted a x goes (λ cpu. omega (arith, room cpu, low cpu, later cpu)) in
      one_first a es last r s bound x f
      (follow_all es (then_event r x) (then_event s f.behind) last bound (one_more m r a x in_r goes.happens)
      (one_more m s f.event f.behind in_s f.goes.happens) f.shifted rest low
      (λ cpu. omega (
        arith,
        room cpu,
        later cpu,
        rises m r.system a x goes.happens cpu,
        rises m s.system f.event f.behind f.goes.happens cpu,
        f.as_much cpu,
      )))
