-- The ends that a search of all worlds has found are all endings.
use Rattle.std.proofs.Common.{◌≡◌, ℕ, ◌<◌, ◌≤◌, Bool, true, ◌⊎◌, inl, inr, Some, List, [], length, refl, ap, sym, subst, ◌∙◌, arith}
use Rattle.std.proofs.Math.Nat.{eq-or-lt_of_le}
use Rattle.std.proofs.lemmas.Bool.{cases_lt}
use Rattle.std.specs.Prelude.{◌↔◌, slice_get}
use Rattle.l4_model.specs.Machine.{Machine}
use Rattle.l4_model.specs.World.{World, opening}
use Rattle.l4_model.specs.Steps.{Step}
use Rattle.l4_model.specs.History.{reached}
use Rattle.l4_model.proofs.Chains.{some_is}
use Rattle.l4_worlds.specs.Timeless.{timeless}
use Rattle.l4_worlds.specs.Late.{no_ticks}
use Rattle.l4_worlds.specs.Numberless.{numberless}
use Rattle.l4_worlds.specs.Bare.{bare, AreAsGood}
use Rattle.l4_worlds.specs.Inner.Room.{HaveProcessors}
use Rattle.l4_worlds.specs.Histories.{IsTimed, IsStillLate}
use Rattle.l4_worlds.proofs.Reaching.{reached_late, still_from, still_untimed}
use Rattle.l4_worlds.proofs.LateFutures.{late_still}
use Rattle.l4_worlds.proofs.LateWorlds.{late_decided}
use Rattle.l4_explore.specs.Tries.{State}
use Rattle.l4_explore.specs.Search.{Seen, seen_at, IsExplored}
use Rattle.l4_explore.specs.Inner.Ends.{AreAllEnds, IsFoundIn}
use Rattle.l4_explore.proofs.Orders.{before_length}
use Rattle.l4_explore.proofs.Nearing.{all_ends}
use Rattle.l4_states.specs.Inner.Bytes.{bytes_of}
use Rattle.l4_futures.specs.Inner.Codes.{code_of}
use Rattle.l4_futures.specs.Choices.{world_after}
use Rattle.l4_futures.specs.Traces.{trace_along}
use Rattle.l4_futures.specs.Inner.Search.{state_in, state_after, AreTried, MayEnd, end_traces_of}
use Rattle.l4_futures.specs.Endings.{length_of, IsEnding, IsListed, AreAllEndings}
use Rattle.l4_futures.proofs.Coded.{coded}
use Rattle.l4_futures.proofs.Ways.{clocks_same, at_end}
use Rattle.l4_futures.proofs.Kept.{state_led, same_code, ended, kept}
use Rattle.l4_futures.proofs.Led.{IsLed, is_led}
use Rattle.l4_futures.proofs.Untimed.{settled_untimed}
use Rattle.l4_futures.proofs.Listing.{AreEndsOf, end_place, end_found, ends_found}

pub ending : (m : Machine) (h : List Step) (w : World) → HaveProcessors m → reached m h ≡ Some w → IsEnding m h w ↔ IsStillLate m (timeless w)
ending m h w have r = (
  λ e. (still_untimed m h w have r e.untimed).0 e.comes.still,
  λ still. record {
    comes = record { reaches = r; still = still_from m w still };
    untimed = settled_untimed m h w r still;
  },
)

-- A found state: its world, and where its schedule leads
pub record IsKnown (m : Machine) (s : Seen) : Type 0 where
  pub world : World
  pub leads : world_after m s.schedule ≡ Some world
  pub is : state_in m world ≡ s.state
  pub led : IsLed m s.schedule world

pub is_known : (m : Machine) (s : Seen) → IsTimed m → length s.schedule ≤ 1000001 → state_after m s.schedule ≡ Some s.state → IsKnown m s
is_known m s timed short at =
    let x = state_led m s.schedule s.state at in
    record { world = x.0; leads = x.1; is = x.2; led = is_led m s.schedule x.0 timed short x.1 }

module _ (m : Machine) (timed : IsTimed m) where
  -- Worlds with time, and the same without

  pub without_time : (h : List Step) (w : World) → reached m h ≡ Some w → timeless (timeless w) ≡ timeless w
  without_time h w r = (late_decided m (no_ticks h) (timeless w) timed (reached_late m h w r)).0.no_time

  -- The world of a found state is as good as this one, where the world of its trace is.
  pub to_known : (s : Seen) (k : IsKnown m s) (v : World) (h : List Step) → reached m h ≡ Some v → AreAsGood k.led.world v → AreAsGood k.world (timeless v)
  to_known s k v h r good =
      ap (λ x. numberless (bare x)) (k.led.no_time ∙ sym k.led.alike) ∙ good
      ∙ ap (λ x. numberless (bare x)) (sym (without_time h v r))

  pub from_known : (s : Seen) (k : IsKnown m s) (v : World) (h : List Step) → reached m h ≡ Some v → AreAsGood k.world (timeless v) → AreAsGood v k.led.world
  from_known s k v h r good =
      ap (λ x. numberless (bare x)) (sym (without_time h v r)) ∙ sym good
      ∙ ap (λ x. numberless (bare x)) (k.led.no_time ∙ sym k.led.alike)

  -- So its code is the code of that world.
  pub known_code : (s : Seen) (k : IsKnown m s) (v : World) (h : List Step) → reached m h ≡ Some v → AreAsGood k.led.world v → code_of m k.world ≡ code_of m (timeless v)
  known_code s k v h r good =
      (coded m k.world (timeless v)
      (clocks_same m k.led.steps (no_ticks h) k.world (timeless v) timed k.led.late (reached_late m h v r))).1
      (to_known s k v h r good)

  -- States of worlds as good as each other have one code.
  pub state_codes : (s t : Seen) (k : IsKnown m s) (l : IsKnown m t) (w v : World) → reached m (trace_along m s.schedule) ≡ Some w → reached m (trace_along m t.schedule) ≡ Some v → AreAsGood w v → s.state.code ≡ t.state.code
  state_codes s t k l w v at_w at_v good =
      let one : w ≡ k.led.world = some_is w k.led.world (sym at_w ∙ k.led.reaches) in
      let other : v ≡ l.led.world = some_is v l.led.world (sym at_v ∙ l.led.reaches) in
      let as_good : AreAsGood k.led.world l.led.world = subst (λ x. AreAsGood x l.led.world) one (subst (AreAsGood w) other good) in
      ap (λ (a : State). a.code) (sym k.is)
      ∙ ap bytes_of (known_code s k l.led.world (trace_along m t.schedule) l.led.reaches as_good ∙ ap (code_of m) l.led.alike)
      ∙ ap (λ (a : State). a.code) l.is

module _ (m : Machine) (timed : IsTimed m) (found : List Seen) (depth : ℕ) (is_whole : Bool)
    (low : depth ≤ 1000000) (ex : IsExplored (state_after m) (AreTried m) found depth is_whole) where
  pub known_at : (i : ℕ) → i < length found → IsKnown m (seen_at found i)
  known_at i l = is_known m (seen_at found i) timed (omega (arith, ex.near i l, low)) (ex.all.reached i l)

  ends : AreAllEnds (MayEnd m) (state_in m (opening m)) found depth is_whole
  ends = all_ends (state_after m) (AreTried m) (MayEnd m) found depth is_whole ex (kept m timed) (state_in m (opening m)) refl

  -- A history that reaches a world of a still state may end there.
  may_end : (h : List Step) (w : World) → reached m h ≡ Some w → IsStillLate m (timeless w) → MayEnd m (state_in m (opening m)) (length_of h) (state_in m (timeless w))
  may_end h w r still = record {
    entries = [];
    world = opening m;
    leads = refl;
    is = refl;
    code = code_of m (timeless w);
    ends = record {
      steps = no_ticks h;
      as_many = refl;
      last = timeless w;
      leads = reached_late m h w r;
      still = still;
      coded = refl;
    };
    coded = refl;
    is_end = ended m (timeless w) still;
  }

  still_ending : (h : List Step) (w : World) → IsEnding m h w → IsStillLate m (timeless w)
  still_ending h w e = (still_untimed m h w timed.processors e.comes.reaches e.untimed).0 e.comes.still

  listed : (h : List Step) (w : World) → IsEnding m h w → IsFoundIn found (state_in m (timeless w)) (length_of h) → IsListed m (end_traces_of m found) w (length_of h)
  listed h w e f =
      let k = known_at f.place f.inside in
      let late = reached_late m h w e.comes.reaches in
      let is_end = ap (λ (a : State). a.is_end) f.is ∙ ended m (timeless w) (still_ending h w e) in
      let at = end_place (trace_along m) found f.place f.inside is_end in
      let code : code_of m k.world ≡ code_of m (timeless w) = same_code m k.world (timeless w) (ap (λ (a : State). a.code) (k.is ∙ f.is)) in
      let good : AreAsGood k.world (timeless w) =
      (coded m k.world (timeless w) (clocks_same m k.led.steps (no_ticks h) k.world (timeless w) timed k.led.late late)).0 code in
      record {
        place = at.0;
        trace = trace_along m (seen_at found f.place).schedule;
        at = at.1;
        world = k.led.world;
        reaches = k.led.reaches;
        as_good = from_known m timed (seen_at found f.place) k w h e.comes.reaches good;
        short = omega (arith, k.led.long, f.short);
      }

  -- An end that was found is still.
  still_end : (i : ℕ) (l : i < length found) → (seen_at found i).state.is_end ≡ true → IsStillLate m (known_at i l).world
  still_end i l is = at_end m (known_at i l).world (ap (λ (a : State). a.is_end) (known_at i l).is ∙ is)

  sound : (i : ℕ) (trace : List Step) → slice_get (end_traces_of m found) i ≡ Some trace → (w : World) × IsEnding m trace w
  sound i trace at =
      let f = end_found (trace_along m) found i trace at in
      let k = known_at f.place f.inside in
      let still : IsStillLate m (timeless k.led.world) = subst (IsStillLate m) (sym k.led.alike) (still_end f.place f.inside f.is_end) in (
        k.led.world,
        record {
          comes = record {
            reaches = ap (reached m) (sym f.is) ∙ k.led.reaches;
            still = still_from m k.led.world still;
          };
          untimed = settled_untimed m (trace_along m (seen_at found f.place).schedule) k.led.world k.led.reaches still;
        },
      )

  shortest : (i : ℕ) (trace h : List Step) (w v : World) → slice_get (end_traces_of m found) i ≡ Some trace → reached m trace ≡ Some w → reached m h ≡ Some v → AreAsGood w v → length_of trace ≤ length_of h
  shortest i trace h w v at reaches r good =
      let f = end_found (trace_along m) found i trace at in
      let s = seen_at found f.place in
      let k = known_at f.place f.inside in
      let one : w ≡ k.led.world = some_is w k.led.world (sym reaches ∙ ap (reached m) (sym f.is) ∙ k.led.reaches) in
      let as_good : AreAsGood k.led.world v = subst (λ x. AreAsGood x v) one good in
      let late = reached_late m h v r in
      let still : IsStillLate m (timeless v) =
      late_still m k.led.steps (no_ticks h) k.world (timeless v) timed k.led.late late (to_known m timed (seen_at found f.place) k v h r as_good)
      (still_end f.place f.inside f.is_end) in
      let code : bytes_of (code_of m (timeless v)) ≡ (seen_at found f.place).state.code =
      ap bytes_of (sym (known_code m timed (seen_at found f.place) k v h r as_good)) ∙ ap (λ (a : State). a.code) k.is in
      let is : state_in m (timeless v) ≡ (seen_at found f.place).state =
      λ i. record { code = code i; is_end = (ended m (timeless v) still ∙ sym f.is_end) i } in
      let short = ends.shortest f.place (length_of h) f.inside (subst (MayEnd m (state_in m (opening m)) (length_of h)) is (may_end h v r still)) in
      let long = ap length_of (sym f.is) ∙ k.led.long in
      omega (arith, short, long)

  pair_apart : (trace other : List Step) (w v : World) → AreEndsOf (trace_along m) found trace other → reached m trace ≡ Some w → reached m other ≡ Some v → AreAsGood w v → ⊥
  pair_apart trace other w v p at_w at_v good =
      let a = p.first in
      let b = p.second in
      let codes = state_codes m timed (seen_at found p.first.place) (seen_at found p.second.place) (known_at p.first.place p.first.inside) (known_at p.second.place p.second.inside) w v
      (ap (reached m) p.first.is ∙ at_w) (ap (reached m) p.second.is ∙ at_v) good in
      let same = ex.all.once p.first.place p.second.place p.first.inside p.second.inside codes in
      omega (arith, same, p.rise)

  apart : (i j : ℕ) (trace other : List Step) (w v : World) → slice_get (end_traces_of m found) i ≡ Some trace → slice_get (end_traces_of m found) j ≡ Some other → reached m trace ≡ Some w → reached m other ≡ Some v → AreAsGood w v → i ≡ j
  apart i j trace other w v at_i at_j at_w at_v good = by (cases_lt i j)
    where
      by : (i < j) ⊎ (j ≤ i) → i ≡ j
      by (inl less) = absurd (pair_apart trace other w v (ends_found (trace_along m) found i j trace other less at_i at_j) at_w at_v good)
      by (inr le) = elim (eq-or-lt_of_le le) [
        | inl is ↦ sym is
        | inr less ↦ absurd (pair_apart other trace v w (ends_found (trace_along m) found j i other trace less at_j at_i) at_v at_w (sym good))
      ]

  rising : (i j : ℕ) (trace other : List Step) → i < j → slice_get (end_traces_of m found) i ≡ Some trace → slice_get (end_traces_of m found) j ≡ Some other → length_of trace ≤ length_of other
  rising i j trace other less at_i at_j =
      let p = ends_found (trace_along m) found i j trace other less at_i at_j in
      let short = before_length (seen_at found p.first.place).schedule (seen_at found p.second.place).schedule (ex.all.rising p.first.place p.second.place p.rise p.second.inside) in
      let one = ap length_of (sym p.first.is) ∙ (known_at p.first.place p.first.inside).led.long in
      let two = ap length_of (sym p.second.is) ∙ (known_at p.second.place p.second.inside).led.long in
      omega (arith, short, one, two)

  pub all_endings : AreAllEndings m (end_traces_of m found) depth is_whole
  all_endings = record {
    complete = λ h w e l. listed h w e (ends.complete (length_of h) (state_in m (timeless w)) (may_end h w e.comes.reaches (still_ending h w e)) l);
    whole = λ whole h w e. listed h w e (ends.whole whole (length_of h) (state_in m (timeless w)) (may_end h w e.comes.reaches (still_ending h w e)));
    sound = sound;
    shortest = shortest;
    apart = apart;
    rising = rising;
  }
