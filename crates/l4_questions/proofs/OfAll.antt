-- A listed ending stands for each one that a history comes to, and for each core run that comes to
-- rest.
use Rattle.std.proofs.Common.{◌≡◌, ℕ, zero, suc, ◌<◌, Bool, true, false, cond, Some, List, [], ◌∷◌, length, refl, ap, sym, subst, arith}
use Rattle.std.specs.Prelude.{filter, slice_get}
use Rattle.std.specs.List.{AllByRecursion}
use Rattle.std.proofs.lemmas.Option.{slice_get-get_or}
use Rattle.l4_model.specs.Machine.{Machine}
use Rattle.l4_model.specs.World.{World}
use Rattle.l4_model.specs.Steps.{Step}
use Rattle.l4_model.proofs.Chains.{get-map}
use Rattle.l4_core_model.specs.Laws.{IsCoreRun}
use Rattle.l4_core_model.specs.Runs.{IsMachine, Run, told}
use Rattle.l4_core_model.specs.Schedules.{Entry, replay_entries}
use Rattle.l4_common_lines.proofs.AsGood.{in_common as as_good_in_common}
use Rattle.l4_common_lines.proofs.Sends.{common_back}
use Rattle.l4_bisimilar.proofs.InCommon.{in_common}
use Rattle.l4_refines.proofs.Law.{run_facts}
use Rattle.l4_states.specs.Endings.{IsAmong, ending_at}
use Rattle.l4_persistent.specs.Endings.{AreAllEndings, IsEnding}
use Rattle.l4_futures.specs.Endings.{AreAllEndings as AreAllWorldEndings, IsEnding as IsWorldEnding}
use Rattle.l4_quiet.proofs.Replays.{replay_run}
use Rattle.l4_questions.specs.Answers.{ending_after, ending_in, ending_or_none, endings_after}
use Rattle.l4_questions.specs.Asked.{is_asked}
use Rattle.l4_questions.specs.Endings.{Ending}
use Rattle.l4_questions.specs.Placed.{ending_of_run, placed_ending, placed_endings}
use Rattle.l4_questions.specs.Runs.{ComesToRest}
use Rattle.l4_questions.specs.declared.question.Question.{Question}
use Rattle.l4_questions.proofs.Alike.{stuck_alike}
use Rattle.l4_questions.proofs.Asking.{worlds_like, AreLike, IsLikeOne}
use Rattle.l4_questions.proofs.SameStuck.{stuck_as_good}

pub found : (m : Machine) (traces : List (List Step)) (depth : ℕ) →
    AreAllWorldEndings m traces depth true → (h : List Step) (w : World) → IsWorldEnding m h w →
    IsLikeOne (endings_after m traces) (ending_in m h w)
found m traces depth all h w ending =
    let one = all.whole refl h w ending in
    record {
      place = one.place;
      listed = ending_after m one.trace;
      at = get-map (ending_after m) traces one.place one.trace one.at;
      like =
          worlds_like m h one.trace w one.world ending.comes.reaches one.reaches
          (as_good_in_common m w one.world one.as_good) (stuck_as_good m w one.world one.as_good);
    }

-- The ending at a place is of a run that rests.
at_place : (P : List Entry → Type 0) (endings : List (List Entry)) (i : ℕ) → i < length endings →
    AllByRecursion P endings → P (ending_at endings i)
at_place P [] i inside all = absurd (omega (arith, inside))
at_place P (e ∷ es) zero inside all = all.0
at_place P (e ∷ es) (suc i) inside all = at_place P es i (omega (arith, inside)) all.1

-- It is that of a similar state.
pub record StandsWith (m : Machine) (endings : List (List Entry)) (r : Run) : Type 0 where
  pub among : IsAmong m endings r.system
  pub like : AreLike (ending_of_run m r) (placed_ending m (ending_at endings among.place))

pub stands_with : (m : Machine) (endings : List (List Entry)) (depth : ℕ) → IsMachine m →
    AreAllEndings m endings depth true → (r : Run) → ComesToRest m r → StandsWith m endings r
stands_with m endings depth machine all r run =
    let among = all.whole refl r.system (length run.actions)
    (record {
      run = record {
        actions = run.actions;
        run = r;
        is = run.is;
        ticks = run.ticks;
        system = refl;
        count = refl;
      };
      rest = run.rest;
      soon = run.soon;
    }) in
    let s = replay_entries m (ending_at endings among.place) in
    let ending = at_place (IsEnding m) endings among.place among.inside all.sound in
    let own = replay_run m (ending_at endings among.place) in
    let is : IsCoreRun m r = (run.actions, run.is) in
    let f = run_facts m s machine own in
    let g = run_facts m r machine is in
    let alike = in_common m machine s r f.world g.world own is ending.rest among.similar f.reaches
    g.reaches in
    let stuck = stuck_alike m machine s r own is ending.rest run.rest among.similar f.world g.world
    f.reaches g.reaches in
    let like = worlds_like m (told r.events) (told s.events) g.world f.world g.reaches f.reaches
    (common_back m f.world g.world alike) (sym stuck) in
    let of_run : ending_in m (told r.events) g.world ≡ ending_of_run m r
    = sym (ap (ending_or_none m (told r.events)) g.reaches) in
    record {
      among = among;
      like =
          subst (λ e. AreLike e (placed_ending m (ending_at endings among.place))) of_run
          (record { common = like.common; stuck = like.stuck });
    }

pub placed_found : (m : Machine) (endings : List (List Entry)) (depth : ℕ) → IsMachine m →
    AreAllEndings m endings depth true → (r : Run) → ComesToRest m r →
    IsLikeOne (placed_endings m endings) (ending_of_run m r)
placed_found m endings depth machine all r run =
    let one = stands_with m endings depth machine all r run in
    record {
      place = one.among.place;
      listed = placed_ending m (ending_at endings one.among.place);
      at =
          get-map (placed_ending m) endings one.among.place (ending_at endings one.among.place)
          (slice_get-get_or endings one.among.place [] one.among.inside);
      like = one.like;
    }

-- The first that is asked for stands at a place.

pub record IsAskedAt (m : Machine) (q : Question) (traces : List (List Step)) : Type 0 where
  pub place : ℕ
  pub trace : List Step
  pub at : slice_get traces place ≡ Some trace
  pub asked : is_asked q (ending_after m trace) ≡ true

pub asked_at : (m : Machine) (q : Question) (traces : List (List Step)) (first : Ending)
    (others : List Ending) → filter (is_asked q) (endings_after m traces) ≡ first ∷ others →
    IsAskedAt m q traces
asked_at m q [] first others is = cc
asked_at m q (t ∷ traces) first others is =
    by (is_asked q (ending_after m t)) refl is (asked_at m q traces first others)
  where
    by : (b : Bool) → is_asked q (ending_after m t) ≡ b →
        cond b (ending_after m t ∷ filter (is_asked q) (endings_after m traces))
        (filter (is_asked q) (endings_after m traces)) ≡ first ∷ others →
        (filter (is_asked q) (endings_after m traces) ≡ first ∷ others → IsAskedAt m q traces) →
        IsAskedAt m q (t ∷ traces)
    by true asked is rest = record { place = 0; trace = t; at = refl; asked = asked }
    by false asked is rest =
        let later = rest is in
        record { place = suc later.place; trace = later.trace; at = later.at; asked = later.asked }
