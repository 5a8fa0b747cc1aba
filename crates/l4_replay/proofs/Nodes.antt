-- What an entry makes of a processor is what happens in the core run.
use Rattle.std.proofs.Common.{◌≡◌, ℕ, ◌<◌, ◌≤◌, ◌^◌, true, false, Option, Some, None, List, length, refl}
use Rattle.std.proofs.Common.{ap, sym, ◌∙◌, subst, arith, inl, inr}
use Rattle.std.specs.Prelude.{drop, slice_get}
use Rattle.std.specs.Option.{option_map}
use Rattle.std.proofs.lemmas.Bool.Decides.{nat_tests}
use Rattle.l4_model.specs.Conditions.{◌>>=◌}
use Rattle.l4_model.specs.Machine.{Machine}
use Rattle.l4_model.specs.World.{changed}
use Rattle.l4_core_model.specs.Acts.{Work}
use Rattle.l4_core_model.specs.Laws.{IsCoreRun}
use Rattle.l4_core_model.specs.Letters.{Letter}
use Rattle.l4_core_model.specs.Local.{Local}
use Rattle.l4_core_model.specs.Mail.{handle}
use Rattle.l4_core_model.specs.Runs.{Action, Handles, IsMachine, Run, System, Ticks, Turns, happens}
use Rattle.l4_core_model.specs.Schedules.{CoreOf, Entry, LetterOf, TickOf, TickTo, TurnOf, entry_event, least_deadline}
use Rattle.l4_core_model.specs.Schedules.{next_turn}
use Rattle.l4_core_model.specs.Turns.{advance, can_stamp}
use Rattle.l4_core.specs.EventBuffers.{EventBuffer}
use Rattle.l4_core.specs.Inner.Turning.{work}
use Rattle.l4_replay.specs.Entries.{processor_of}
use Rattle.l4_replay.specs.Inner.Inboxes.{letters_in}
use Rattle.l4_replay.specs.Stations.{CanGoOn, Station, deadline_of}
use Rattle.l4_replay.specs.UnderWay.{IsSystem}
use Rattle.l4_replay.proofs.Action.{AllLawful, Happens, letter_happens_at, letters_here, local_at, next_is_mail}
use Rattle.l4_replay.proofs.Action.{next_is_own, no_letter_happens_at, no_own_happens_at, no_tick_happens_at}
use Rattle.l4_replay.proofs.Action.{own_happens_at, tick_happens_at}
use Rattle.l4_replay.proofs.Stamps.{letter_stamp, local_stamp}
use Rattle.l4_replay.proofs.Systems.{IsSame}
use Rattle.l4_replay.specs.Inner.Nodes.{GoesOnTo, GoesOnToDue, HasDone, HasTried, IsHandling, KnowsPoster}
use Rattle.l4_replay.specs.Inner.Nodes.{TakesTurn, Tries, own_turn, station_of}
use Rattle.l4_replay.specs.declared.node.Node.{Node}

-- What a processor needs

stamps : (n : ℕ) (l : Local) (stamp : ℕ) → l.stamp ≤ n → stamp ≤ n → n < 2 ^ 61 → can_stamp l stamp ≡ true
stamps n l stamp own its few = grind (arith, nat_tests)

pub can_go_on_at : AllLawful → (m : Machine) (r : Run) (ss : List Station) (cpu : ℕ) (s : Station) → IsMachine m →
    IsCoreRun m r → IsSystem m r.system ss → length r.events < 2 ^ 61 → slice_get ss cpu ≡ Some s → CanGoOn s
can_go_on_at law m r ss cpu s lawful ran i few at =
    let here = local_at m r.system ss cpu s i at in
    let own = local_stamp m r cpu s.core.local ran here in
    let it = i.each cpu s at in
    record {
      own = stamps (length r.events) s.core.local 0 own (omega arith) few;
      letters = λ from letter first.
          let first = ap (λ ls. slice_get ls 0) (letters_here m r.system ss from cpu s i at) ∙ first in
          record {
            lawful = rw (it.machine, it.cpu_is) ((law m r lawful ran).letters.first from cpu letter s.core.local first here);
            stamp = stamps (length r.events) s.core.local letter.stamp own (letter_stamp m r from cpu letter ran first) few;
          };
    }

-- It was done.

same_by : (event : Option Work) (inbox : List (List Letter)) (old new : Node) (before after : EventBuffer) →
    HasDone event inbox old new before after →
    IsSame (record { core = old.core; inbox = inbox }) (station_of new) new.core.local
same_by event inbox old new before after d = record {
  machine = d.machine;
  cpu = d.cpu;
  local = refl;
  inbox = d.inbox;
}

module _ (m : Machine) (g : System) (ss : List Station) (old new : Node) (before after : EventBuffer)
    (i : IsSystem m g ss) where
  abbrev done_work : Work
  done_work = work new.core.local after

  abbrev Done : Action → ℕ → Type 0
  Done e cpu = Happens m g e cpu ss (station_of new) done_work

  own_done : (cpu : ℕ) → slice_get ss cpu ≡ Some (station_of old) →
      Tries (own_turn old.core) true old new before after → Done (Turns cpu) cpu
  own_done cpu at d =
      own_happens_at m g ss cpu (station_of old) (station_of new) done_work i at d.is
      (same_by (own_turn old.core) (letters_in old.inbox) old new before after d)

  letter_done : (cpu from : ℕ) → slice_get ss cpu ≡ Some (station_of old) → from < length (letters_in old.inbox) →
      IsHandling from old new before after → Done (Handles cpu from) cpu
  letter_done cpu from at within t =
      letter_happens_at m g ss cpu from (station_of old) (station_of new) t.letter done_work i at within t.first
      t.done.is
      (same_by (handle old.core.machine old.core.cpu old.core.local t.letter)
      (changed (drop 1) (letters_in old.inbox) from) old new before after t.done)

  turn_done : (cpu : ℕ) → slice_get ss cpu ≡ Some (station_of old) → TakesTurn true old new before after →
      Done (next_turn m g cpu) cpu
  turn_done cpu at (inl t) =
      subst (λ e. Done e cpu) (sym (next_is_mail m g ss cpu t.from (station_of old) i at t.poster))
      (letter_done cpu t.from at t.poster.within t.handled)
  turn_done cpu at (inr t) =
      subst (λ e. Done e cpu) (sym (next_is_own m g ss cpu (station_of old) i at t.0)) (own_done cpu at t.1)

  tick_done : (cpu clock : ℕ) → slice_get ss cpu ≡ Some (station_of old) → GoesOnTo clock true old new before after →
      Done (Ticks cpu clock) cpu
  tick_done cpu clock at d =
      tick_happens_at m g ss cpu clock (station_of old) (station_of new) done_work i at d.is
      (same_by (advance old.core.machine old.core.cpu clock old.core.local) (letters_in old.inbox) old new before
      after d)

  least_is : (cpu : ℕ) → slice_get ss cpu ≡ Some (station_of old) → least_deadline g cpu ≡ deadline_of (station_of old)
  least_is cpu at =
      ap (λ (o : Option Local). o >>= λ l. option_map (λ (e : ℕ × ℕ). e.0) (slice_get l.lists.armed 0))
      (local_at m g ss cpu (station_of old) i at)

  -- What is done for an entry is what it asks for.
  pub record IsDoneFor (entry : Entry) : Type 0 where
    pub action : Action
    pub asks : entry_event m g entry ≡ Some action
    pub happens : Done action (processor_of entry)
    pub kept : after.before ≡ before.before

  pub entry_done : (entry : Entry) → slice_get ss (processor_of entry) ≡ Some (station_of old) →
      KnowsPoster (length (letters_in old.inbox)) entry → HasTried entry true old new before after → IsDoneFor entry
  entry_done (TurnOf cpu) at known t = record {
    action = next_turn m g cpu;
    asks = refl;
    happens = turn_done cpu at t;
    kept = turn_kept t;
  }
    where
      turn_kept : TakesTurn true old new before after → after.before ≡ before.before
      turn_kept (inl t) = t.handled.done.kept
      turn_kept (inr t) = t.1.kept
  entry_done (CoreOf cpu) at known t = record {
    action = Turns cpu;
    asks = refl;
    happens = own_done cpu at t;
    kept = t.kept;
  }
  entry_done (LetterOf cpu from) at known t = record {
    action = Handles cpu from;
    asks = refl;
    happens = letter_done cpu from at known t;
    kept = t.done.kept;
  }
  entry_done (TickTo cpu clock) at known t = record {
    action = Ticks cpu clock;
    asks = refl;
    happens = tick_done cpu clock at t;
    kept = t.kept;
  }
  entry_done (TickOf cpu) at known t = by (deadline_of (station_of old)) refl t
    where
      by : (o : Option ℕ) → deadline_of (station_of old) ≡ o → GoesOnToDue o true old new before after → IsDoneFor (TickOf cpu)
      by None is t = let wrong = t.is in absurd cc
      by (Some clock) is t = record {
        action = Ticks cpu clock;
        asks = ap (option_map (Ticks cpu)) (least_is cpu at ∙ is);
        happens = tick_done cpu clock at t;
        kept = t.kept;
      }

  -- It could not be done, and nothing has changed.
  pub record IsUndoneFor (entry : Entry) : Type 0 where
    pub none : (entry_event m g entry >>= happens m g) ≡ None
    pub same : new ≡ old
    pub untold : after ≡ before

  no_tick : (cpu clock : ℕ) → slice_get ss cpu ≡ Some (station_of old) → GoesOnTo clock false old new before after →
      happens m g (Ticks cpu clock) ≡ None
  no_tick cpu clock at t = no_tick_happens_at m g ss cpu clock (station_of old) i at t.none

  pub entry_undone : (entry : Entry) → slice_get ss (processor_of entry) ≡ Some (station_of old) →
      HasTried entry false old new before after → IsUndoneFor entry
  entry_undone (TurnOf cpu) at t = record {
    none = ap (happens m g) (next_is_own m g ss cpu (station_of old) i at t.0)
        ∙ no_own_happens_at m g ss cpu (station_of old) i at t.1.none;
    same = t.1.same;
    untold = t.1.untold;
  }
  entry_undone (CoreOf cpu) at t = record {
    none = no_own_happens_at m g ss cpu (station_of old) i at t.none;
    same = t.same;
    untold = t.untold;
  }
  entry_undone (LetterOf cpu from) at t = record {
    none = no_letter_happens_at m g ss cpu from (station_of old) i at t.none;
    same = t.same;
    untold = t.untold;
  }
  entry_undone (TickTo cpu clock) at t = record {
    none = no_tick cpu clock at t;
    same = t.same;
    untold = t.untold;
  }
  entry_undone (TickOf cpu) at t = by (deadline_of (station_of old)) refl t
    where
      by : (o : Option ℕ) → deadline_of (station_of old) ≡ o → GoesOnToDue o false old new before after →
          IsUndoneFor (TickOf cpu)
      by None is t = record {
        none = ap (λ (o : Option ℕ). option_map (Ticks cpu) o >>= happens m g) (least_is cpu at ∙ is);
        same = t.same;
        untold = t.untold;
      }
      by (Some clock) is t = record {
        none = ap (λ (o : Option ℕ). option_map (Ticks cpu) o >>= happens m g) (least_is cpu at ∙ is)
            ∙ no_tick cpu clock at t;
        same = t.same;
        untold = t.untold;
      }
