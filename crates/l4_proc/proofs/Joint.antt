-- Turns that a processor takes among others: those of several calls, with looks between them.
use Rattle.std.proofs.Common.{◌≡◌, ℕ, ◌+◌, ◌<◌, ◌≤◌, Some, List, [], ◌∷◌, ◌++◌, length, refl, ap, ◌∙◌, subst, sym, arith, length-append}
use Rattle.std.specs.Prelude.{◌≢◌}
use Rattle.l4_merge.specs.Transitions.{Transition}
use Rattle.l4_core_model.specs.Letters.{Letter}
use Rattle.l4_merge.proofs.Worked.{turned_trans}
use Rattle.l4_proc.specs.Working.{BeginWithMail, IsIdle, past, turns_of, HasGoneOn, HasTakenUpTo, HasTurnedMailFirst, ExtendsOn, IsStopped}
use Rattle.l4_proc.specs.declared.processor.Processor.{Processor}
use Rattle.l4_proc.specs.declared.stops.Stop.{Stop}
use Rattle.l4_proc.specs.declared.stops.Stop.TheVariants as stop
use Rattle.l4_proc.proofs.Going.{gone_trans, next_turned, transitions_of_all, taken_none}

-- It has gone on by turns, however many and whyever it stopped.
record IsOnward (old new : Processor) : Type 0 where
  pub on : HasGoneOn old new
  pub mail : HasTurnedMailFirst old new
  pub least : turns_of old ≤ turns_of new
  pub ticks : new.worker.log.ticks ≡ old.worker.log.ticks

onward : (turns : ℕ) (old new : Processor) (why : Stop) → HasTakenUpTo turns old new why → IsOnward old new
onward turns old new why up = record { on = up.on; mail = up.first; least = up.least; ticks = up.ticks }

-- Who was idle had no letter.
idle_had_none : (old : Processor) → IsIdle old → (x : ℕ × Letter) → old.worker.hand ≡ Some x → ⊥
idle_had_none old idle x is = absurd (let none = sym idle.refused.empty ∙ is in cc)

begin_idle : (old : Processor) (ds es : List Transition) → (length ds ≡ 0 → IsIdle old) → BeginWithMail old ds → BeginWithMail old (ds ++ es)
begin_idle old [] [] idle first = tt
begin_idle old [] (e ∷ es) idle first = record {
  hand = λ x is. absurd (idle_had_none old (idle refl) x is);
  kept = λ from some. absurd (some ((idle refl).kept from));
}
begin_idle old (d ∷ ds) es idle first = first

onward_trans : (old middle new : Processor) → (turns_of middle ≡ turns_of old → IsIdle old) → IsOnward old middle → IsOnward middle new → IsOnward old new
onward_trans old middle new nothing first then = record {
  on = gone_trans old middle new first.on then.on;
  mail = record {
    turned = turned_trans old.worker.core.machine old.worker.core.cpu (past old) (past middle) (past new) first.mail.turned
        (next_turned old middle new first.on then.mail.turned);
    many =
        let a = first.mail.many in
        let b = then.mail.many in
        let size = ap length transitions ∙ length-append first.mail.turned.worked.transitions then.mail.turned.worked.transitions in
        omega arith;
    first = subst (BeginWithMail old) (sym transitions) (begin_idle old first.mail.turned.worked.transitions then.mail.turned.worked.transitions
        (λ none. nothing (let a = first.mail.many in omega arith)) first.mail.first);
  };
  least = let a = first.least in let b = then.least in omega arith;
  ticks = then.ticks ∙ first.ticks;
}
  where
    transitions : (turned_trans old.worker.core.machine old.worker.core.cpu (past old) (past middle) (past new) first.mail.turned
        (next_turned old middle new first.on then.mail.turned)).worked.transitions ≡ first.mail.turned.worked.transitions ++ then.mail.turned.worked.transitions
    transitions = transitions_of_all old middle new first.on first.mail.turned then.mail.turned

-- The turns that are left were its last.
ended : (turns left : ℕ) (old middle new : Processor) (why : Stop) → IsOnward old middle → turns_of middle + left ≡ turns_of old + turns →
    (turns_of middle ≡ turns_of old → IsIdle old) → HasTakenUpTo left middle new why → HasTakenUpTo turns old new why
ended turns left old middle new why first all nothing last =
    let both = onward_trans old middle new nothing first (onward left middle new why last) in
    record {
      on = both.on;
      turned = both.mail.turned;
      least = both.least;
      most = let m = last.most in omega arith;
      used = (λ is. let u = last.used.0 is in omega arith, λ is. last.used.1 (omega arith));
      ticks = both.ticks;
      stopped = last.stopped;
      nothing = λ is same. nothing (let a = first.least in let b = last.least in omega arith);
      first = both.mail;
      hand = λ same x is. absurd (idle_had_none old (nothing (let a = first.least in let b = last.least in omega arith)) x is);
    }

-- What is left where it has found nothing.
pub some_left : (turns left : ℕ) (old new : Processor) → ExtendsOn turns old new → new.worker.stop ≡ stop.Idle → turns_of new + left ≡ turns_of old + turns →
    0 < left
some_left turns left old new worked idle all =
    let unused : turns_of new ≢ turns_of old + turns = λ is. absurd (let used = worked.used.1 is in cc) in
    let most = worked.most in
    omega arith

-- It has looked on

pub looks_none : (p : Processor) → p.worker.stop ≡ stop.Idle → IsStopped p stop.Idle → ExtendsOn 1 p p
looks_none p idle stopped =
    let taken = taken_none p in
    record {
      on = taken.on;
      turned = taken.turned;
      least = omega arith;
      most = omega arith;
      used = (λ is. absurd cc, λ is. absurd (omega arith));
      ticks = refl;
      stopped = subst (IsStopped p) (sym idle) stopped;
      nothing = λ is same. stopped;
      first = record { turned = taken.turned; many = let n = taken.many in omega arith; first = taken.first };
      hand = λ same x is. is;
    }

pub no_turn_yet : (old new : Processor) → ExtendsOn 1 old new → new.worker.stop ≡ stop.Idle → turns_of new ≡ turns_of old
no_turn_yet old new worked idle =
    let unused : turns_of new ≢ turns_of old + 1 = λ is. absurd (let used = worked.used.1 is in cc) in
    let most = worked.most in
    let least = worked.least in
    omega arith

-- It looks once more.
pub looks_more : (old middle new : Processor) (why : Stop) → ExtendsOn 1 old middle → middle.worker.stop ≡ stop.Idle → HasTakenUpTo 1 middle new why →
    new.worker.stop ≡ why → ExtendsOn 1 old new
looks_more old middle new why worked idle look is =
    let none = no_turn_yet old middle worked idle in
    subst (HasTakenUpTo 1 old new) (sym is) (ended 1 1 old middle new why (onward 1 old middle _ worked) (omega arith) (worked.nothing idle) look)

-- It works on

-- It found nothing where it looked on, and stops there.
pub looked_in_vain : (turns : ℕ) (old middle new : Processor) → ExtendsOn turns old middle → middle.worker.stop ≡ stop.Idle → ExtendsOn 1 middle new →
    (new.worker.stop ≡ stop.Used → ⊥) → ExtendsOn turns old new
looked_in_vain turns old middle new worked idle look unused =
    let both = onward_trans old middle new (worked.nothing idle) (onward turns old middle _ worked) (onward 1 middle new _ look) in
    let no_turn : turns_of new ≢ turns_of middle + 1 = λ is. unused (look.used.1 is) in
    let same : turns_of new ≡ turns_of middle = (let a = look.least in let b = look.most in omega arith) in
    let not_all : turns_of middle ≢ turns_of old + turns = λ is. absurd (let used = worked.used.1 is in cc) in
    record {
      on = both.on;
      turned = both.mail.turned;
      least = both.least;
      most = let m = worked.most in omega arith;
      used = (λ is. absurd (unused is), λ is. absurd (not_all (omega arith)));
      ticks = both.ticks;
      stopped = look.stopped;
      nothing = λ is none. worked.nothing idle (omega arith);
      first = both.mail;
      hand = λ none x is. absurd (idle_had_none old (worked.nothing idle (omega arith)) x is);
    }

-- It found something, and took the turns that were left.
pub looked_and_worked : (turns left : ℕ) (old middle seen new : Processor) → ExtendsOn turns old middle → ExtendsOn 1 middle seen →
    seen.worker.stop ≡ stop.Used → middle.worker.stop ≡ stop.Idle → turns_of middle + left ≡ turns_of old + turns → 0 < left → (rest : ℕ) → rest + 1 ≡ left → ExtendsOn rest seen new → ExtendsOn turns old new
looked_and_worked turns left old middle seen new worked look found idle all some rest is more =
    let one = look.used.0 found in
    ended turns rest old seen new new.worker.stop
    (onward_trans old middle seen (worked.nothing idle) (onward turns old middle _ worked) (onward 1 middle seen _ look)) (omega arith)
    (λ same. absurd (let least = worked.least in omega arith)) more
