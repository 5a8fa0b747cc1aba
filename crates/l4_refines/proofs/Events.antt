-- An event of a core run: a processor handles a letter, has a turn, or ticks.
use Rattle.std.proofs.lemmas.Option.{slice_get_within, slice_get-get_or}
use Rattle.l4_refines.proofs.Lists.{get_other_place}
use Rattle.l4_refines.proofs.Turns.Choices.{turn_then}
use Rattle.std.specs.Option.{option_map}
use Rattle.l4_core_model.specs.Local.{Local}
use Rattle.l4_core_model.proofs.Changed.{get-changed}
use Rattle.std.proofs.lemmas.Bool.{eqb-true}
use Rattle.l4_model.specs.Steps.{Tick}
use Rattle.l4_core_model.specs.Mail.{handle}
use Rattle.l4_core_model.proofs.Apart.{apart}
use Rattle.l4_model.proofs.Chains.{bind_then, guard_then, some_is}
use Rattle.l4_model.specs.Machine.{Machine}
use Rattle.l4_refines.proofs.Relation.Views.{amid, nowhere, scene}
use Rattle.std.specs.Prelude.{nat_lt, slice_get, slice_index_or, ◌==◌}
use Rattle.l4_core_model.specs.Turns.{advance, clock_is, opened, turn}
use Rattle.l4_core_model.specs.Acts.{Work, does, tells, ◌▷◌}
use Rattle.l4_model.specs.World.{changed}
use Rattle.l4_core_model.specs.Runs.{Handles, Happened, Action, System, Ticks, Turns, done, happens, letters, taken}
use Rattle.std.proofs.Common.{Bool, List, None, Option, Some, ap, arith, cond, false, length, refl, subst, sym, true, ℕ, ◌<◌, ◌^◌, ◌∙◌, ◌≡◌}
use Rattle.l4_core_model.specs.Letters.{Letter}

-- The scene after an event is the one under way.
pub done_scene : (cpu : ℕ) (g : System) (x : Work) → cpu < length g.locals → amid cpu (scene g) x ≡ scene (done cpu g x).system
done_scene cpu g x lt = λ d. record { locals = λ c. at c (cpu == c) refl d; mail = (scene (done cpu g x).system).mail }
  where
    at : (c : ℕ) (b : Bool) → (cpu == c) ≡ b →
        cond b x.local (slice_index_or g.locals c nowhere) ≡ slice_index_or (changed (λ l. x.local) g.locals cpu) c nowhere
    at c true is = sym (ap (λ i. slice_index_or (changed (λ l. x.local) g.locals cpu) i nowhere) (sym (eqb-true cpu c is))
        ∙ get-changed (λ l. x.local) g.locals cpu nowhere lt)
    at c false is = sym (get_other_place (λ l. x.local) g.locals cpu c nowhere (apart cpu c is))

pub local_at : (ls : List Local) (cpu : ℕ) (l : Local) → slice_get ls cpu ≡ Some l → (cpu < length ls) × (slice_index_or ls cpu nowhere ≡ l)
local_at ls cpu l h =
    let lt = slice_get_within ls cpu l h in
    (lt, some_is (slice_index_or ls cpu nowhere) l (sym (slice_get-get_or ls cpu nowhere lt) ∙ h))

done_then : (o : Option Work) (f : Work → Happened) (h : Happened) (P : Happened → Type 0) → ((x : Work) → o ≡ Some x → P (f x)) → option_map f o ≡ Some h → P h
done_then None f h P then is = cc
done_then (Some x) f h P then is = subst P (some_is (f x) h is) (then x refl)

-- What is true after an event is shown for each kind.
pub event_then : (m : Machine) (g : System) (e : Action) (h : Happened) (P : Happened → Type 0) → length g.locals ≡ m.cpus → happens m g e ≡ Some h →
    ((cpu from : ℕ) (letter : Letter) (x : Work) → cpu < m.cpus → slice_get (letters g.mail from cpu) 0 ≡ Some letter →
    handle m cpu ((scene g).locals cpu) letter ≡ Some x → P (done cpu (taken from cpu g) x)) →
    ((cpu : ℕ) (x : Work) → cpu < m.cpus → turn m cpu ((scene g).locals cpu) ≡ Some x → P (done cpu g x)) →
    ((cpu clock : ℕ) (x : Work) → cpu < m.cpus → advance m cpu clock ((scene g).locals cpu) ≡ Some x → P (done cpu g x)) → P h
event_then m g (Handles cpu from) h P counted is letter_then turn_then tick_then =
    bind_then (slice_get g.locals cpu) _ h is λ l at rest.
    bind_then (slice_get (letters g.mail from cpu) 0) _ h rest λ letter first rest.
    let place = local_at g.locals cpu l at in
    let lt : cpu < m.cpus = omega (arith, place.0, counted) in
    done_then (handle m cpu l letter) (done cpu (taken from cpu g)) h P
    (λ x handled. letter_then cpu from letter x lt first (ap (λ k. handle m cpu k letter) place.1 ∙ handled)) rest
event_then m g (Turns cpu) h P counted is letter_then turn_then tick_then =
    bind_then (slice_get g.locals cpu) _ h is λ l at rest.
    let place = local_at g.locals cpu l at in
    let lt : cpu < m.cpus = omega (arith, place.0, counted) in
    done_then (turn m cpu l) (done cpu g) h P (λ x turned. turn_then cpu x lt (ap (turn m cpu) place.1 ∙ turned)) rest
event_then m g (Ticks cpu clock) h P counted is letter_then turn_then tick_then =
    bind_then (slice_get g.locals cpu) _ h is λ l at rest.
    let place = local_at g.locals cpu l at in
    let lt : cpu < m.cpus = omega (arith, place.0, counted) in
    done_then (advance m cpu clock l) (done cpu g) h P (λ x ticked. tick_then cpu clock x lt (ap (advance m cpu clock) place.1 ∙ ticked)) rest

-- A tick, where it is possible
pub advance_then : (m : Machine) (cpu clock : ℕ) (l : Local) (x : Work) (P : Work → Type 0) → advance m cpu clock l ≡ Some x →
    (nat_lt l.clock clock ≡ true → nat_lt clock (2 ^ 62) ≡ true → P (opened 0 l ▷ tells (Tick cpu clock) ▷ does (clock_is clock))) → P x
advance_then m cpu clock l x P h then =
    guard_then (nat_lt l.clock clock) _ x h λ above rest.
    guard_then (nat_lt clock (2 ^ 62)) _ x rest λ below rest.
    subst P (some_is _ x rest) (then above below)
