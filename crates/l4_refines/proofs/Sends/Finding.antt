-- What the world finds of a place, and of a send that is on a processor.
use Rattle.l4_model.specs.Effects.{decided}
use Rattle.l4_refines.proofs.Frames.Locals.{unqueued_other, comes_other, changes_other}
use Rattle.std.proofs.Common.{◌≡◌, ℕ, ◌<◌, Bool, true, false, cond, Some, None, List, ◌∷◌, length, refl, ap, sym, ◌∙◌, arith}
use Rattle.std.specs.Prelude.{◌==◌}
use Rattle.std.proofs.lemmas.Option.{slice_get-get_or}
use Rattle.std.proofs.lemmas.Bool.{eqb-true}
use Rattle.l4_model.specs.Words.{Id, NilThread, AnyThread, AnyLocalThread, LocalThread, GlobalThread, Period}
use Rattle.l4_model.specs.Machine.{Machine}
use Rattle.l4_model.specs.World.{Thread, World, Send, change, unqueued, opening_thread}
use Rattle.l4_model.specs.Conditions.{Found, found, found_at, found_by, undecided, is_zero}
use Rattle.l4_model.proofs.Chains.{cond_both}
use Rattle.l4_core_model.specs.Letters.{Result}
use Rattle.l4_core_model.specs.Plain as plain
use Rattle.l4_core_model.specs.Local.{declared, undeclared, thread, destination_place, is_own, last_name, relists, comes_to, after_decision}
use Rattle.l4_core_model.specs.Acts.{Work, ◌▷◌, does, decides_send}
use Rattle.l4_core_model.specs.Runs.{IsMachine}
use Rattle.l4_core_model.proofs.Changed.{same_nat}
use Rattle.l4_core_model.proofs.Apart.{apart}
use Rattle.l4_refines.proofs.Relation.Views.{Scene, Kept, View, kept, view, world_thread, home, amid}
use Rattle.l4_refines.proofs.Relation.Rows.{Matches}
use Rattle.l4_refines.proofs.Relation.Relates.{RelatesExcept}
use Rattle.l4_refines.proofs.Frames.Moves.{at_home}
use Rattle.l4_refines.proofs.Frames.Lists.{put_here}
use Rattle.l4_refines.proofs.Sends.Deciding.{IsSendAt, decided_here}
use Rattle.l4_refines.proofs.Sends.Answering.{answers, decided_away}
use Rattle.l4_refines.proofs.Sends.Waiting.{agrees_send, agrees_begun}

abbrev pub place_found : Machine → Scene → World → ℕ → Found
place_found m s w i = record { at = i; declared = declared m i; now = world_thread w i; clock = (s.locals (home m i)).clock }

pub found_at_is : {P : ℕ → View → Type 0} (m : Machine) (i : ℕ) (except : List ℕ) (s : Scene) (w : World) → IsMachine m → i < length m.threads →
    RelatesExcept m P except s w → found_at m w i ≡ Some (place_found m s w i)
found_at_is m i except s w machine lt r =
    let size : i < length w.threads = omega (arith, r.sized_world.threads) in
    let clock = r.clocks (home m i) (machine.homed i lt) in
    rw (slice_get-get_or m.threads i undeclared, slice_get-get_or w.threads i opening_thread, clock) refl

pub found_is : {P : ℕ → View → Type 0} (m : Machine) (i : ℕ) (except : List ℕ) (s : Scene) (w : World) → IsMachine m → i < length m.threads →
    RelatesExcept m P except s w → found m w (declared m i).id ≡ Some (place_found m s w i)
found_is m i except s w machine lt r = let at = machine.placed i lt in rw at (found_at_is m i except s w machine lt r)

pub receiver_is : {P : ℕ → View → Type 0} (m : Machine) (r : ℕ) (to : Id) (except : List ℕ) (s : Scene) (w : World) → IsMachine m → r < length m.threads →
    RelatesExcept m P except s w → destination_place m to ≡ Some r → found_by m w to ≡ Some (place_found m s w r)
receiver_is m r NilThread except s w machine lt rel to = cc
receiver_is m r AnyThread except s w machine lt rel to = cc
receiver_is m r AnyLocalThread except s w machine lt rel to = cc
receiver_is m r (LocalThread word) except s w machine lt rel to = cc
receiver_is m r (GlobalThread t) except s w machine lt rel to = rw to (found_at_is m r except s w machine lt rel)

-- What this processor has in the place of a send is the send itself, or a stand-in with its message, its number and whether its
-- timeout is zero.
pub record IsHeld (m : Machine) (i : ℕ) (send : Send) (begun : ℕ) (t : Thread) : Type 0 where
  pub held : Send
  pub has : t.send ≡ Some held
  pub message : held.message ≡ send.message
  pub zero : is_zero held.period ≡ is_zero send.period
  pub begun_is : t.context.begun ≡ begun

pub held_is : (m : Machine) (cpu i : ℕ) (send : Send) (s : Scene) (x : Work) (w : World) → IsSendAt m cpu i send (view m (amid cpu s x) w i) →
    IsHeld m i send (at_home m i (view m (amid cpu s x) w i)).thread.context.begun (thread x.local i)
held_is m cpu i send s x w at = by (home m i == cpu) refl
  where
    v : View
    v = view m (amid cpu s x) w i

    old : v.kept cpu ≡ kept x.local i
    old = ap (λ l. kept l i) (put_here cpu cpu x.local s.locals refl)

    zero_is : (b : Bool) → is_zero (let period : Period = cond b (Some 0) None in period) ≡ b
    zero_is true = refl
    zero_is false = refl

    by : (b : Bool) → (home m i == cpu) ≡ b → IsHeld m i send (at_home m i v).thread.context.begun (thread x.local i)
    by true h =
        let same : at_home m i v ≡ kept x.local i = ap v.kept (eqb-true (home m i) cpu h) ∙ old in
        record {
          held = send;
          has = sym (ap (λ (k : Kept). k.thread.send) same) ∙ at.has;
          message = refl;
          zero = refl;
          begun_is = sym (ap (λ (k : Kept). k.thread.context.begun) same);
        }
    by false h =
        let foreign = at.foreign (apart (home m i) cpu h) in
        record {
          held = _;
          has = sym (ap (λ (k : Kept). k.thread.send) old) ∙ foreign.stand_in.has;
          message = refl;
          zero = zero_is (is_zero send.period);
          begun_is = sym (ap (λ (k : Kept). k.thread.context.begun) old) ∙ foreign.stand_in.number;
        }

-- It is undecided in the world under that name.
pub pending_is : {P : ℕ → View → Type 0} (m : Machine) (cpu i : ℕ) (send : Send) (except : List ℕ) (s : Scene) (x : Work) (w : World) → IsMachine m →
    i < length m.threads → RelatesExcept m P except (amid cpu s x) w → IsSendAt m cpu i send (view m (amid cpu s x) w i) →
    undecided m w (last_name m x.local i) ≡ Some (record { sender = place_found m (amid cpu s x) w i; send = send })
pending_is m cpu i send except s x w machine lt rel at =
    let v : View = view m (amid cpu s x) w i in
    let is = found_is m i except (amid cpu s x) w machine lt rel in
    let begun : (thread x.local i).context.begun ≡ (world_thread w i).context.begun =
    (held_is m cpu i send s x w at).begun_is ∙ sym (agrees_begun v.world (at_home m i v).thread at.agrees) in
    let has : (world_thread w i).send ≡ Some send = agrees_send v.world (at_home m i v).thread at.agrees ∙ at.has in
    let same = same_nat (world_thread w i).context.begun in
    rw (is, begun, same, has) refl

-- It is decided here, wherever its home is.
pub ends_relates : (m : Machine) (cpu i : ℕ) (except : List ℕ) (s : Scene) (w : World) (x : Work) (result : Result) (send : Send) (g : Thread → Thread) →
    IsMachine m → cpu < m.cpus → i < length m.threads →
    IsSendAt m cpu i send (view m (amid cpu s x) w i) → g (world_thread w i) ≡ after_decision result (at_home m i (view m (amid cpu s x) w i)).clock (world_thread w i) →
    RelatesExcept m (Matches m) (i ∷ except) (amid cpu s x) w →
    RelatesExcept m (Matches m) except (amid cpu s (decides_send m cpu result i x)) (change (unqueued w i) i g)
ends_relates m cpu i except s w x result send g machine processor lt at is rel = by (is_own m cpu i) refl
  where
    here : Work
    here = x ▷ does (relists (plain.unqueued i)) ▷ does (comes_to i (after_decision result x.local.clock))

    by : (b : Bool) → (home m i == cpu) ≡ b → RelatesExcept m (Matches m) except (amid cpu s (cond b here (answers m i result x))) (change (unqueued w i) i g)
    by true h = decided_here m cpu i except s w x result send g (record { machine = machine; within = lt; home = eqb-true (home m i) cpu h }) at is rel
    by false h = decided_away m cpu i except s w x result send g
        (record { machine = machine; processor = processor; within = lt; away = apart (home m i) cpu h }) at is rel

-- Nothing is told by it.
pub ends_steps : (m : Machine) (cpu i : ℕ) (x : Work) (result : Result) → (decides_send m cpu result i x).steps ≡ x.steps
ends_steps m cpu i x result =
    cond_both (λ (y : Work). y.steps) x.steps (is_own m cpu i) (x ▷ does (relists (plain.unqueued i)) ▷ does (comes_to i (after_decision result x.local.clock)))
    (answers m i result x) refl refl

-- Another thread of this processor is as it was.
pub ends_spares : (m : Machine) (cpu i r : ℕ) (x : Work) (result : Result) → (i ≡ r → ⊥) → kept (decides_send m cpu result i x).local r ≡ kept x.local r
ends_spares m cpu i r x result ne =
    let left = unqueued_other x.local i r ne in
    cond_both (λ (y : Work). kept y.local r) (kept x.local r) (is_own m cpu i)
    (x ▷ does (relists (plain.unqueued i)) ▷ does (comes_to i (after_decision result x.local.clock))) (answers m i result x)
    (comes_other (relists (plain.unqueued i) x.local) i r (after_decision result x.local.clock) ne ∙ left)
    (changes_other (relists (plain.unqueued i) x.local) i r decided ne ∙ left)
