-- No finite period but zero stands in a settled world.
use Rattle.std.proofs.Common.{◌≡◌, ℕ, Bool, true, false, Option, Some, None, refl, subst, arith}
use Rattle.std.specs.Prelude.{IfSome, ◌==◌}
use Rattle.std.proofs.lemmas.Bool.{eqb-true}
use Rattle.std.proofs.lemmas.Option.{get_or_from_slice_get, slice_get_within}
use Rattle.l4_model.specs.Words.{Period}
use Rattle.l4_model.specs.Machine.{Machine}
use Rattle.l4_model.specs.World.{World, Thread, Send, Receive, Phase, Ready, Sending, Receiving, Ordering, Ended, Deleted, receive_now, opening_thread}
use Rattle.l4_model.specs.Conditions.{is_zero}
use Rattle.l4_refines.proofs.Relation.Views.{world_thread}
use Rattle.l4_refines.proofs.Rest.Settled.{IsSettled, IsSettledThread}
use Rattle.l4_worlds.specs.Histories.{IsNeverOrZero, IsUntimed, IsUntimedIn}

-- A period that is zero where it is finite
never_or_zero : (period : Period) → ((n : ℕ) → period ≡ Some n → is_zero period ≡ false → ⊥) → IsNeverOrZero period
never_or_zero None endless = tt
never_or_zero (Some n) endless = by (n == 0) refl
  where
    by : (b : Bool) → (n == 0) ≡ b → n ≡ 0
    by true is = eqb-true n 0 is
    by false is = absurd (endless n refl is)

-- What stands of a settled thread

phase_untimed : (p : Phase) → ((receive : Receive) → receive_now p ≡ Some receive → IsNeverOrZero receive.period) → IsUntimedIn p
phase_untimed Ready receives = tt
phase_untimed Sending receives = tt
phase_untimed (Receiving receive since) receives = receives receive refl
phase_untimed Ordering receives = tt
phase_untimed Ended receives = tt
phase_untimed Deleted receives = tt

send_untimed : (o : Option Send) → ((send : Send) → o ≡ Some send → IsNeverOrZero send.period) → IfSome o (λ (send : Send). IsNeverOrZero send.period)
send_untimed None sends = tt
send_untimed (Some send) sends = sends send refl

abbrev IsUntimedThread : Thread → Type 0
IsUntimedThread t = IsUntimedIn t.phase × IfSome t.send (λ (send : Send). IsNeverOrZero send.period)

thread_untimed : (m : Machine) (w : World) (i : ℕ) → IsSettledThread m w i → IsUntimedThread (world_thread w i)
thread_untimed m w i s = (
  phase_untimed (world_thread w i).phase (λ receive is. never_or_zero receive.period (λ n period not_zero. (s.receives receive is).endless n period)),
  send_untimed (world_thread w i).send (λ send has. never_or_zero send.period (s.sends send has).endless),
)

pub settled_untimed : (m : Machine) (w : World) → IsSettled m w → IsUntimed w
settled_untimed m w settled i t at =
    let within = slice_get_within w.threads i t at in
    let same : world_thread w i ≡ t = get_or_from_slice_get w.threads i t opening_thread at in
    subst IsUntimedThread same (thread_untimed m w i (settled.threads i (omega (arith, within, settled.size))))
