-- What the steps tell that are possible late and not at once.
use Rattle.std.proofs.Common.{◌≡◌, true, Some}
use Rattle.std.specs.Prelude.{is_some, is_none, not}
use Rattle.l4_model.specs.Words.{GlobalId}
use Rattle.l4_model.specs.Machine.{Machine}
use Rattle.l4_model.specs.World.{World, Name, Receive, change, must_wait, receive_now}
use Rattle.l4_model.specs.Effects.{fails, refused}
use Rattle.l4_model.specs.Conditions.{Found, found, Pending, undecided, first_accepted}
use Rattle.l4_model.specs.Rules.{Failure, TimeOver, send_code, receive_code}
use Rattle.l4_model.specs.Steps.{ThreadStep, OfThread, Runs, Waits, Fails, Obeys, OfSend, Failed, SendTimeout, ReceiveTimeout, without_send}
use Rattle.l4_model.proofs.Chains.{bind_then, guard_then, some_is}
use Rattle.l4_model.proofs.Inversions.{thread_found}
use Rattle.l4_model.proofs.Places.{and_true}
use Rattle.l4_worlds.specs.Late.{next_late, may_time_out, may_refuse_late, may_fail_late}

pub record LateRefused (m : Machine) (w v : World) (s : Name) (why : Failure) : Type 0 where
  pub p : Pending
  pub is_undecided : undecided m w s ≡ Some p
  pub may : may_refuse_late m w s p why ≡ true
  pub leads_to : without_send w p (refused (send_code why)) ≡ v

pub late_refused : (m : Machine) (w v : World) (s : Name) (why : Failure) →
    next_late m w (OfSend (Failed why) s) ≡ Some v → LateRefused m w v s why
late_refused m w v s why h =
    bind_then (undecided m w s) _ v h λ p is_undecided rest.
    guard_then (may_refuse_late m w s p why) _ v rest λ may rest.
    record { p = p; is_undecided = is_undecided; may = may; leads_to = some_is _ v rest }

pub record LateFailed (m : Machine) (w v : World) (id : GlobalId) (why : Failure) : Type 0 where
  pub t : Found
  pub found : found m w id ≡ Some t
  pub receive : Receive
  pub receiving : receive_now t.now.phase ≡ Some receive
  pub may : may_fail_late m w t receive why ≡ true
  pub leads_to : change w t.at (fails (receive_code why)) ≡ v

pub late_failed : (m : Machine) (w v : World) (id : GlobalId) (why : Failure) →
    next_late m w (OfThread (Fails why) id) ≡ Some v → LateFailed m w v id why
late_failed m w v id why h =
    bind_then (found m w id) _ v h λ t found rest.
    bind_then (receive_now t.now.phase) _ v rest λ receive receiving rest.
    guard_then (may_fail_late m w t receive why) _ v rest λ may rest.
    record { t = t; found = found; receive = receive; receiving = receiving; may = may; leads_to = some_is _ v rest }

-- A step of a thread finds it, also late.
pub late_found : (m : Machine) (w v : World) (kind : ThreadStep) (id : GlobalId) →
    next_late m w (OfThread kind id) ≡ Some v → (t : Found) × (found m w id ≡ Some t)
late_found m w v Runs id h = thread_found m w v Runs id h
late_found m w v Waits id h = thread_found m w v Waits id h
late_found m w v (Fails why) id h = let k = late_failed m w v id why h in (k.t, k.found)
late_found m w v Obeys id h = thread_found m w v Obeys id h

-- And since time is over.

pub record LateSendTimeout (m : Machine) (w v : World) (s : Name) : Type 0 where
  pub p : Pending
  pub is_undecided : undecided m w s ≡ Some p
  pub may : may_time_out m w p ≡ true
  pub free : (not (must_wait w.owed s.thread p.send.to)) ≡ true
  pub leads_to : without_send w p (refused 2) ≡ v

pub late_send_timeout : (m : Machine) (w v : World) (s : Name) → next_late m w (SendTimeout s) ≡ Some v → LateSendTimeout m w v s
late_send_timeout m w v s h =
    let k = late_refused m w v s TimeOver h in
    let both = and_true (may_time_out m w k.p) _ k.may in
    record { p = k.p; is_undecided = k.is_undecided; may = both.0; free = both.1; leads_to = k.leads_to }

pub record LateReceiveTimeout (m : Machine) (w v : World) (id : GlobalId) : Type 0 where
  pub t : Found
  pub found : found m w id ≡ Some t
  pub receive : Receive
  pub receiving : receive_now t.now.phase ≡ Some receive
  pub finite : is_some receive.period ≡ true
  pub none_accepted : (is_none (first_accepted m w t receive.from)) ≡ true
  pub leads_to : change w t.at (fails 3) ≡ v

pub late_receive_timeout : (m : Machine) (w v : World) (id : GlobalId) → next_late m w (ReceiveTimeout id) ≡ Some v → LateReceiveTimeout m w v id
late_receive_timeout m w v id h =
    let k = late_failed m w v id TimeOver h in
    let both = and_true (is_some k.receive.period) _ k.may in
    record {
      t = k.t;
      found = k.found;
      receive = k.receive;
      receiving = k.receiving;
      finite = both.0;
      none_accepted = both.1;
      leads_to = k.leads_to;
    }
