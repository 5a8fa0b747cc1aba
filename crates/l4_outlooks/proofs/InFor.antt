-- A step that is possible is one that its thread is in for.
use Rattle.std.proofs.Common.{subst, ◌≡◌, ℕ, zero, suc, ◌<◌, Bool, true, false, cond, Option, Some, None, List, [], ◌∷◌, length, get_or, refl, ap, sym, ◌∙◌, arith}
use Rattle.std.proofs.lemmas.Option.{get_or_from_slice_get}
use Rattle.std.specs.Prelude.{slice_get, is_some}
use Rattle.l4_model.specs.Words.{GlobalId}
use Rattle.l4_model.specs.Machine.{Machine, Declaration, place_of}
use Rattle.l4_model.specs.World.{World, PendingOrder, is_ready, receive_now}
use Rattle.l4_model.specs.Conditions.{◌>>=◌, Found, found, found_at, Pending, undecided, act_of}
use Rattle.l4_model.specs.Steps.{Step, Local, Begin, Queue, Deliver, Wait, SendTimeout, ReceiveTimeout, SendNobody, ReceiveNobody, SendCancel, ReceiveCancel, Drop, Order, Obey, order_of}
use Rattle.l4_model.proofs.Chains.{bind_then, some_is}
use Rattle.l4_model.proofs.Inversions.{local_taken, begin_taken, queue_taken, wait_taken, send_nobody_taken, send_cancel_taken, drop_taken, receive_nobody_taken, receive_cancel_taken, order_taken, obey_taken}
use Rattle.l4_model.proofs.Places.{known_send, sender_found}
use Rattle.l4_core_model.specs.Local.{declared, undeclared}
use Rattle.l4_core_model.specs.Runs.{IsMachine}
use Rattle.l4_worlds.specs.Late.{next_late}
use Rattle.l4_worlds.proofs.Taken.{late_send_timeout, late_receive_timeout}
use Rattle.l4_futures.specs.Choices.{in_order, coming_name, last_name, delivery, order_step, step_of}
use Rattle.l4_outlooks.specs.Inner.Named.{in_for}

-- Where this step is possible, this is so.
abbrev NeedsIt : Machine → World → Option Step → Bool → Type 0
NeedsIt m w o b = (s : Step) (v : World) → o ≡ Some s → next_late m w s ≡ Some v → b ≡ true

abbrev NeedThem : Machine → World → List (Option Step) → List Bool → Type 0
NeedThem m w [] bs = Unit {0}
NeedThem m w (o ∷ os) [] = ⊥
NeedThem m w (o ∷ os) (b ∷ bs) = NeedsIt m w o b × NeedThem m w os bs

needs : (m : Machine) (w : World) (step : Step) (b : Bool) → ((v : World) → next_late m w step ≡ Some v → b ≡ true) → NeedsIt m w (Some step) b
needs m w step b f s v is goes = f v (subst (λ x. next_late m w x ≡ Some v) (sym (some_is step s is)) goes)

at_kind : (m : Machine) (w : World) (os : List (Option Step)) (bs : List Bool) (kind : ℕ) (s : Step) (v : World) → NeedThem m w os bs → (slice_get os kind >>= λ o. o) ≡ Some s → next_late m w s ≡ Some v → get_or bs kind false ≡ true
at_kind m w [] bs kind s v all is goes = cc
at_kind m w (o ∷ os) [] kind s v all is goes = absurd all
at_kind m w (o ∷ os) (b ∷ bs) zero s v all is goes = all.0 s v is goes
at_kind m w (o ∷ os) (b ∷ bs) (suc kind) s v all is goes = at_kind m w os bs kind s v all.1 is goes

module _ (m : Machine) (w : World) (t : Found) (here : found m w t.declared.id ≡ Some t) where
  same : (x : Found) → found m w t.declared.id ≡ Some x → x ≡ t
  same x is = some_is x t (sym is ∙ here)

  ready : (x : Found) → found m w t.declared.id ≡ Some x → is_ready x.now.phase ≡ true → is_ready t.now.phase ≡ true
  ready x is h = ap (λ (y : Found). is_ready y.now.phase) (sym (same x is)) ∙ h

  receives : (x : Found) → found m w t.declared.id ≡ Some x → is_some (receive_now x.now.phase) ≡ true → is_some (receive_now t.now.phase) ≡ true
  receives x is h = ap (λ (y : Found). is_some (receive_now y.now.phase)) (sym (same x is)) ∙ h

  asks : (x : Found) → found m w t.declared.id ≡ Some x → is_some x.now.order ≡ true → is_some t.now.order ≡ true
  asks x is h = ap (λ (y : Found). is_some y.now.order) (sym (same x is)) ∙ h

  sends : (p : Pending) → undecided m w (last_name t) ≡ Some p → is_some t.now.send ≡ true
  sends p is =
      ap (λ (y : Found). is_some y.now.send) (sym (same p.sender (sender_found m w (last_name t) p is)))
      ∙ ap is_some (known_send m w (last_name t) p is).send

  delivers : NeedsIt m w (delivery m w (last_name t)) (is_some t.now.send)
  delivers s v is goes = bind_then (undecided m w (last_name t)) _ s is λ p u rest. sends p u

  orders_it : (o : Option PendingOrder) → NeedsIt m w (order_step t.declared.id o) (is_ready t.now.phase)
  orders_it None s v is goes = cc
  orders_it (Some o) s v is goes = needs m w (Order t.declared.id o.target o.what) (is_ready t.now.phase) (λ u on. let k = order_taken m w u t.declared.id o.target o.what on in ready k.t k.found k.ready) s v is goes

  all_need : NeedThem m w (in_order m w t t.declared.id (coming_name t) (last_name t)) (in_for t.now)
  all_need =
      let id = t.declared.id in
      let last = last_name t in
      let is_on = is_ready t.now.phase in
      let sent = is_some t.now.send in
      let waits = is_some (receive_now t.now.phase) in (
        needs m w (Local id) is_on (λ v goes. let k = local_taken m w v id goes in ready k.t k.found k.ready),
        (
          needs m w (Begin (coming_name t)) is_on (λ v goes. let k = begin_taken m w v (coming_name t) goes in ready k.t k.found k.ready),
          (
            needs m w (Queue last) sent (λ v goes. let k = queue_taken m w v last goes in sends k.p k.is_undecided),
            (
              delivers,
              (
                needs m w (Wait id) is_on (λ v goes. let k = wait_taken m w v id goes in ready k.t k.found k.ready),
                (
                  needs m w (SendTimeout last) sent (λ v goes. let k = late_send_timeout m w v last goes in sends k.p k.is_undecided),
                  (
                    needs m w (ReceiveTimeout id) waits (λ v goes. let k = late_receive_timeout m w v id goes in receives k.t k.found (ap is_some k.receiving)),
                    (
                      needs m w (SendNobody last) sent (λ v goes. let k = send_nobody_taken m w v last goes in sends k.p k.is_undecided),
                      (
                        needs m w (ReceiveNobody id) waits (λ v goes. let k = receive_nobody_taken m w v id goes in receives k.t k.found (ap is_some k.receiving)),
                        (
                          needs m w (SendCancel last) sent (λ v goes. let k = send_cancel_taken m w v last goes in sends k.p k.is_undecided),
                          (
                            needs m w (ReceiveCancel id) waits (λ v goes. let k = receive_cancel_taken m w v id goes in receives k.t k.found (ap is_some k.receiving)),
                            (
                              needs m w (Drop last) sent (λ v goes. let k = drop_taken m w v last goes in sends k.p k.is_undecided),
                              (
                                orders_it (order_of (act_of m t)),
                                (needs m w (Obey id) (is_some t.now.order) (λ v goes. let k = obey_taken m w v id goes in asks k.t k.found (ap is_some k.ordered)), tt),
                              ),
                            ),
                          ),
                        ),
                      ),
                    ),
                  ),
                ),
              ),
            ),
          ),
        ),
      )

-- A thread is found by its id as at its place.

inside : {A : Type 0} (xs : List A) (i : ℕ) (x : A) → slice_get xs i ≡ Some x → i < length xs
inside [] i x is = cc
inside (y ∷ xs) zero x is = omega arith
inside (y ∷ xs) (suc i) x is = let rest = inside xs i x is in omega arith

found_again : (m : Machine) (w : World) (place : ℕ) (t : Found) → IsMachine m → found_at m w place ≡ Some t → found m w t.declared.id ≡ Some t
found_again m w place t lawful is =
    bind_then (slice_get m.threads place) _ t is λ d at rest.
    bind_then (slice_get w.threads place) _ t rest λ now there rest.
    let declared_here : declared m place ≡ t.declared = get_or_from_slice_get m.threads place d undeclared at ∙ ap (λ (x : Found). x.declared) (some_is _ t rest) in
    let placed : place_of m t.declared.id ≡ Some place = ap (λ (x : Declaration). place_of m x.id) (sym declared_here) ∙ lawful.placed place (inside m.threads place d at) in
    ap (λ o. o >>= found_at m w) placed ∙ is

pub is_in_for : (m : Machine) (w : World) (place kind : ℕ) (t : Found) (s : Step) (v : World) → IsMachine m → found_at m w place ≡ Some t → step_of m w (Some t) kind ≡ Some s → next_late m w s ≡ Some v → get_or (in_for t.now) kind false ≡ true
is_in_for m w place kind t s v lawful is names goes =
    at_kind m w (in_order m w t t.declared.id (coming_name t) (last_name t)) (in_for t.now) kind s v (all_need m w t (found_again m w place t lawful is)) names goes
