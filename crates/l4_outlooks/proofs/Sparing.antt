-- A step stands alone as its thread's place says.
use Rattle.std.proofs.Common.{subst, ◌≡◌, ℕ, zero, suc, ◌-◌, ◌*◌, ◌/◌, ◌%◌, Bool, true, false, cond, Option, Some, None, List, [], ◌∷◌, length, refl, ap, sym, ◌∙◌}
use Rattle.std.specs.Prelude.{slice_get, is_some, nat_lt}
use Rattle.std.specs.List.{AllByRecursion}
use Rattle.l4_model.specs.Words.{GlobalId}
use Rattle.l4_model.specs.Machine.{Machine, Declaration}
use Rattle.l4_model.specs.World.{World, Name, Owed, PendingOrder}
use Rattle.l4_model.specs.Rules.{received_tag, is_cross}
use Rattle.l4_model.specs.Conditions.{◌>>=◌, Found, found_at, undecided, receiver_of, act_of}
use Rattle.l4_model.specs.Steps.{Step, Local, Begin, Queue, Deliver, Wait, SendTimeout, ReceiveTimeout, SendNobody, ReceiveNobody, SendCancel, ReceiveCancel, Drop, Order, Obey, Retarget, order_of}
use Rattle.l4_model.proofs.Chains.{bind_then, guard_then, some_is, get-map}
use Rattle.l4_worlds.specs.Late.{next_late}
use Rattle.l4_first.specs.First.{stands_alone}
use Rattle.l4_futures.specs.Choices.{in_order, coming_name, last_name, delivery, order_step, step_of, step_at, retarget_of}
use Rattle.l4_outlooks.specs.Inner.Named.{open_step}
use Rattle.l4_outlooks.specs.Inner.Standing.{spared_of, left_alone, stands_by}
use Rattle.l4_outlooks.specs.declared.alone.Spared.{Spared}

-- What may be said of a step, where there is one
abbrev IsJudged : Machine → GlobalId → Option Step → Type 0
IsJudged m id o = (s : Step) → o ≡ Some s → stands_by (Some (spared_of m id)) s ≡ stands_alone m s

judged : (m : Machine) (id : GlobalId) (step : Step) → stands_by (Some (spared_of m id)) step ≡ stands_alone m step → IsJudged m id (Some step)
judged m id step same s e = subst (λ x. stands_by (Some (spared_of m id)) x ≡ stands_alone m x) (some_is step s e) same

delivery_judged : (m : Machine) (w : World) (id : GlobalId) (name : Name) → IsJudged m id (delivery m w name)
delivery_judged m w id name s h =
    bind_then (undecided m w name) _ s h λ p is rest.
    bind_then (receiver_of m w p) _ s rest λ r to rest.
    judged m id (Deliver name r.declared.id p.send.message.shown p.send.message.actual (received_tag (is_cross m r.declared.id p.send.message) p.send.message) p.send.message.words) refl s rest

order_judged : (m : Machine) (id : GlobalId) (o : Option PendingOrder) → IsJudged m id (order_step id o)
order_judged m id None s h = cc
order_judged m id (Some o) s h = judged m id (Order id o.target o.what) refl s h

all_judged : (m : Machine) (w : World) (t : Found) (coming last : Name) → coming.thread ≡ t.declared.id → AllByRecursion (IsJudged m t.declared.id) (in_order m w t t.declared.id coming last)
all_judged m w t coming last own =
    let id = t.declared.id in (
      judged m id (Local id) refl,
      (
        judged m id (Begin coming) (ap (λ x. stands_alone m (Begin (record { thread = x; k = coming.k }))) (sym own)),
        (
          judged m id (Queue last) refl,
          (
            delivery_judged m w id last,
            (
              judged m id (Wait id) refl,
              (
                judged m id (SendTimeout last) refl,
                (
                  judged m id (ReceiveTimeout id) refl,
                  (
                    judged m id (SendNobody last) refl,
                    (
                      judged m id (ReceiveNobody id) refl,
                      (
                        judged m id (SendCancel last) refl,
                        (
                          judged m id (ReceiveCancel id) refl,
                          (judged m id (Drop last) refl, (order_judged m id (order_of (act_of m t)), (judged m id (Obey id) refl, tt))),
                        ),
                      ),
                    ),
                  ),
                ),
              ),
            ),
          ),
        ),
      ),
    )

at_kind : {Q : Type 0} (P : Option Step → Type 0) (os : List (Option Step)) (kind : ℕ) (s : Step) → AllByRecursion P os → (slice_get os kind >>= λ o. o) ≡ Some s → ((o : Option Step) → P o → o ≡ Some s → Q) → Q
at_kind P [] kind s all h f = cc
at_kind P (o ∷ os) zero s all h f = f o all.0 h
at_kind P (o ∷ os) (suc kind) s all h f = at_kind P os kind s all.1 h f

of_place : (m : Machine) (w : World) (place kind : ℕ) (s : Step) → step_of m w (found_at m w place) kind ≡ Some s → stands_by (slice_get (left_alone m) place) s ≡ stands_alone m s
of_place m w place kind s h = by (found_at m w place) refl h
  where
    by : (o : Option Found) → found_at m w place ≡ o → step_of m w o kind ≡ Some s → stands_by (slice_get (left_alone m) place) s ≡ stands_alone m s
    by None is h = cc
    by (Some t) is h =
        bind_then (slice_get m.threads place) _ t is λ d at rest.
        bind_then (slice_get w.threads place) _ t rest λ now there rest.
        let declared : d ≡ t.declared = ap (λ (x : Found). x.declared) (some_is _ t rest) in
        let here : slice_get (left_alone m) place ≡ Some (spared_of m t.declared.id) = get-map (λ (x : Declaration). spared_of m x.id) m.threads place d at ∙ ap (λ (x : Declaration). Some (spared_of m x.id)) declared in
        ap (λ o. stands_by o s) here
        ∙ at_kind (IsJudged m t.declared.id) (in_order m w t t.declared.id (coming_name t) (last_name t)) kind s (all_judged m w t (coming_name t) (last_name t) refl) h (λ o judges e. judges s e)

retarget_never : (o : Option Spared) (name : Name) → stands_by o (Retarget name) ≡ false
retarget_never None name = refl
retarget_never (Some x) name = refl

pub judges : (m : Machine) (w : World) (entry : ℕ) (s : Step) → open_step m w entry ≡ Some s → stands_by (slice_get (left_alone m) (entry / 14)) s ≡ stands_alone m s
judges m w entry s h =
    bind_then (step_at m w entry) _ s h λ step at rest.
    guard_then (is_some (next_late m w step)) _ s rest λ goes rest.
    subst (λ x. stands_by (slice_get (left_alone m) (entry / 14)) x ≡ stands_alone m x) (some_is step s rest) (by (nat_lt entry (length m.threads * 14)) step at)
  where
    by : (b : Bool) (step : Step) → cond b (step_of m w (found_at m w (entry / 14)) (entry % 14)) (retarget_of (slice_get w.owed (entry - length m.threads * 14))) ≡ Some step →
        stands_by (slice_get (left_alone m) (entry / 14)) step ≡ stands_alone m step
    by true step at = of_place m w (entry / 14) (entry % 14) step at
    by false step at = of_owed (slice_get w.owed (entry - length m.threads * 14)) at
      where
        of_owed : (o : Option Owed) → retarget_of o ≡ Some step → stands_by (slice_get (left_alone m) (entry / 14)) step ≡ stands_alone m step
        of_owed None at = cc
        of_owed (Some o) at = subst (λ x. stands_by (slice_get (left_alone m) (entry / 14)) x ≡ stands_alone m x) (some_is (Retarget o.send) step at) (retarget_never (slice_get (left_alone m) (entry / 14)) o.send)
