-- What a thread asked for is done: there is room for its next place.
use Rattle.std.proofs.Common.{◌≡◌, ℕ, ◌<◌, ◌+◌, ◌^◌, zero, suc, length, map, Some, List, [], ◌∷◌, refl, ap, ◌∙◌, arith}
use Rattle.std.specs.Prelude.{slice_get, IsSomeAnd, is_some}
use Rattle.l4_model.specs.Words.{GlobalId}
use Rattle.l4_model.specs.Machine.{Machine, OrderKind, CancelSend, CancelReceive, CancelBoth, Delete}
use Rattle.l4_model.specs.World.{Thread, Context, World, changed}
use Rattle.l4_model.specs.Effects.{asked}
use Rattle.l4_model.specs.Conditions.{Found, found}
use Rattle.l4_model.proofs.Chains.{map-changed_same, get-map, some_is}
use Rattle.l4_model.proofs.Places.{known, place_id}
use Rattle.l4_audit.specs.Inner.Audited.{Audited, IsAsked, IsPlaced}

asked_context : (what : OrderKind) (t : Thread) → (asked what t).context ≡ t.context
asked_context CancelSend t = refl
asked_context CancelReceive t = refl
asked_context CancelBoth t = refl
asked_context Delete t = refl

of_part : {A B : Type 0} (g : A → B) (P : B → Type 0) (xs : List A) (i : ℕ) (y : B) → slice_get (map g xs) i ≡ Some y → P y → IsSomeAnd (slice_get xs i) (λ x. P (g x))
of_part g P [] i y h p = cc
of_part g P (x ∷ xs) zero y h p = rw (some_is (g x) y h) p
of_part g P (x ∷ xs) (suc i) y h p = of_part g P xs i y h p

pub room_to_obey : (a : Audited) (id : GlobalId) (t : Found) (target : ℕ) (what : OrderKind) → IsPlaced a → found a.machine a.world id ≡ Some t → IsAsked a.machine t target what →
    IsSomeAnd (slice_get (changed (asked what) a.world.threads target) t.at) (λ x. x.context.place + 1 < 2 ^ 64)
room_to_obey a id t target what placed is asks =
    let w : World = a.world in
    let k = known a.machine w id t is in
    let now = k.now in
    let lt = placed t.at t.declared t.now k.declared now (ap is_some asks.asked) in
    let limit = asks.limit in
    let e : slice_get (map (λ (x : Thread). x.context) (changed (asked what) w.threads target)) t.at ≡ Some t.now.context =
    ap (λ cs. slice_get cs t.at) (map-changed_same (λ (x : Thread). x.context) (asked what) (asked_context what) w.threads target) ∙ get-map (λ (x : Thread). x.context) w.threads t.at t.now now in
    of_part (λ (x : Thread). x.context) (λ (y : Context). y.place + 1 < 2 ^ 64) (changed (asked what) w.threads target) t.at t.now.context e (omega (arith, lt, limit))

pub target_within : (m : Machine) (t : Found) (target : ℕ) (what : OrderKind) → IsAsked m t target what → target < length m.threads
target_within m t target what asks =
    (place_id m asks.order.target target asks.place (record { id = asks.order.target; cpu = 0; space = 0; script = [] })).0
