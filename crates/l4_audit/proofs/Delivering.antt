-- A message goes over from its sender to its receiver.
use Rattle.std.proofs.Common.{◌≡◌, ℕ, zero, suc, map, Option, Some, None, List, [], ◌∷◌, refl, ap, sym, ◌∙◌}
use Rattle.std.specs.Prelude.{slice_get}
use Rattle.std.proofs.lemmas.Slice.Eq.{bytes_eq-Decides}
use Rattle.l4_model.specs.Words.{GlobalId, Id, NilThread, AnyThread, AnyLocalThread, LocalThread, GlobalThread}
use Rattle.l4_model.specs.Machine.{Machine, place_of}
use Rattle.l4_model.specs.World.{Name, Thread, Send, Message, Owed, World, change, changed, unqueued}
use Rattle.l4_model.specs.Rules.{received_tag, owed_by}
use Rattle.l4_model.specs.Effects.{receives, delivered}
use Rattle.l4_model.specs.Conditions.{Found, Pending, found, found_by, undecided, receiver_of}
use Rattle.l4_model.specs.Steps.{owing}
use Rattle.l4_model.proofs.Inversions.{deliver_taken}
use Rattle.l4_model.proofs.Chains.{some_is, get-map, map-changed_same}
use Rattle.l4_model.proofs.Places.{same_id_is, known, known_send, id_of, sender_found, receiver_there}
use Rattle.l4_core_model.specs.Letters.{Delivered}
use Rattle.l4_core_model.specs.Local.{after_decision}
use Rattle.l4_types.specs.declared.step_ref.DeliveryRef.{DeliveryRef}
use Rattle.l4_script.proofs.Finding.{declared_at}
use Rattle.l4_audit.specs.Inner.Audited.{Audited, with_world}
use Rattle.l4_types.specs.StepView.{delivered as told}
use Rattle.l4_audit.specs.Inner.Delivering.{taken_over, IsFound}
use Rattle.l4_audit.specs.Reasons.{reason}
use Rattle.l4_audit.specs.Inner.Taking.{IsTaken}
use Rattle.l4_audit.proofs.Reasoning.{is_possible}
use Rattle.l4_audit.proofs.Starting.{changes_at}

-- Two changes that agree where some part of an element is as it is at a place.
changed_where : {A B : Type 0} (g : A → B) (f h : A → A) (xs : List A) (i : ℕ) (y : B) → slice_get (map g xs) i ≡ Some y → ((x : A) → g x ≡ y → f x ≡ h x) → changed f xs i ≡ changed h xs i
changed_where g f h [] i y at e = refl
changed_where g f h (x ∷ xs) zero y at e = ap (λ z. z ∷ xs) (e x (some_is (g x) y at))
changed_where g f h (x ∷ xs) (suc i) y at e = ap (λ zs. x ∷ zs) (changed_where g f h xs i y at e)

same_receives : (d p : Message) (tag : ℕ) (t : Thread) → d.shown ≡ p.shown → d.actual ≡ p.actual → d.words ≡ p.words → receives d tag t ≡ receives p tag t
same_receives d p tag t a b c = rw (a, b, c) refl

same_end : (send : Send) (now : ℕ) (t : Thread) → t.send ≡ Some send → after_decision Delivered now t ≡ delivered send now t
same_end send now t e = rw e refl

pub is_found : (m : Machine) (w : World) (id : GlobalId) (t : Found) → found m w id ≡ Some t → IsFound m t
is_found m w id t is =
    let k = known m w id t is in
    declared_at m t.declared.id t.at (ap (place_of m) (id_of m w id t is).0 ∙ k.place) ∙ k.declared

pub sender_is_found : (m : Machine) (w : World) (s : Name) (p : Pending) → undecided m w s ≡ Some p → IsFound m p.sender
sender_is_found m w s p is = is_found m w s.thread p.sender (sender_found m w s p is)

pub receiver_is_found : (m : Machine) (w : World) (to : Id) (r : Found) → found_by m w to ≡ Some r → IsFound m r
receiver_is_found m w NilThread r is = cc
receiver_is_found m w AnyThread r is = cc
receiver_is_found m w AnyLocalThread r is = cc
receiver_is_found m w (LocalThread word) r is = cc
receiver_is_found m w (GlobalThread t) r is = is_found m w t r is

-- The step is possible, so it is told as it was sent: a retarget is owed, and the message goes over.
pub delivers_now : (a x b : Audited) (d : DeliveryRef) (p : Pending) (r : Found) (o : Option Owed) → undecided a.machine a.world d.name ≡ Some p → receiver_of a.machine a.world p ≡ Some r →
    reason a.machine a.world (told d) ≡ None → o ≡ owed_by a.machine d.name p.send.message d.receiver → x ≡ with_world a (owing o a.world) →
    b ≡ with_world x (taken_over p.sender.at r.at d p.sender.clock x.world) → IsTaken a (told d) b
delivers_now a x b d p r o is to none owes more ends =
    let m : Machine = a.machine in
    let w : World = a.world in
    let tag : ℕ = received_tag d.cross d.message in
    let v = is_possible m w (told d) none in
    let k = deliver_taken m w v.0 d.name d.receiver d.message.shown d.message.actual tag d.message.words v.1 in
    let send : k.p ≡ p = some_is k.p p (sym k.is_undecided ∙ is) in
    let receiver : k.r ≡ r = some_is k.r r (sym k.to ∙ ap (receiver_of m w) send ∙ to) in
    let shown : d.message.shown ≡ k.p.send.message.shown = same_id_is _ _ k.same_shown in
    let actual : d.message.actual ≡ k.p.send.message.actual = same_id_is _ _ k.same_actual in
    let words : d.message.words ≡ k.p.send.message.words = (bytes_eq-Decides d.message.words k.p.send.message.words).0 k.same_words in
    let s : ℕ = k.p.sender.at in
    let now : ℕ = k.p.sender.clock in
    let got : change (unqueued w s) k.r.at (receives d.message tag) ≡ change (unqueued w s) k.r.at (receives k.p.send.message tag) =
    changes_at (unqueued w s) k.r.at (receives d.message tag) (receives k.p.send.message tag) k.r.now (receiver_there m w k.p.send.to k.r k.to) (same_receives d.message k.p.send.message tag k.r.now shown actual words) in
    let u : World = change (unqueued w s) k.r.at (receives k.p.send.message tag) in
    let known = known_send m w d.name k.p k.is_undecided in
    let has : slice_get (map (λ (t : Thread). t.send) u.threads) s ≡ Some (Some k.p.send) =
    ap (λ xs. slice_get xs s) (map-changed_same (λ (t : Thread). t.send) (receives k.p.send.message tag) (λ t. refl) w.threads k.r.at)
    ∙ get-map (λ (t : Thread). t.send) w.threads s k.p.sender.now known.sender.now ∙ ap Some known.send in
    let ended_so : change u s (after_decision Delivered now) ≡ change u s (delivered k.p.send now) =
    ap (λ ts. record u { threads = ts })
    (changed_where (λ (t : Thread). t.send) (after_decision Delivered now) (delivered k.p.send now) u.threads s (Some k.p.send) has (λ t e. same_end k.p.send now t e)) in
    let over : taken_over s k.r.at d now w ≡ change u s (delivered k.p.send now) = ap (λ y. change y s (after_decision Delivered now)) got ∙ ended_so in
    let owed : o ≡ owed_by m d.name k.p.send.message d.receiver = owes ∙ ap (λ (q : Pending). owed_by m d.name q.send.message d.receiver) (sym send) in
    let here : taken_over p.sender.at r.at d p.sender.clock w ≡ taken_over s k.r.at d now w =
    ap (λ (q : Pending). taken_over q.sender.at r.at d q.sender.clock w) (sym send) ∙ ap (λ (y : Found). taken_over s y.at d now w) (sym receiver) in
    let final : b.world ≡ v.0 =
    ap (λ (y : Audited). y.world) ends ∙ ap (λ (y : Audited). taken_over p.sender.at r.at d p.sender.clock y.world) more
    ∙ ap (owing o) (here ∙ over) ∙ ap (λ q. owing q (change u s (delivered k.p.send now))) owed ∙ k.leads_to in
    record { machine = ap (λ (y : Audited). y.machine) ends ∙ ap (λ (y : Audited). y.machine) more; possible = v.1 ∙ ap Some (sym final) }
