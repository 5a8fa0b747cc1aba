-- A message is handed over.
use Rattle.std.proofs.Common.{◌≡◌, ℕ, true, false, not, is_some, Option, Some, None, refl, ap, sym, ◌∙◌, subst}
use Rattle.std.specs.Prelude.{unwrap_or}
use Rattle.std.specs.Option.{option_map}
use Rattle.l4_model.specs.World.{Message, Send, Thread, receive_now}
use Rattle.l4_model.specs.Rules.{received_tag, is_cross}
use Rattle.l4_model.specs.Effects.{receives}
use Rattle.l4_model.specs.Steps as steps
use Rattle.l4_core_model.specs.Letters.{Delivered}
use Rattle.l4_core_model.specs.Local.{declared, is_own, last_name, thread, comes_to}
use Rattle.l4_core_model.specs.Acts.{Work, decides_send}
use Rattle.l4_core_model.proofs.Fit.{get_other}
use Rattle.l4_types.specs.declared.step_ref.DeliveryRef.{DeliveryRef}
use Rattle.l4_types.specs.StepView.{delivered}
use Rattle.l4_thread.specs.Inner.Messages.{outgoing}
use Rattle.l4_thread.specs.Inner.Requests.{message_if}
use Rattle.l4_core.specs.Inner.Parts.{AreCore}
use Rattle.l4_core.specs.Processor.{Processor, with_local}
use Rattle.l4_core.specs.EventBuffers.{EventBuffer, with_step}
use Rattle.l4_core.specs.Inner.Turning.{hands_message, hands_over, hands_send, work, Does, IsSender, IsReceiver}
use Rattle.l4_core.proofs.Crossing.{crosses}
use Rattle.l4_core.proofs.Fitting.{waits_not_sends}

-- A receiver has no undecided send.
pub apart : (p : Processor) (r i : ℕ) → AreCore p → IsReceiver p r → IsSender p i → r ≡ i → ⊥
apart p r i core receiver sender e = waits_not_sends _ (subst (λ k. is_some (receive_now (thread p.local k).phase) ≡ true) e receiver.waits) (core.settled.sending i (subst (λ k. is_own p.machine p.cpu k ≡ true) e receiver.own.own) sender.sends)

-- The sender still sends once the receiver has its message.
pub still_sends : (p q : Processor) (r i : ℕ) (f : Thread → Thread) → AreCore p → IsReceiver p r → IsSender p i → q ≡ with_local p (comes_to r f p.local) → IsSender q i
still_sends p q r i f core receiver sender is =
    let same = get_other f p.local.threads r i (apart p r i core receiver sender) in
    subst (λ (x : Processor). IsSender x i) (sym is) (record { within = sender.within; sends = ap (λ (t : Thread). is_some t.send) same ∙ sender.sends })

message_in : (o : Option Send) (message : Message) → option_map (λ (s : Send). s.message) o ≡ Some message → (send : Send) × (o ≡ Some send) × (send.message ≡ message)
message_in None message e = cc
message_in (Some send) message e = (send, refl, cc)

handed_is : (p : Processor) (r i : ℕ) (send : Send) (x : Work) → (thread x.local i).send ≡ Some send →
    hands_over p.machine p.cpu r i x ≡ hands_message p.machine p.cpu r i send.message (received_tag (is_cross p.machine (declared p.machine r).id send.message) send.message) x
handed_is p r i send x has = ap (λ o. hands_send p.machine p.cpu r i o x) has

pub hand_over_does : (p q u : Processor) (r i : ℕ) (before middle after : EventBuffer) (d : DeliveryRef) (tag : ℕ) → AreCore p → IsReceiver p r → IsSender p i →
    d.name ≡ last_name p.machine p.local i → d.receiver ≡ (declared p.machine r).id → option_map (λ (s : Send). s.message) (thread p.local i).send ≡ Some d.message → d.message.actual ≡ (declared p.machine i).id → d.cross ≡ not (is_own p.machine p.cpu i) →
    tag ≡ received_tag d.cross d.message → middle ≡ with_step (delivered d) before → q ≡ with_local p (comes_to r (receives (outgoing (declared p.machine i).id (thread p.local i)) tag) p.local) → Does (decides_send q.machine q.cpu Delivered i) q u middle after →
    Does (hands_over p.machine p.cpu r i) p u before after
hand_over_does p q u r i before middle after d tag core receiver sender named to carries from crossing tagged tells passed doing =
    let s = message_in (thread p.local i).send d.message carries in
    let is : q ≡ with_local p (comes_to r (receives d.message tag) p.local) =
    passed ∙ ap (λ (o : Option Send). with_local p (comes_to r (receives (unwrap_or (option_map (λ (send : Send). send.message) o) (message_if false (declared p.machine i).id (thread p.local i).context)) tag) p.local)) s.1
    ∙ ap (λ (n : Message). with_local p (comes_to r (receives n tag) p.local)) s.2 in
    let crossed : is_cross p.machine (declared p.machine r).id d.message ≡ d.cross = crosses p.machine p.cpu r i d.message core.machine receiver.own sender.within from ∙ sym crossing in
    let tag_is : received_tag (is_cross p.machine (declared p.machine r).id d.message) d.message ≡ tag = ap (λ b. received_tag b d.message) crossed ∙ sym tagged in
    let whole : hands_over p.machine p.cpu r i (work p.local before) ≡ hands_message p.machine p.cpu r i d.message tag (work p.local before) =
    handed_is p r i s.0 (work p.local before) s.1 ∙ ap (λ (n : Message). hands_message p.machine p.cpu r i n (received_tag (is_cross p.machine (declared p.machine r).id n) n) (work p.local before)) s.2
    ∙ ap (λ t. hands_message p.machine p.cpu r i d.message t (work p.local before)) tag_is in
    let step : delivered d ≡ steps.Deliver (last_name p.machine p.local i) (declared p.machine r).id d.message.shown d.message.actual tag d.message.words =
    ap (λ t. steps.Deliver d.name d.receiver d.message.shown d.message.actual t d.message.words) (sym tagged) ∙ ap (λ n. steps.Deliver n d.receiver d.message.shown d.message.actual tag d.message.words) named
    ∙ ap (λ g. steps.Deliver (last_name p.machine p.local i) g d.message.shown d.message.actual tag d.message.words) to in
    let here : work q.local middle ≡ work (comes_to r (receives d.message tag) p.local) (with_step (steps.Deliver (last_name p.machine p.local i) (declared p.machine r).id d.message.shown d.message.actual tag d.message.words) before) =
    ap (λ (x : Processor). work x.local middle) is ∙ ap (λ (t : EventBuffer). work (comes_to r (receives d.message tag) p.local) t) (tells ∙ ap (λ s. with_step s before) step) in
    record {
      machine = doing.machine ∙ ap (λ (x : Processor). x.machine) is;
      cpu = doing.cpu ∙ ap (λ (x : Processor). x.cpu) is;
      stamp = doing.stamp ∙ ap (λ (x : Processor). x.local.stamp) is;
      kept = doing.kept ∙ ap (λ (t : EventBuffer). t.before) tells;
      work = doing.work ∙ ap (λ (x : Processor). decides_send x.machine x.cpu Delivered i (work q.local middle)) is ∙ ap (decides_send p.machine p.cpu Delivered i) here ∙ sym whole;
    }
