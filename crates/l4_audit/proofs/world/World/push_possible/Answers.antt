use Rattle.std.proofs.Common.{ap, drop, ◌∙◌, ◌++◌, rules, Some}
use Rattle.std.specs.Prelude.{filter_map, map, option_map}
use Rattle.std.proofs.lemmas.Result.{on_ok_weaker}
use Rattle.l4_model.specs.Conditions.{act_of}
use Rattle.l4_model.specs.Steps.{Local, Begin, Queue, Wait, SendTimeout, ReceiveTimeout, SendNobody, ReceiveNobody, SendCancel, ReceiveCancel, Drop, Obey, order_of}
use Rattle.l4_types.specs.StepView.{step_of}
use Rattle.l4_audit.specs.Inner.Audited.{Audited}
use Rattle.l4_audit.specs.Possible.{candidates, delivery, order, turn, where_possible}
use Rattle.l4_audit.proofs.Listing.{push_then, mapped}
use Rattle.l4_audit.proofs.world.World.push_possible.Goals as goal

pub returns : goal.returns
returns c =
    let m = c.args.self.now.machine in
    let w = c.args.self.now.world in
    let f = where_possible m w in
    let t = c.args.thread.now in
    let all = candidates m w t in
    let id = c.id-id.ensures in
    on_ok_weaker c.push_turns.result (λ turns.
    push_then f _ _ _ _ _ (drop 1 all) c.in_ok-push.ensures (ap (λ x. Some (Local x)) id)
    (push_then f _ _ _ _ _ (drop 2 all) c.in_ok-push-2.ensures (mapped step_of Begin _ _ _ (λ x y p. search rules) c.map.ensures.cases ∙ ap (option_map Begin) c.coming_name.ensures)
    (push_then f _ _ _ _ _ (drop 3 all) c.in_ok-push-3.ensures (mapped step_of Queue _ _ _ (λ x y p. search rules) c.map-2.ensures.cases ∙ ap (option_map Queue) c.last_name.ensures)
    (push_then f _ _ _ _ _ (drop 4 all) c.in_ok-push-4.ensures (c.delivery_of.ensures ∙ ap (delivery m w) c.last_name-2.ensures)
    (push_then f _ _ _ _ _ (drop 5 all) c.in_ok-push-5.ensures (ap (λ x. Some (Wait x)) id)
    (push_then f _ _ _ _ _ (drop 6 all) c.in_ok-push-6.ensures (mapped step_of SendTimeout _ _ _ (λ x y p. search rules) c.map-3.ensures.cases ∙ ap (option_map SendTimeout) c.last_name-3.ensures)
    (push_then f _ _ _ _ _ (drop 7 all) c.in_ok-push-7.ensures (ap (λ x. Some (ReceiveTimeout x)) id)
    (push_then f _ _ _ _ _ (drop 8 all) c.in_ok-push-8.ensures (mapped step_of SendNobody _ _ _ (λ x y p. search rules) c.map-4.ensures.cases ∙ ap (option_map SendNobody) c.last_name-4.ensures)
    (push_then f _ _ _ _ _ (drop 9 all) c.in_ok-push-9.ensures (ap (λ x. Some (ReceiveNobody x)) id)
    (push_then f _ _ _ _ _ (drop 10 all) c.in_ok-push-10.ensures (mapped step_of SendCancel _ _ _ (λ x y p. search rules) c.map-5.ensures.cases ∙ ap (option_map SendCancel) c.last_name-5.ensures)
    (push_then f _ _ _ _ _ (drop 11 all) c.in_ok-push-11.ensures (ap (λ x. Some (ReceiveCancel x)) id)
    (push_then f _ _ _ _ _ (drop 12 all) c.in_ok-push-12.ensures (mapped step_of Drop _ _ _ (λ x y p. search rules) c.map-6.ensures.cases ∙ ap (option_map Drop) c.last_name-6.ensures)
    (push_then f _ _ _ _ _ (drop 13 all) c.in_ok-push-13.ensures (c.order.ensures ∙ ap (λ (x : Audited). order t.declared.id (order_of (act_of x.machine t))) c.self.view_is)
    (push_then f _ _ _ _ _ (drop 14 all) c.in_ok-push-14.ensures (ap (λ x. Some (Obey x)) id)
    (turns ∙ ap (λ x. map step_of c.push-14.new.steps.items ++ filter_map f (map (turn x) w.owed)) id)))))))))))))))
    c.push_turns.ensures
