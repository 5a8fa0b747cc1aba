use Rattle.std.proofs.Common.{◌≡◌, arith, ap, refl, ◌++◌, length, ◌-◌, List}
use Rattle.std.proofs.lemmas.Grind.{common_steps}
use Rattle.l4_model.specs.Steps as steps
use Rattle.l4_history.specs.Inner.Rows.{Told}
use Rattle.l4_history.proofs.Pushed.{each-told, sent-rows, sent-told, slots-told}
use Rattle.l4_history.proofs.history.History.push_sent.Goals as goal

wrote : (c : goal.After-self-1) → c.append.new.words.items ≡ c.self.inside.words.items ++ c.args.delivery.now.message.words
wrote c = grind (arith, common_steps)

place : (c : goal.After-self-1) → c.len-in-Some.result ≡ length c.self.inside.heads.items
place c = grind (arith, common_steps)

start : (c : goal.After-self-1) → c.len.result ≡ length c.self.inside.words.items
start c = grind (arith, common_steps)

pub invariant_of-self : goal.invariant_of-self
invariant_of-self c = (
  sent-rows c.self.inside.threads.slots.items c.head.new.threads.slots.items c.head.ensures.kept c.self.inside.records.items _ _ _ c.self.inside.heads.items _ c.self.inside.wide.items c.self.inside.words.items _ _ c.len-in-Some.result _ c.in-Some.head
      c.args.delivery.now c.self.invariant.0 c.in-Some.ensures.some c.at.ensures (place c) (start c) c.push_reserved.ensures.items c.push_reserved-in-Some.ensures.items c.push_reserved-in-Some-2.ensures.items c.push_reserved-in-Some-3.ensures.items (wrote c),
  grind (arith, common_steps),
  grind (arith, common_steps),
  grind (arith, common_steps),
  grind (arith, common_steps),
  grind (arith, common_steps),
)

pub returns-in-Some : goal.returns-in-Some
returns-in-Some c =
    rw (← c.self.view_is)
    (ap {B = Told} (λ (told : List steps.Step). record { steps = told; room = c.self.inside.room - 3 })
    (sent-told c.self.inside.threads.slots.items c.head.new.threads.slots.items c.head.ensures.kept c.self.inside.records.items _ _ _ c.self.inside.heads.items _ c.self.inside.wide.items c.self.inside.words.items _ _ c.len-in-Some.result _ c.in-Some.head
    c.args.delivery.now c.self.invariant.0 c.in-Some.ensures.some c.at.ensures (place c) (start c) c.push_reserved.ensures.items c.push_reserved-in-Some.ensures.items c.push_reserved-in-Some-2.ensures.items c.push_reserved-in-Some-3.ensures.items (wrote c)))

pub returns-in-None : goal.returns-in-None
returns-in-None c =
    let same : record { thread = c.thread-thread.result; k = c.k-k.result } ≡ c.args.delivery.now.name = rw (c.thread-thread.ensures, c.k-k.ensures.value) refl in
    rw (← c.self.view_is)
    (each-told _ _ c.self.inside.room _ c.args.delivery.now c.push_rare_of_send.new.self c.push_rare_of_send-in-None.new.self c.push_wide_delivery.new.self
    (slots-told c.self.inside.threads.slots.items c.head.new.threads.slots.items c.head.ensures.kept c.self.inside.records.items c.self.inside.heads.items c.self.inside.wide.items c.self.inside.words.items c.self.invariant.0)
    same c.push_rare_of_send.ensures c.push_rare_of_send-in-None.ensures c.push_wide_delivery.ensures)
