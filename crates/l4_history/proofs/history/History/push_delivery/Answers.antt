use Rattle.std.proofs.Common.{◌∙◌, ◌≡◌, arith, ap, ◌++◌, [], ◌∷◌, length, ◌-◌, List}
use Rattle.std.proofs.lemmas.Grind.{common_steps}
use Rattle.l4_model.specs.Steps as steps
use Rattle.l4_types.specs.StepView.{delivered}
use Rattle.l4_history.specs.Inner.Rows.{Told}
use Rattle.l4_history.proofs.Pushed.{delivery-rows, delivery-told, slots-told}
use Rattle.l4_history.proofs.history.History.push_delivery.Goals as goal

wrote : (c : goal.After-self-1) → c.append.new.words.items ≡ c.self.inside.words.items ++ c.args.delivery.now.message.words
wrote c = grind (arith, common_steps)

place : (c : goal.After-self-1) → c.len-in-Some.result ≡ length c.self.inside.heads.items
place c = grind (arith, common_steps)

start : (c : goal.After-self-1) → c.len.result ≡ length c.self.inside.words.items
start c = grind (arith, common_steps)

pub invariant_of-self : goal.invariant_of-self
invariant_of-self c = (
  delivery-rows c.self.inside.threads.slots.items c.head.new.threads.slots.items c.head.ensures.kept c.self.inside.records.items _ c.self.inside.heads.items _ c.self.inside.wide.items c.self.inside.words.items _ _ c.len-in-Some.result _ c.in-Some.head
      c.args.delivery.now c.self.invariant.0 c.in-Some.ensures.some c.at.ensures (place c) (start c) c.push_reserved.ensures.items c.push_reserved-in-Some.ensures.items (wrote c),
  grind (arith, common_steps),
  grind (arith, common_steps),
  grind (arith, common_steps),
  grind (arith, common_steps),
  grind (arith, common_steps),
)

pub returns-in-Some : goal.returns-in-Some
returns-in-Some c =
    rw (← c.self.view_is)
    (ap {B = Told} (λ (told : List steps.Step). record { steps = told; room = c.self.inside.room - 1 })
    (delivery-told c.self.inside.threads.slots.items c.head.new.threads.slots.items c.head.ensures.kept c.self.inside.records.items _ c.self.inside.heads.items _ c.self.inside.wide.items c.self.inside.words.items _ _ c.len-in-Some.result _ c.in-Some.head
    c.args.delivery.now c.self.invariant.0 c.in-Some.ensures.some c.at.ensures (place c) (start c) c.push_reserved.ensures.items c.push_reserved-in-Some.ensures.items (wrote c)))

pub returns-in-None : goal.returns-in-None
returns-in-None c =
    rw (← c.self.view_is)
    (c.push_wide_delivery.ensures ∙ ap {B = Told} (λ (told : List steps.Step). record { steps = told ++ delivered c.args.delivery.now ∷ []; room = c.self.inside.room - 1 })
    (slots-told c.self.inside.threads.slots.items c.head.new.threads.slots.items c.head.ensures.kept c.self.inside.records.items c.self.inside.heads.items c.self.inside.wide.items c.self.inside.words.items c.self.invariant.0))
